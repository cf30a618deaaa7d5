use Rattle.std.proofs.Common.{◌≡◌, ◌*◌, length, take}
use Rattle.std.specs.Prelude.{option_map}
use Rattle.shelf_io.specs.WholeFile.{all_appended}
use Rattle.code_spec.specs.Code.{IsState}
use Rattle.code_spec.specs.Output.{state_after}
use Rattle.code_spec.specs.PlainText.{file_words}
use Rattle.block_codec.specs.inside.Digits.{digits_from}
use Rattle.block_codec.proofs.pieces.put_pieces.Given as goal

-- the digits of the pieces so far are put
abbrev pub invariant-loop-part : goal.invariant-loop-part
invariant-loop-part g l = record {
  put : g.F.Shelf.files l.shelf ≡ option_map (all_appended l.name (digits_from l.code l.fn.state (file_words l.code.p (take (6720 * l.part) l.file)))) (g.F.Shelf.files l.initial.shelf);
  leads : l.state ≡ state_after l.code.rows l.fn.state (file_words l.code.p (take (6720 * l.part) l.file));
  inside : IsState l.code l.state;
  room : length l.room ≡ length l.initial.room;
  count : g.F.Shelf.faults l.shelf ≡ g.F.Shelf.faults l.initial.shelf;
}
