use Rattle.std.proofs.Common.{◌≡◌, ◌+◌, ◌-◌, ◌≤◌, List, ℕ, length}
use Rattle.shelf_io.specs.Reads.{HasRead}
use Rattle.command_steps.specs.Pieces.{StartsFile}
use Rattle.command_steps.specs.Promise.{seen}
use Rattle.code_commands.specs.Limits.{text_limit}
use Rattle.code_commands.specs.TextFile.{IsIncomingFor, HasCome}
use Rattle.code_commands.proofs.text_file.read_text.Given as goal

abbrev pub invariant-loop-incoming : goal.invariant-loop-incoming
invariant-loop-incoming g l = record {
  text : List ℕ;
  within : l.incoming.length ≤ text_limit;
  same : seen g.F.Shelf.files g.F.Shelf.faults l.shelf ≡ seen g.F.Shelf.files g.F.Shelf.faults l.initial.shelf;
  code : IsIncomingFor l.code l.incoming;
  come : HasCome l.code text l.incoming;
  asked : length l.room ≡ 65536;
  run : HasRead g.F.Shelf.read_gives l.name 65536 l.initial.shelf l.incoming.length l.shelf;
  starts : StartsFile (g.F.Shelf.files l.shelf) l.name text;
}

abbrev pub decreases-loop-incoming : goal.decreases-loop-incoming
decreases-loop-incoming g l = text_limit + 1 - l.incoming.length
