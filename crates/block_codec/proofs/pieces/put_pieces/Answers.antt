use Rattle.std.proofs.Common.{◌≡◌, ◌+◌, ◌-◌, ◌*◌, ◌≤◌, take, drop, length, List, ℕ, ◌++◌, [], refl, sym, ap, subst, ◌∙◌, arith}
use Rattle.std.specs.Prelude.{option_map}
use Rattle.std.proofs.lemmas.List.{take_all, length-take}
use Rattle.std.proofs.lemmas.Result.{err_from_is_err_and}
use Rattle.shelf_io.specs.WholeFile.{all_appended, IsPutInPart}
use Rattle.shelf_io.proofs.PartsLemmas.{put_none, put_then, put_then-failed, put_failed}
use Rattle.code_spec.specs.Output.{state_after}
use Rattle.code_spec.specs.PlainText.{file_words}
use Rattle.block_codec.specs.inside.Digits.{digits_from}
use Rattle.block_codec.proofs.DigitLaws.{digits_from-append}
use Rattle.block_codec.proofs.ItemLaws.{file_words-none}
use Rattle.block_codec.proofs.PieceLaws.{piece_more, pieces_in_front, digits_more, leads_more, code_of_table, digits_none, room_for_piece}
use Rattle.block_codec.proofs.pieces.put_pieces.Goals as goal

pub loop-part-init : goal.loop-part-init
loop-part-init g c =
    let code = c.args.code.now in
    let is = code_of_table code c.args.table.now c.requires.table in
    let none = file_words-none code.p [] (omega (arith, is.p)) refl in
    record {
      put = put_none c.args.name.now (g.F.Shelf.files c.args.shelf.now)
          ∙ ap (λ (bytes : List ℕ). option_map (all_appended c.args.name.now bytes) (g.F.Shelf.files c.args.shelf.now)) (sym (digits_none code c.args.state (file_words code.p []) none));
      leads = ap (λ (ws : List ℕ). state_after code.rows c.args.state ws) (sym none);
      inside = c.requires.state;
      room = refl;
      count = refl;
    }

pub put_piece-requires-clause-room : goal.put_piece-requires-clause-room
put_piece-requires-clause-room g c =
    let code = c.args.code.now in
    let is = code_of_table code c.args.table.now c.requires.table in
    let from : ℕ = 6720 * c.loop-part.part in
    let short : length (take (c.min.result - from) (drop from c.args.file.now)) ≤ 6720 = omega (arith, length-take {A = ℕ}, c.min.ensures) in
    room_for_piece code.q code.p (length (take (c.min.result - from) (drop from c.args.file.now))) (length c.loop-part.room) (omega (arith, is.p)) short (omega (arith, c.requires.room, c.loop-part.invariant.room))

pub loop-part-preserved : goal.loop-part-preserved
loop-part-preserved g c =
    let code = c.args.code.now in
    let file = c.args.file.now in
    let start = c.args.state in
    let m = c.loop-part.part in
    let held = c.loop-part.invariant in
    let is = code_of_table code c.args.table.now c.requires.table in
    let front = file_words code.p (take (6720 * m) file) in
    let words = file_words code.p (take (c.min.result - 6720 * m) (drop (6720 * m) file)) in
    let all = file_words code.p (take (6720 * (m + 1)) file) in
    let more : front ++ words ≡ all = piece_more code.p m c.min.result file is.p.0 is.p.1 (omega (arith, c.loop-part-test.true)) c.min.ensures in
    let old = g.F.Shelf.files c.args.shelf.now in
    let digits = digits_more code start c.loop-part.state front words all (digits_from code c.loop-part.state words) more held.leads refl in
    record {
      put = put_then c.args.name.now (digits_from code start front) (digits_from code c.loop-part.state words) old (g.F.Shelf.files c.loop-part.shelf) (g.F.Shelf.files c.put_piece.new.shelf) held.put c.in_ok-state.ensures.appends
          ∙ ap (λ (bytes : List ℕ). option_map (all_appended c.args.name.now bytes) old) digits;
      leads = leads_more code start c.loop-part.state c.in_ok-state.state front words all more held.leads c.in_ok-state.ensures.next;
      inside = c.in_ok-state.ensures.inside;
      room = c.put_piece.auto.room ∙ held.room;
      count = c.in_ok-state.ensures.count ∙ held.count;
    }

pub returns-in_err-state-clause-appends : goal.returns-in_err-state-clause-appends
returns-in_err-state-clause-appends g c =
    let code = c.args.code.now in
    let file = c.args.file.now in
    let name = c.args.name.now in
    let start = c.args.state in
    let m = c.loop-part.part in
    let held = c.loop-part.invariant in
    let is = code_of_table code c.args.table.now c.requires.table in
    let front = file_words code.p (take (6720 * m) file) in
    let words = file_words code.p (take (c.min.result - 6720 * m) (drop (6720 * m) file)) in
    let all = file_words code.p (take (6720 * (m + 1)) file) in
    let more : front ++ words ≡ all = piece_more code.p m c.min.result file is.p.0 is.p.1 (omega (arith, c.loop-part-test.true)) c.min.ensures in
    let old = g.F.Shelf.files c.args.shelf.now in
    let new = g.F.Shelf.files c.put_piece.new.shelf in
    let digits = digits_more code start c.loop-part.state front words all (digits_from code c.loop-part.state words) more held.leads refl in
    let part = subst (λ (bytes : List ℕ). IsPutInPart name bytes old new) digits
    (put_then-failed name (digits_from code start front) (digits_from code c.loop-part.state words) old (g.F.Shelf.files c.loop-part.shelf) new held.put c.in_err-state.ensures.appends) in
    let rest = pieces_in_front code.p (m + 1) file is.p.0 is.p.1 in
    let behind = digits_from code (state_after code.rows start all) rest.0 in
    let whole : digits_from code start all ++ behind ≡ digits_from code start (file_words code.p file) = sym (digits_from-append code start all rest.0) ∙ ap (λ (ws : List ℕ). digits_from code start ws) rest.1 in
    let failed = subst (λ (bytes : List ℕ). IsPutInPart name bytes old new) whole (put_failed name (digits_from code start all) behind old new part) in
    let err = err_from_is_err_and c.from_residual.result c.from_residual.ensures.1 in
    rw err.1 failed

pub returns-clause-appends : goal.returns-clause-appends
returns-clause-appends g c =
    let code = c.args.code.now in
    let file = c.args.file.now in
    let m = c.loop-part.part in
    let old = g.F.Shelf.files c.args.shelf.now in
    let whole : take (6720 * m) file ≡ file = take_all (6720 * m) file (omega (arith, c.loop-part-test.false, c.loop-part.auto.part-end)) in
    let digits : digits_from code c.args.state (file_words code.p (take (6720 * m) file)) ≡ digits_from code c.args.state (file_words code.p file) =
    ap (λ (bytes : List ℕ). digits_from code c.args.state (file_words code.p bytes)) whole in
    let all : option_map (all_appended c.args.name.now (digits_from code c.args.state (file_words code.p (take (6720 * m) file)))) old
    ≡ option_map (all_appended c.args.name.now (digits_from code c.args.state (file_words code.p file))) old =
    ap (λ (bytes : List ℕ). option_map (all_appended c.args.name.now bytes) old) digits in
    c.loop-part.invariant.put ∙ all
