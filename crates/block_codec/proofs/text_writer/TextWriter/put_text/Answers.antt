use Rattle.std.proofs.Common.{◌≡◌, ℕ, List, ◌∷◌, [], ◌++◌, replicate, sym, subst, refl, ◌∙◌, append_assoc}
use Rattle.std.proofs.lemmas.Result.{err_from_is_err_and}
use Rattle.shelf_io.specs.WholeFile.{IsPutInPart, IsPutAll}
use Rattle.shelf_io.proofs.PartsLemmas.{put_then, put_then-failed, put_failed}
use Rattle.code_spec.specs.Output.{state_after}
use Rattle.code_spec.specs.PlainText.{file_words, plain_text}
use Rattle.block_codec.specs.inside.Digits.{digits_from}
use Rattle.block_codec.proofs.PieceLaws.{three_parts, end_digits}
use Rattle.block_codec.proofs.PutLaws.{put_then-all}
use Rattle.block_codec.proofs.text_writer.TextWriter.put_text.Goals as goal

pub returns-in_err-state-clause-appends : goal.returns-in_err-state-clause-appends
returns-in_err-state-clause-appends g c =
    let code = c.args.code.now in
    let file = c.args.file.now in
    let lead_in = digits_from code 0 (replicate code.past 0) in
    let start = state_after code.rows 0 (replicate code.past 0) in
    let behind = digits_from code start (file_words code.p file) ++ end_digits code start file in
    let whole : lead_in ++ behind ≡ plain_text code file =
    sym (append_assoc lead_in (digits_from code start (file_words code.p file)) (end_digits code start file)) ∙ three_parts code file start (state_after code.rows start (file_words code.p file)) refl refl in
    let old = g.F.Shelf.files c.args.shelf.now in
    let new = g.F.Shelf.files c.put_lead_in.new.shelf in
    let err = err_from_is_err_and c.from_residual.result c.from_residual.ensures.1 in
    rw err.1 (subst (λ (bytes : List ℕ). IsPutInPart c.args.name.now bytes old new) whole (put_failed c.args.name.now lead_in behind old new c.in_err-state.ensures.appends))

pub returns-in_err-state-2-clause-appends : goal.returns-in_err-state-2-clause-appends
returns-in_err-state-2-clause-appends g c =
    let code = c.args.code.now in
    let file = c.args.file.now in
    let name = c.args.name.now in
    let lead_in = digits_from code 0 (replicate code.past 0) in
    let start = c.in_ok-state.state in
    let digits = digits_from code start (file_words code.p file) in
    let old = g.F.Shelf.files c.args.shelf.now in
    let new = g.F.Shelf.files c.put_pieces.new.shelf in
    let whole = three_parts code file start (state_after code.rows start (file_words code.p file)) c.in_ok-state.ensures.next refl in
    let part = put_then-failed name lead_in digits old (g.F.Shelf.files c.put_lead_in.new.shelf) new c.in_ok-state.ensures.appends c.in_err-state-2.ensures.appends in
    let err = err_from_is_err_and c.from_residual-in_err-state-2.result c.from_residual-in_err-state-2.ensures.1 in
    rw err.1 (subst (λ (bytes : List ℕ). IsPutInPart name bytes old new) whole (put_failed name (lead_in ++ digits) (end_digits code start file) old new part))

pub returns-clause-appends : goal.returns-clause-appends
returns-clause-appends g c =
    let code = c.args.code.now in
    let file = c.args.file.now in
    let name = c.args.name.now in
    let lead_in = digits_from code 0 (replicate code.past 0) in
    let start = c.in_ok-state.state in
    let via = c.in_ok-state-2.state in
    let digits = digits_from code start (file_words code.p file) in
    let end = digits_from code via (replicate code.ahead 0) ++ 10 ∷ [] in
    let old = g.F.Shelf.files c.args.shelf.now in
    let far = g.F.Shelf.files c.put_pieces.new.shelf in
    let new = g.F.Shelf.files c.put_end.new.shelf in
    let front = put_then name lead_in digits old (g.F.Shelf.files c.put_lead_in.new.shelf) far c.in_ok-state.ensures.appends c.in_ok-state-2.ensures.appends in
    let whole = three_parts code file start via c.in_ok-state.ensures.next c.in_ok-state-2.ensures.next in
    subst (λ (bytes : List ℕ). IsPutAll name bytes old new c.put_end.result) whole (put_then-all name (lead_in ++ digits) end old far new c.put_end.result front c.put_end.ensures.appends)
