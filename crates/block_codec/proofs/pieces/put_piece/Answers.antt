use Rattle.std.proofs.Common.{◌≡◌, ◌*◌, ℕ, List, length, ap, sym, subst, ◌∙◌}
use Rattle.std.specs.Prelude.{option_map}
use Rattle.std.proofs.lemmas.Result.{err_from_is_err_and}
use Rattle.shelf_io.specs.WholeFile.{all_appended, IsPutInPart}
use Rattle.code_spec.specs.PlainText.{file_words}
use Rattle.code_spec.proofs.PlainTextLaws.{length-file_words}
use Rattle.block_codec.proofs.PieceLaws.{front_put}
use Rattle.block_codec.proofs.pieces.put_piece.Goals as goal

pub returns-in_err-put_all-clause-appends : goal.returns-in_err-put_all-clause-appends
returns-in_err-put_all-clause-appends g c =
    let code = c.args.code.now in
    let words = file_words code.p c.args.piece.now in
    let end : c.digit_count-end.result ≡ code.q * length words = c.digit_count-end.ensures.count ∙ ap (λ (n : ℕ). code.q * n) (sym (length-file_words code.p c.args.piece.now)) in
    let digits = front_put code c.args.state c.digit_count-end.result c.put-next.result words c.args.room.now c.put-next.new.room c.put-next.ensures end in
    let failed = subst (λ (bytes : List ℕ). IsPutInPart c.args.name.now bytes (g.F.Shelf.files c.args.shelf.now) (g.F.Shelf.files c.put_all.new.shelf)) digits c.in_err-put_all.ensures.appends in
    let err = err_from_is_err_and c.from_residual.result c.from_residual.ensures.1 in
    rw err.1 failed

pub returns-clause-appends : goal.returns-clause-appends
returns-clause-appends g c =
    let code = c.args.code.now in
    let words = file_words code.p c.args.piece.now in
    let end : c.digit_count-end.result ≡ code.q * length words = c.digit_count-end.ensures.count ∙ ap (λ (n : ℕ). code.q * n) (sym (length-file_words code.p c.args.piece.now)) in
    let digits = front_put code c.args.state c.digit_count-end.result c.put-next.result words c.args.room.now c.put-next.new.room c.put-next.ensures end in
    c.in_ok-put_all.ensures.appends ∙ ap (λ (bytes : List ℕ). option_map (all_appended c.args.name.now bytes) (g.F.Shelf.files c.args.shelf.now)) digits
