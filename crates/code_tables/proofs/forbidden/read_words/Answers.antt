use Rattle.std.proofs.Common.{◌≡◌, ℕ, List, Option, None, Some, Ok, ap, ◌∙◌, subst, arith}
use Rattle.code_tables.specs.inside.ReadLines.{RefusesLine}
use Rattle.std.proofs.lemmas.Result.{err_from_is_err_and}
use Rattle.text_reading.specs.LineReader.{one_line, parts_from, after_all}
use Rattle.text_reading.proofs.LineReaders.{parts_more, parts_wrong, parts_all}
use Rattle.code_tables.specs.inside.Reading.{forbidden_at, forbidden_words_at}
use Rattle.code_tables.proofs.LoopSteps.{refuses_whole, last_behind}
use Rattle.code_tables.proofs.forbidden.read_words.Goals as goal

pub returns-in_err-word : goal.returns-in_err-word
unfolding forbidden_words_at
returns-in_err-word c =
    let p = err_from_is_err_and c.from_residual-in_err-word.result c.from_residual-in_err-word.ensures.1 in
    let read = λ (before : Option (List ℕ)). one_line (forbidden_at before) in
    let s = after_all (λ (before : Option (List ℕ)) (word : List ℕ). Some word) None c.loop-place.words.items in
    let total = parts_from read (λ before word. Some word) 1 c.args.count None c.args.first c.args.bytes.now in
    rw (p.1, p.2) (refuses_whole c.in_err-word.field-0.0 (read s c.loop-place.line c.loop-place.rest.now) total (subst (λ (b : Option (List ℕ)). RefusesLine c.in_err-word.field-0.0 (read b c.loop-place.line c.loop-place.rest.now)) (c.last_word.ensures ∙ ap (λ (words : List (List ℕ)). after_all (λ (before : Option (List ℕ)) (word : List ℕ). Some word) None words) c.as_slice.ensures.value) c.in_err-word.ensures)
    (λ n wrong. parts_wrong read (λ before word. Some word) 1 c.loop-place.words.items c.args.count c.loop-place.place s c.loop-place.line c.loop-place.rest.now n total c.loop-place-test.true wrong c.loop-place.invariant.1))

pub loop-place-preserved : goal.loop-place-preserved
loop-place-preserved c =
    let read = λ (before : Option (List ℕ)). one_line (forbidden_at before) in
    let s = after_all (λ (before : Option (List ℕ)) (word : List ℕ). Some word) None c.loop-place.words.items in
    let total = parts_from read (λ before word. Some word) 1 c.args.count None c.args.first c.args.bytes.now in
    rw (c.in_ok-push.ensures.items, last_behind None c.loop-place.words.items c.in_ok-word.word) (
      omega (arith, c.loop-place.invariant.0),
      parts_more read (λ before word. Some word) 1 c.loop-place.words.items c.args.count c.loop-place.place s c.loop-place.line c.loop-place.rest.now c.in_ok-word.word c.in_ok-word.after.now total
          c.loop-place-test.true (subst (λ (b : Option (List ℕ)). read b c.loop-place.line c.loop-place.rest.now ≡ Ok (c.in_ok-word.word, c.in_ok-word.after.now)) (c.last_word.ensures ∙ ap (λ (words : List (List ℕ)). after_all (λ (before : Option (List ℕ)) (word : List ℕ). Some word) None words) c.as_slice.ensures.value) c.in_ok-word.ensures) c.loop-place.invariant.1,
    )

pub returns : goal.returns
unfolding forbidden_words_at
returns c =
    let read = λ (before : Option (List ℕ)). one_line (forbidden_at before) in
    parts_all read (λ before word. Some word) 1 c.loop-place.words.items c.args.count c.loop-place.place (after_all (λ before word. Some word) None c.loop-place.words.items) c.loop-place.line c.loop-place.rest.now
    (parts_from read (λ before word. Some word) 1 c.args.count None c.args.first c.args.bytes.now)
    c.loop-place-test.false c.loop-place.invariant.1
