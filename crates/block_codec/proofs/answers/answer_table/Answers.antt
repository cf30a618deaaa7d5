use Rattle.std.proofs.Common.{◌≡◌, ◌*◌, ◌/◌, ◌%◌, ◌^◌, ap, ap₂, sym, ◌∙◌, arith, length, get_or}
use Rattle.code_spec.specs.Code.{CodeData}
use Rattle.code_spec.specs.Output.{output}
use Rattle.block_codec.specs.inside.Answers.{window_of, words_in, list_count}
use Rattle.block_codec.proofs.AnswerLaws.{word_in_place, walk_begins, filled_more, filled_all}
use Rattle.block_codec.proofs.answers.answer_table.Goals as goal

pub loop-walk-preserved : goal.loop-walk-preserved
loop-walk-preserved c =
    let code = c.args.code.now in
    let walk = c.loop-walk.walk in
    let lists = c.list_count-lists.result in
    let is : lists ≡ list_count code = c.list_count-lists.ensures.count in
    let state : c.at.result ≡ walk / list_count code = c.at.ensures.value ∙ ap (λ n. walk / n) is in
    let words : walk % lists ≡ walk % list_count code = ap (λ n. walk % n) is in
    let inside = walk_begins code walk lists c.state_count.result is c.state_count.ensures.count c.list_count-lists.ensures.some c.loop-walk-test.true in
    let writes : output code (walk / list_count code) (words_in code (walk % list_count code)) ≡ window_of code c.written-place.result =
    ap₂ (λ s n. output code s (words_in code n)) (sym state) (sym words) ∙ c.written-place.ensures.writes in
    let word = c.digit_of.ensures.value ∙ ap (λ (d : CodeData). walk % lists / 2 ^ (d.p * d.ahead) % 2 ^ d.p) c.code.view_is
    ∙ word_in_place code (walk % lists) code.past code.ahead (omega arith) (omega arith) ∙ ap (λ n. get_or (words_in code n) code.past 0) words in
    filled_more code walk c.written-place.result c.digit_of.result c.loop-walk.table.items inside c.written-place.ensures.below writes word c.loop-walk.invariant

pub returns : goal.returns
returns c =
    let code = c.args.code.now in
    let all : c.loop-walk.walk ≡ list_count code * length code.rows =
    omega (arith, c.loop-walk-test.false, c.loop-walk.auto.walk-end, ap₂ (λ m n. m * n) c.list_count-lists.ensures.count c.state_count.ensures.count) in
    filled_all code c.loop-walk.walk c.loop-walk.table.items all c.loop-walk.invariant
