use Rattle.std.proofs.Common.{ltb, ◌≡◌, ◌<◌, ◌≤◌, ◌+◌, ◌*◌, ◌^◌, List, ℕ, length, get_or, ap, sym, ◌∙◌, subst, arith, rules}
use Rattle.std.proofs.lemmas.Bool.{ltb-true, ltb-false}
use Rattle.std.proofs.lemmas.List.Sorted.{IsPartitionPoint-from_clause, IsPartitionedBy-ltb}
use Rattle.symbol_base.specs.declared.Block.{Block}
use Rattle.code_spec.specs.Code.{CodeData}
use Rattle.code_spec.specs.Output.{row_at}
use Rattle.code_check.specs.declared.by_block.BlockWord.{BlockWord}
use Rattle.code_check.specs.inside.ByBlock.{no_word}
use Rattle.code_check.specs.inside.PairGraph.{IsPaired}
use Rattle.code_check.proofs.ByBlockLaws.{blocks_rise}
use Rattle.code_check.proofs.PairArcs.{paired_start, paired_more, paired_end, none_behind}
use Rattle.code_check.proofs.pairs.pair_word.Goals as goal

pub loop-at-init : goal.loop-at-init
loop-at-init c =
    let list : List BlockWord = c.args.list.now in
    let block : ℕ = c.step-to.result.0.value in
    let parted =
    IsPartitionedBy-ltb (λ (item : BlockWord). item.block.value) list block (blocks_rise c.args.code.now c.args.second _ list c.requires.list) in
    let point =
    IsPartitionPoint-from_clause (λ (item : BlockWord). ltb item.block.value block) _ _ c.partition_point-from.ensures.partitioned
    parted (λ a r q k. search rules) in
    paired_start c.args.code.now c.args.first c.args.second c.args.word list c.partition_point-from.result c.args.room.now.items
    c.requires.room
    (λ k less.
    let front : (get_or list k no_word).block.value < block = ltb-true _ _ (point.0 k no_word (omega arith) less) in
    omega (arith, front, ap (λ (b : Block). b.value) c.step-to.ensures.block))

pub loop-at-preserved : goal.loop-at-preserved
loop-at-preserved c =
    let code : CodeData = c.args.code.now in
    let list : List BlockWord = c.args.list.now in
    let at : ℕ = c.loop-at.at in
    let below : at < length list = omega arith in
    let value : (get_or list at no_word).block.value ≡ c.step-to.result.0.value = c.if-other-block.false in
    let same : (get_or list at no_word).block ≡ (row_at code.rows c.args.first c.args.word).block =
    ap (λ (v : ℕ). let b : Block = record { value = v } in b) value ∙ c.step-to.ensures.block in
    let label : c.pair_number.result ≡ c.args.word * 2 ^ code.p + (get_or list at no_word).word =
    c.pair_number.ensures.value ∙ ap (λ n. c.args.word * n + (get_or list at no_word).word) c.word_count.ensures.count in
    let to : c.pair_number-in-loop-at.result
    ≡ (row_at code.rows c.args.first c.args.word).to * length code.rows + (row_at code.rows c.args.second (get_or list at no_word).word).to =
    c.pair_number-in-loop-at.ensures.value
    ∙ ap (λ n. n * c.state_count.result + c.index-in-loop-at.result) (c.index.ensures.value ∙ c.step-to.ensures.next)
    ∙ ap (λ n. (row_at code.rows c.args.first c.args.word).to * n + c.index-in-loop-at.result) c.state_count.ensures.count
    ∙ ap (λ n. (row_at code.rows c.args.first c.args.word).to * length code.rows + n) (c.index-in-loop-at.ensures.value ∙ c.step-next.ensures.next) in
    subst (λ arcs. IsPaired code c.args.first c.args.second c.args.word list (at + 1) arcs) (sym c.in_ok-push.ensures.items)
    (paired_more code c.args.first c.args.second c.args.word list at c.loop-at.room.items _ c.step-to.ensures.table
    c.requires.first c.requires.second c.requires.word c.requires.list c.loop-at.invariant below same label to)

pub returns-then-other-block : goal.returns-then-other-block
returns-then-other-block c =
    let code : CodeData = c.args.code.now in
    let list : List BlockWord = c.args.list.now in
    let at : ℕ = c.loop-at.at in
    let block : ℕ = c.step-to.result.0.value in
    let below : at < length list = omega arith in
    let parted =
    IsPartitionedBy-ltb (λ (item : BlockWord). item.block.value) list block (blocks_rise code c.args.second _ list c.requires.list) in
    let point =
    IsPartitionPoint-from_clause (λ (item : BlockWord). ltb item.block.value block) _ _ c.partition_point-from.ensures.partitioned
    parted (λ a r q k. search rules) in
    let least : block ≤ (get_or list at no_word).block.value = ltb-false _ _ (point.1 at no_word (omega arith) below) in
    let unlike : (get_or list at no_word).block.value ≡ block → ⊥ = c.if-other-block.true in
    let is : block ≡ (row_at code.rows c.args.first c.args.word).block.value = ap (λ (b : Block). b.value) c.step-to.ensures.block in
    record {
      room =
          paired_end code c.args.first c.args.second c.args.word list at c.loop-at.room.items c.requires.first c.requires.second
          c.requires.word c.requires.list c.loop-at.invariant
          (none_behind code c.args.second _ list at (row_at code.rows c.args.first c.args.word).block c.requires.list below
          (omega (arith, least, unlike, is)));
    }

pub returns : goal.returns
returns c = record {
  room =
      paired_end c.args.code.now c.args.first c.args.second c.args.word c.args.list.now c.loop-at.at c.loop-at.room.items
      c.requires.first c.requires.second c.requires.word c.requires.list c.loop-at.invariant
      (λ k later less same. absurd (omega (arith, later, less)));
}
