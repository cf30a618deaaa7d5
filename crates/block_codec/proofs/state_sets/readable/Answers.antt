use Rattle.std.proofs.Common.{ℕ, suc, ◌≡◌, ◌-◌, ◌∙◌, ◌∷◌, ap, drop, get_or, arith}
use Rattle.std.proofs.Math.Seq.{drop-cons}
use Rattle.symbol_base.specs.declared.Block.{Block}
use Rattle.block_codec.proofs.SetLaws.{readable_next}
use Rattle.block_codec.proofs.state_sets.readable.Goals as goal

pub loop-at-preserved : goal.loop-at-preserved
loop-at-preserved c =
    let blocks = c.args.blocks.now in
    let at = c.loop-at.at - 1 in
    let behind : suc at ≡ c.loop-at.at = omega arith in
    let none : Block = record { value = 0 } in
    record {
      within = omega arith;
      set =
          readable_next c.args.code.now (drop c.loop-at.at blocks) (drop at blocks) (get_or blocks at none) c.loop-at.set c.backward-before.result c.all_states-set.ensures.table
          (drop-cons blocks at none (omega arith) ∙ ap (λ (n : ℕ). get_or blocks at none ∷ drop n blocks) behind) c.loop-at.invariant.set c.backward-before.ensures;
    }
