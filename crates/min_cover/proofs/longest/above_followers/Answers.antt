use Rattle.std.proofs.Common.{◌+◌, inl, inr, refl, sym, ◌∙◌, arith}
use Rattle.min_cover.specs.inside.Pairs.{pair_step}
use Rattle.min_cover.specs.inside.Finishing.{number_at}
use Rattle.min_cover.proofs.PairWalks.{above_more, above_same, max_is}
use Rattle.min_cover.proofs.longest.above_followers.Goals as goal
use Rattle.min_cover.proofs.longest.above_followers.Goals.{in-Some, in_default}

pub loop-symbol-preserved : goal.loop-symbol-preserved
loop-symbol-preserved c =
    let step = pair_step c.args.pairs.now.graph in
    let known = c.loop-symbol.invariant in
    elim c.match-after.branch [
      | in-Some w ↦ (
          let to = w.in-Some.to in
          let value = number_at c.args.values.now to in
          let small = c.requires.small to in
          let top = max_is c.loop-symbol.above (value + 1) c.match-after.above (w.above-is ∙ w.max-above.ensures) in
          let next = above_more step c.args.values.now c.args.pair c.loop-symbol.symbol to c.loop-symbol.above c.match-after.above value
          (sym w.in-Some.ensures.step) refl (w.above-is ∙ w.max-above.ensures) known.all known.some in
          record {
            fits = elim top.2 [
              | inl old ↦ (let fits = known.fits in omega (arith, old, fits))
              | inr new ↦ omega (arith, new, small)
            ];
            all = next.0;
            some = next.1;
          })
      | in_default w ↦ record {
        fits = (let fits = known.fits in let is = w.above-is in omega (arith, fits, is));
        all = above_same step c.args.values.now c.args.pair c.loop-symbol.symbol c.loop-symbol.above c.match-after.above w.in_default.ensures.step w.above-is known.all;
        some = elim known.some [
          | inl none ↦ inl (w.above-is ∙ none)
          | inr found ↦ inr (found.0, found.1, found.2, found.3 ∙ sym w.above-is)
        ];
      }
    ]

pub returns : goal.returns
returns c = record {
  all = λ symbol there leads. c.loop-symbol.invariant.all symbol there (let less = c.symbols-symbol-end.ensures.all c.args.pair symbol there leads in omega (arith, less, c.loop-symbol-test.false)) leads;
  some = c.loop-symbol.invariant.some;
}
