use Rattle.std.proofs.Common.{◌≡◌, ◌+◌, ◌/◌, ◌%◌, ◌<◌, length, inl, inr, ap, sym, ◌∙◌, arith}
use Rattle.std.proofs.lemmas.Bool.{cases_eq}
use Rattle.std.proofs.lemmas.List.{get_or_default}
use Rattle.min_cover.specs.inside.Pairs.{pair_count}
use Rattle.min_cover.specs.inside.Finishing.{number_at}
use Rattle.min_cover.proofs.PairWalks.{max_is, memory_is}
use Rattle.min_cover.proofs.longest.memory_of_pairs.Goals as goal
use Rattle.min_cover.proofs.longest.memory_of_pairs.Goals.{then-first-second, else-first-second}

pub loop-pair-preserved : goal.loop-pair-preserved
loop-pair-preserved c =
    let n = length c.args.pairs.now.graph in
    let longest = c.in_ok-longest.longest.items in
    let pair = c.loop-pair.pair in
    let known = c.loop-pair.invariant in
    let pair_in : pair < pair_count c.args.pairs.now.graph = omega (arith, c.loop-pair-test.true, c.count-pair-end.ensures.count) in
    elim c.if-first-second.branch [
      | then-first-second w ↦ (
          let value : w.index.result.now ≡ number_at longest pair =
          w.index.ensures ∙ get_or_default longest pair w.index.result.now 0 (let size = c.in_ok-longest.ensures.size in omega (arith, size, pair_in)) in
          let top = max_is c.loop-pair.memory (w.index.result.now + 1) c.if-first-second.memory (w.memory-is ∙ w.max-memory.ensures) in
          let small = c.in_ok-longest.ensures.small pair in
          record {
            fits = elim top.2 [
              | inl old ↦ (let fits = known.fits in omega (arith, old, fits))
              | inr new ↦ omega (arith, new, value, small)
            ];
            all = λ p p_in apart. elim (cases_eq p pair) [
              | inl same ↦ (let here = ap (λ q. number_at longest q) same in omega (arith, top.1, value, here))
              | inr other ↦ (let less = known.all p (omega (arith, p_in, other)) apart in omega (arith, less, top.0))
            ];
            some = elim top.2 [
              | inl old ↦ elim known.some [
                | inl none ↦ inl (old ∙ none)
                | inr found ↦ inr (found.0, found.1, found.2, found.3 ∙ sym old)
              ]
              | inr new ↦ inr (
                pair,
                pair_in,
                λ same. w.if-first-second.true (c.states-first.ensures.first ∙ same ∙ sym c.states-first.ensures.second),
                omega (arith, new, value),
              )
            ];
          })
      | else-first-second w ↦ (
          let is = w.memory-is in
          record {
            fits = (let fits = known.fits in omega (arith, fits, is));
            all = λ p p_in apart. elim (cases_eq p pair) [
              | inl same ↦ absurd (apart (ap (λ q. q / n) same ∙ sym c.states-first.ensures.first ∙ w.if-first-second.false ∙ c.states-first.ensures.second ∙ ap (λ q. q % n) (sym same)))
              | inr other ↦ (let less = known.all p (omega (arith, p_in, other)) apart in omega (arith, less, is))
            ];
            some = elim known.some [
              | inl none ↦ inl (is ∙ none)
              | inr found ↦ inr (found.0, found.1, found.2, found.3 ∙ sym is)
            ];
          })
    ]

pub returns : goal.returns
returns c =
    let rows = c.args.pairs.now.graph in
    memory_is rows c.requires.graph c.requires.symbols.single c.in_ok-longest.longest.items c.loop-pair.memory c.in_ok-longest.ensures.longest
    (λ p p_in apart. c.loop-pair.invariant.all p (omega (arith, p_in, c.loop-pair-test.false, c.count-pair-end.ensures.count)) apart)
    c.loop-pair.invariant.some
