use Rattle.std.proofs.Common.{◌≡◌, inl, inr, subst, arith}
use Rattle.std.proofs.lemmas.Bool.{cases_eq}
use Rattle.min_cover.specs.declared.finishing.Mark.TheVariants.{New}
use Rattle.min_cover.specs.inside.Pairs.{pair_count, pair_step}
use Rattle.min_cover.specs.inside.Finishing.{search_data, mark_at, IsSearch}
use Rattle.min_cover.proofs.Searched.{search_done}
use Rattle.min_cover.proofs.finishing.finishing_order.Goals as goal

pub loop-start-init : goal.loop-start-init
loop-start-init c = record {
  search = subst (λ n. IsSearch (pair_step c.args.pairs.now.graph) n c.args.pairs.now.alphabet 0 (search_data c.in_ok-search.search))
      c.count.ensures.count (c.in_ok-search.ensures.search (pair_step c.args.pairs.now.graph) c.args.pairs.now.alphabet);
  path = c.in_ok-search.ensures.path;
  known = λ p less. absurd (omega (arith, less));
}

pub loop-start-preserved : goal.loop-start-preserved
loop-start-preserved c = record {
  search = c.in_ok-finish_all.ensures.search;
  path = c.in_ok-finish_all.ensures.path;
  known = λ p less new. elim (cases_eq p c.loop-start.start) [
    | inl same ↦ c.in_ok-finish_all.ensures.start (subst (λ q. mark_at c.finish_all.new.self.marks.items q ≡ New) same new)
    | inr other ↦ c.loop-start.invariant.known p (omega (arith, less, other)) (c.in_ok-finish_all.ensures.known p new)
  ];
}

pub returns : goal.returns
returns c =
    let rows = c.args.pairs.now.graph in
    search_done (pair_step rows) (pair_count rows) c.args.pairs.now.alphabet (search_data c.loop-start.search) c.loop-start.invariant.search
    c.loop-start.invariant.path
    (λ p p_in. c.loop-start.invariant.known p (omega (arith, p_in, c.loop-start-test.false, c.count-start-end.ensures.count)))
