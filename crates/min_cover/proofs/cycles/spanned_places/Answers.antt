use Rattle.std.proofs.Common.{◌≡◌, ℕ, ◌^◌, ◌<◌, ◌∷◌, [], Bool, List, length, length-append, ap, sym, ◌∙◌, subst, arith, ltb-false, nat_lt}
use Rattle.std.proofs.lemmas.List.{get_or_default}
use Rattle.min_cover.specs.inside.Pairs.{pair_count, pair_step}
use Rattle.min_cover.specs.inside.Finishing.{number_at}
use Rattle.min_cover.specs.inside.Order.{IsAbove, AreSpanned}
use Rattle.min_cover.proofs.PairWalks.{places_small, max_is, spanned_more}
use Rattle.min_cover.proofs.cycles.spanned_places.Goals as goal

pub above_followers-requires-clause-small : goal.above_followers-requires-clause-small
above_followers-requires-clause-small c =
    let rows = c.args.pairs.now.graph in
    let order = c.args.order.now in
    λ q. subst (λ (l : List ℕ). number_at l q < 2 ^ 32) (sym c.deref.ensures.value)
    (places_small (pair_step rows) (pair_count rows) order.finished.items order.places.items order.cyclic c.requires.order c.requires.few q)

pub loop-place-preserved : goal.loop-place-preserved
loop-place-preserved c =
    let rows = c.args.pairs.now.graph in
    let order = c.args.order.now in
    let place = c.loop-place.place in
    let end = c.max-end.result in
    let above = c.above_followers.result in
    let known = c.loop-place.invariant in
    let here : place < length order.finished.items = omega arith in
    let at : c.index.result.now ≡ number_at order.finished.items place =
    c.index.ensures ∙ get_or_default order.finished.items place c.index.result.now 0 here in
    let is : IsAbove (pair_step rows) order.places.items (number_at order.finished.items place) above =
    subst (λ (l : List ℕ). IsAbove (pair_step rows) l (number_at order.finished.items place) above) c.deref.ensures.value
    (subst (λ p. IsAbove (pair_step rows) c.deref.result.now p above) at c.above_followers.ensures) in
    let top = max_is c.loop-place.end above end c.max-end.ensures in
    let next = spanned_more (pair_step rows) order.finished.items order.places.items c.loop-place.spanned.items (nat_lt place end) place c.loop-place.end end above
    known.sized is top.0 top.1 (λ low. ltb-false place end low) known.far known.known in
    record {
      sized = (let size = ap (λ (l : List Bool). length l) c.in_ok-push.ensures.items in let old = known.sized in omega (arith, size, old, length-append c.loop-place.spanned.items (nat_lt place end ∷ [])));
      far = next.0;
      known = subst (AreSpanned (pair_step rows) order.finished.items order.places.items) (sym c.in_ok-push.ensures.items) next.1;
    }
