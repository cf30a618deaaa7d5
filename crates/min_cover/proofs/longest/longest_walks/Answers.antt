use Rattle.std.proofs.Common.{◌≡◌, ℕ, ◌+◌, ◌^◌, ◌<◌, ◌≤◌, List, length, set, inl, inr, ap, sym, ◌∙◌, subst, arith}
use Rattle.std.proofs.lemmas.Bool.{cases_eq}
use Rattle.std.proofs.lemmas.List.{get_or_default, get_or-set_same, get_or-set_other, length-set}
use Rattle.min_cover.specs.inside.Pairs.{pair_count, pair_step}
use Rattle.min_cover.specs.inside.Finishing.{number_at}
use Rattle.min_cover.specs.inside.Order.{IsAbove, IsLongest}
use Rattle.min_cover.proofs.PairLaws.{step_inside}
use Rattle.min_cover.proofs.PairWalks.{order_size, longest_more}
use Rattle.min_cover.proofs.longest.longest_walks.Goals as goal

pub above_followers-requires-clause-small : goal.above_followers-requires-clause-small
above_followers-requires-clause-small c =
    let rows = c.args.pairs.now.graph in
    let order = c.args.order.now in
    let size = order_size (pair_step rows) (pair_count rows) order.finished.items order.places.items _ c.requires.order in
    λ q. subst (λ (l : List ℕ). number_at l q < 2 ^ 32) (sym c.deref.ensures.value)
    (let small = c.loop-place.invariant.small q in omega (arith, small, size, c.loop-place-test.true, c.requires.few))

pub index_mut-requires : goal.index_mut-requires
index_mut-requires c =
    let order = c.args.order.now in
    let place = c.loop-place.place in
    let here : place < length order.finished.items = omega arith in
    let at : c.index-pair.result.now ≡ number_at order.finished.items place =
    c.index-pair.ensures ∙ get_or_default order.finished.items place c.index-pair.result.now 0 here in
    let inside = (c.requires.order.listed place here).0 in
    let sized = c.loop-place.invariant.sized in
    omega (arith, at, inside, sized)

pub loop-place-preserved : goal.loop-place-preserved
loop-place-preserved c =
    let rows = c.args.pairs.now.graph in
    let order = c.args.order.now in
    let place = c.loop-place.place in
    let longest = c.loop-place.longest.items in
    let above = c.above_followers.result in
    let here = c.index-pair.result.now in
    let known = c.loop-place.invariant in
    let place_in : place < length order.finished.items = omega arith in
    let at : here ≡ number_at order.finished.items place =
    c.index-pair.ensures ∙ get_or_default order.finished.items place here 0 place_in in
    let is : IsAbove (pair_step rows) longest here above = subst (λ (l : List ℕ). IsAbove (pair_step rows) l here above) c.deref.ensures.value c.above_followers.ensures in
    let is_at : IsAbove (pair_step rows) longest (number_at order.finished.items place) above = subst (λ p. IsAbove (pair_step rows) longest p above) at is in
    let most : above ≤ place + 1 = elim is.some [
      | inl none ↦ omega (arith, none)
      | inr some ↦ (let small = known.small some.1 in let next = some.3 in omega (arith, small, next))
    ] in
    let here_in : here < length longest = (let inside = (c.requires.order.listed place place_in).0 in let sized = known.sized in omega (arith, at, inside, sized)) in
    record {
      sized = length-set longest here above ∙ known.sized;
      small = λ pair. elim (cases_eq pair here) [
        | inl same ↦ (let now : number_at (set longest here above) pair ≡ above = ap (λ p. number_at (set longest here above) p) same ∙ get_or-set_same longest here above 0 here_in in omega (arith, now, most))
        | inr other ↦ (let now : number_at (set longest here above) pair ≡ number_at longest pair = get_or-set_other longest here pair above 0 other in let small = known.small pair in omega (arith, now, small))
      ];
      longest = subst (λ p. (i : ℕ) → i < place + 1
          → IsLongest (pair_step rows) (number_at order.finished.items i) (number_at (set longest p above) (number_at order.finished.items i))) (sym at)
          (longest_more (pair_step rows) (pair_count rows) order.finished.items order.places.items longest place above c.requires.order
          (λ p symbol q p_in leads. step_inside rows c.requires.graph p symbol q p_in leads) place_in known.sized known.longest is_at);
    }

pub returns-clause-small : goal.returns-clause-small
returns-clause-small c =
    let rows = c.args.pairs.now.graph in
    let order = c.args.order.now in
    let size = order_size (pair_step rows) (pair_count rows) order.finished.items order.places.items _ c.requires.order in
    λ pair. (let small = c.loop-place.invariant.small pair in let end = c.loop-place.auto.place-end in omega (arith, small, end, size, c.requires.few))

pub returns-clause-longest : goal.returns-clause-longest
returns-clause-longest c =
    let rows = c.args.pairs.now.graph in
    let order = c.args.order.now in
    λ pair pair_in.
    let at = c.requires.order.counted pair pair_in in
    subst (λ p. IsLongest (pair_step rows) p (number_at c.loop-place.longest.items p)) at.1
    (c.loop-place.invariant.longest (number_at order.places.items pair) (let inside = at.0 in omega (arith, inside, c.loop-place-test.false)))
