use Rattle.std.proofs.Common.{◌≡◌, ℕ, ◌<◌, List, ◌∷◌, length, get_or, set, replicate, Bool, true, false, ap, sym, ◌∙◌, subst, arith}
use Rattle.std.specs.Prelude.{IfSome, IfNone}
use Rattle.std.proofs.lemmas.List.{get_or_default}
use Rattle.symbol_base.specs.Walk.{IsWalk}
use Rattle.least_walks.specs.LeastWalk.{IsLeastWalk, IsGoal}
use Rattle.min_cover.specs.inside.Pairs.{pair_count, pair_step, pair_graph, Leads}
use Rattle.min_cover.specs.inside.Finishing.{number_at}
use Rattle.min_cover.specs.inside.Order.{NoneSpans, IsLeastBack}
use Rattle.min_cover.proofs.PairLaws.{step_symbol, step_inside}
use Rattle.min_cover.proofs.PairWalks.{unspanned, walk_labels, least_back, none_back}
use Rattle.min_cover.proofs.cycles.word_back.Goals as goal

pub returns-then-not-spanned-index-clause-none : goal.returns-then-not-spanned-index-clause-none
returns-then-not-spanned-index-clause-none c =
    let rows = c.args.pairs.now.graph in
    let order = c.args.order.now in
    let place = number_at order.places.items c.args.pair in
    let at : c.index.result.now ≡ place =
    c.index.ensures ∙ get_or_default order.places.items c.args.pair c.index.result.now 0 (let size = c.requires.order.placed in omega (arith, size, c.requires.pair)) in
    let inside = (c.requires.order.counted c.args.pair c.requires.pair).0 in
    let none : NoneSpans (pair_step rows) order.finished.items order.places.items place =
    c.requires.spanned place (omega (arith, inside, c.requires.size)) (subst (λ i. get_or c.args.spanned.now i false ≡ false) at c.if-not-spanned-index.true) in
    unspanned (pair_step rows) (pair_count rows) order.finished.items order.places.items order.cyclic c.requires.order
    (λ p symbol q p_in leads. step_inside rows c.requires.graph p symbol q p_in leads) c.args.pair c.requires.pair none

pub bytes_of-requires : goal.bytes_of-requires
bytes_of-requires c =
    let rows = c.args.pairs.now.graph in
    let is : IsLeastWalk (pair_graph c.args.pairs.now) c.deref.result.now c.args.pair c.in-Some.labels.items =
    subst (λ o. IfSome o (λ labels. IsLeastWalk (pair_graph c.args.pairs.now) c.deref.result.now c.args.pair labels.items)) c.in-Some.is c.in_ok-labels.ensures.least in
    let symbols = c.requires.symbols in
    subst (λ (l : List ℕ). (k d : ℕ) → k < length l → get_or l k d < 256) (sym c.deref-in-Some.ensures.value)
    (walk_labels (pair_step rows) 256
    (λ p symbol q leads. let less = step_symbol rows c.args.pairs.now.alphabet symbols.symbols p symbol q leads in let most = symbols.alphabet.1 in omega (arith, less, most))
    c.in-Some.labels.items c.args.pair is.goal is.walk)

pub returns-in-Some-clause-least : goal.returns-in-Some-clause-least
returns-in-Some-clause-least c =
    let rows = c.args.pairs.now.graph in
    let count = pair_count rows in
    let is : IsLeastWalk (pair_graph c.args.pairs.now) c.deref.result.now c.args.pair c.in-Some.labels.items =
    subst (λ o. IfSome o (λ labels. IsLeastWalk (pair_graph c.args.pairs.now) c.deref.result.now c.args.pair labels.items)) c.in-Some.is c.in_ok-labels.ensures.least in
    let goals_are : c.deref.result.now ≡ set (replicate count false) c.args.pair true =
    c.deref.ensures.value ∙ ap (λ (l : List Bool). set l c.args.pair true)
    (c.in_ok-goals.ensures.items_if_clones_equal (λ y h. h) ∙ ap (λ n. replicate n false) c.count.ensures.count) in
    subst (IsLeastBack (pair_step rows) c.args.pair) (sym (c.in_ok-bytes_of-in-Some.ensures ∙ c.deref-in-Some.ensures.value))
    (least_back (pair_step rows) count c.args.pair c.deref.result.now c.in-Some.labels.items c.requires.pair goals_are is)

pub returns-clause-none : goal.returns-clause-none
returns-clause-none c =
    let rows = c.args.pairs.now.graph in
    let count = pair_count rows in
    let goals_are : c.deref.result.now ≡ set (replicate count false) c.args.pair true =
    c.deref.ensures.value ∙ ap (λ (l : List Bool). set l c.args.pair true)
    (c.in_ok-goals.ensures.items_if_clones_equal (λ y h. h) ∙ ap (λ n. replicate n false) c.count.ensures.count) in
    let none : (label : ℕ) (others : List ℕ) (v : ℕ) → IsWalk (Leads (pair_step rows)) c.args.pair (label ∷ others) v → IsGoal c.deref.result.now v → ⊥ =
    subst (λ o. IfNone o ((label : ℕ) (others : List ℕ) (v : ℕ) → IsWalk (Leads (pair_step rows)) c.args.pair (label ∷ others) v → IsGoal c.deref.result.now v → ⊥))
    c.in-None.is c.in_ok-labels.ensures.none in
    none_back (pair_step rows) count c.args.pair c.deref.result.now c.requires.pair goals_are none
