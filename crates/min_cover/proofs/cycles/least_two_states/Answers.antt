use Rattle.std.proofs.Common.{◌≡◌, ℕ, ◌+◌, ◌*◌, ◌/◌, ◌%◌, ◌<◌, length, inl, inr, sym, ◌∙◌, subst, arith}
use Rattle.std.specs.Prelude.{IfSome, IfNone}
use Rattle.std.proofs.lemmas.Bool.{cases_eq, cases_order}
use Rattle.std.proofs.lemmas.Nat.{div-mul-add, mod-mul-add, mul-add-lt}
use Rattle.label_graphs.specs.Graph.{HasEdge}
use Rattle.label_graphs.specs.Memory.{IsLeastReadBack}
use Rattle.min_cover.specs.inside.Pairs.{pair_count, pair_step, IsOnCycle}
use Rattle.min_cover.specs.inside.Order.{IsLeastBack}
use Rattle.min_cover.proofs.PairLaws.{states_inside}
use Rattle.min_cover.proofs.PairWalks.{least_read, cycle_apart, cycle_turned}
use Rattle.min_cover.proofs.cycles.least_two_states.Goals as goal
use Rattle.min_cover.proofs.cycles.least_two_states.Goals.{then-first-second+in_ok-word+in_default, else-first-second}

pub returns-in-Some : goal.returns-in-Some
returns-in-Some c =
    let rows = c.args.pairs.now.graph in
    let n = length rows in
    let p = c.loop-pair.pair in
    let p_in : p < pair_count rows = omega (arith, c.loop-pair-test.true, c.count-pair-end.ensures.count) in
    let first : c.at.result ≡ p / n = c.at.ensures.again ∙ c.states-first.ensures.first in
    let second : c.at-in-Some.result ≡ p % n = c.at-in-Some.ensures.again ∙ c.states-first.ensures.second in
    let less : p / n < p % n = omega (arith, c.if-first-second.true, c.states-first.ensures.first, c.states-first.ensures.second) in
    let back : IsLeastBack (pair_step rows) p c.in-Some.word =
    subst (λ o. IfSome o (IsLeastBack (pair_step rows) p)) c.in-Some.is c.in_ok-word.ensures.least in
    subst (λ u. IsLeastReadBack n (HasEdge rows) u c.at-in-Some.result c.in-Some.word) (sym first)
    (subst (λ v. IsLeastReadBack n (HasEdge rows) (p / n) v c.in-Some.word) (sym second)
    (least_read rows c.requires.graph c.requires.symbols.single p c.in-Some.word p_in less back c.loop-pair.invariant))

pub loop-pair-preserved : goal.loop-pair-preserved
loop-pair-preserved c =
    let rows = c.args.pairs.now.graph in
    let n = length rows in
    let pair = c.loop-pair.pair in
    λ q q_in less back. elim (cases_eq q pair) [
      | inr other ↦ c.loop-pair.invariant q (omega (arith, q_in, other)) less back
      | inl same ↦ elim c.if-first-second.branch [
        | then-first-second+in_ok-word+in_default w ↦
            subst (λ o. IfNone o (IsOnCycle (pair_step rows) pair → ⊥)) w.in_default.is w.in_ok-word.ensures.none (subst (IsOnCycle (pair_step rows)) same back)
        | else-first-second w ↦ (
            let here : pair / n < pair % n = subst (λ p. p / n < p % n) same less in
            omega (arith, here, w.if-first-second.false, c.states-first.ensures.first, c.states-first.ensures.second))
      ]
    ]

pub unreachable-requires : goal.unreachable-requires
unreachable-requires c =
    let rows = c.args.pairs.now.graph in
    let n = length rows in
    let cycle = c.requires.cycle in
    let p = cycle.here in
    let states = states_inside n p cycle.inside in
    let end : (q : ℕ) → q < pair_count rows → q < c.loop-pair.pair = λ q q_in. omega (arith, q_in, c.loop-pair-test.false, c.count-pair-end.ensures.count) in
    elim (cases_order (p / n) (p % n)) [
      | inl same ↦ cycle_apart rows c.requires.graph p cycle.back same
      | inr apart ↦ elim apart [
        | inl less ↦ c.loop-pair.invariant p (end p cycle.inside) less cycle.back
        | inr more ↦ (
            let q = p % n * n + p / n in
            let quotient : q / n ≡ p % n = div-mul-add (p % n) n (p / n) states.0 in
            let rest : q % n ≡ p / n = mod-mul-add (p % n) n (p / n) states.0 in
            let q_in = mul-add-lt (p % n) n (p / n) n states.1 states.0 in
            c.loop-pair.invariant q (end q q_in) (subst (λ a. a < q % n) (sym quotient) (subst (λ b. p % n < b) (sym rest) more))
            (cycle_turned rows c.requires.graph c.requires.symbols.single p cycle.inside cycle.back))
      ]
    ]
