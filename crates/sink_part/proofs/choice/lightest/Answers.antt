use Rattle.std.proofs.Common.{◌≡◌, ℕ, ◌+◌, List, Bool, Option, Some, None, ap, sym, ◌∙◌, subst, arith}
use Rattle.std.specs.Prelude.{IfSome, IfNone}
use Rattle.std.proofs.lemmas.Bool.{false≢true}
use Rattle.label_graphs.specs.Kept.{marked_states}
use Rattle.label_graphs.specs.Sink.{total_weight}
use Rattle.sink_part.specs.declared.choice.Candidate.{Candidate}
use Rattle.sink_part.specs.inside.Leads.{IsEnd, IsLightest, total_from}
use Rattle.sink_part.proofs.Choosing.{NoEnds, none_next, best_stays, first_end, no_lighter, next_lighter}
use Rattle.sink_part.proofs.choice.lightest.Goals.{then-at-gt0+then-is_closed+in-Some, then-at-gt0+then-is_closed+in_default-2, then-at-gt0+then-is_closed+in_default, else-at-gt0, else-at-gt0-via-then-at-gt0+else-is_closed, else-at-gt0-via-else-at-gt0}
use Rattle.sink_part.proofs.choice.lightest.Goals as goal

-- the best so far, where there is one, and what holds where there is none
abbrev IsBest : List ℕ → List (List Bool) → ℕ → Option Candidate → Type 0
IsBest weights table n least = IfSome least (λ best. IsLightest weights table n best.state × (best.total ≡ total_from weights table best.state))

abbrev HasNone : List ℕ → List (List Bool) → ℕ → Option Candidate → Type 0
HasNone weights table n least = IfNone least (NoEnds weights table n)

stays : (weights : List ℕ) (table : List (List Bool)) (n : ℕ) (least : Option Candidate) → IsBest weights table n least → HasNone weights table n least
    → (IsEnd weights table n → ⊥) → IsBest weights table (n + 1) least × HasNone weights table (n + 1) least
stays weights table n None best none other = (tt, none_next weights table n none other)
stays weights table n (Some before) best none other = ((best_stays weights table n before.state best.0 other, best.1), tt)

pub loop-state-preserved : goal.loop-state-preserved
loop-state-preserved c =
    let weights = c.args.weights.now in
    let table = c.args.leads.now in
    let n = c.loop-state.state in
    let known = c.loop-state.invariant in
    elim c.if-at-gt0.branch [
      | then-at-gt0+then-is_closed+in-Some w ↦ (
          let old = subst (IsBest weights table n) w.in-Some.is known.some in
          let total : w.marked_total-total.result ≡ total_from weights table n =
          w.marked_total-total.ensures ∙ ap (λ ms. total_weight weights (marked_states ms)) w.marks.ensures.marks in
          record {
            some = subst (IsBest weights table (n + 1)) (sym w.least-is)
                (no_lighter weights table n w.in-Some.before.state old.0 (omega (arith, old.1, total, w.if-before-total.true)), old.1);
            none = subst (HasNone weights table (n + 1)) (sym w.least-is) tt;
          })
      | then-at-gt0+then-is_closed+in_default-2 w ↦ (
          let old = subst (IsBest weights table n) w.in-Some.is known.some in
          let total : w.marked_total-total.result ≡ total_from weights table n =
          w.marked_total-total.ensures ∙ ap (λ ms. total_weight weights (marked_states ms)) w.marks.ensures.marks in
          let end : IsEnd weights table n = record { positive = omega (arith, w.if-at-gt0.true, c.at.ensures); closed = w.is_closed.ensures.0 w.if-is_closed.true } in
          record {
            some = subst (IsBest weights table (n + 1)) (sym w.least-is)
                (next_lighter weights table n w.in-Some.before.state old.0 end (omega (arith, old.1, total, w.if-before-total.false)), total);
            none = subst (HasNone weights table (n + 1)) (sym w.least-is) tt;
          })
      | then-at-gt0+then-is_closed+in_default w ↦ (
          let none = subst (HasNone weights table n) w.in_default.is known.none in
          let total : w.marked_total-total.result ≡ total_from weights table n =
          w.marked_total-total.ensures ∙ ap (λ ms. total_weight weights (marked_states ms)) w.marks.ensures.marks in
          let end : IsEnd weights table n = record { positive = omega (arith, w.if-at-gt0.true, c.at.ensures); closed = w.is_closed.ensures.0 w.if-is_closed.true } in
          record {
            some = subst (IsBest weights table (n + 1)) (sym w.least-is) (first_end weights table n none end, total);
            none = subst (HasNone weights table (n + 1)) (sym w.least-is) tt;
          })
      | else-at-gt0 w ↦ (
          let other : IsEnd weights table n → ⊥ = λ end. elim w.else-at-gt0.branch [
            | else-at-gt0-via-then-at-gt0+else-is_closed v ↦ false≢true (sym v.if-is_closed.false ∙ v.is_closed.ensures.1 end.closed)
            | else-at-gt0-via-else-at-gt0 v ↦ (let up = end.positive in omega (arith, up, v.if-at-gt0.false, c.at.ensures))
          ] in
          let more = stays weights table n c.loop-state.least known.some known.none other in
          record {
            some = subst (IsBest weights table (n + 1)) (sym w.least-is) more.0;
            none = subst (HasNone weights table (n + 1)) (sym w.least-is) more.1;
          })
    ]
