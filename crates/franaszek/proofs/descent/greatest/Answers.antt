use Rattle.std.proofs.Common.{◌≡◌, ◌<◌, ◌*◌, ◌/◌, ℕ, List, length, get_or, set, ap, sym, ◌∙◌, subst, arith}
use Rattle.std.specs.List.{sum}
use Rattle.std.proofs.lemmas.List.{length-set}
use Rattle.franaszek.proofs.Falling.{above_same, adds_up_to_less, stays_above, written_back}
use Rattle.franaszek.proofs.descent.greatest.Goals as goal

pub loop-state-smaller : goal.loop-state-smaller
loop-state-smaller c =
    let n = c.args.n in
    let s = c.in-Some.state in
    let x = c.loop-state.weights.items in
    let sums = c.loop-state.sums.items in
    let found = c.in-Some.ensures.found in
    let x_is = c.deref.ensures.value in
    let sums_are = c.deref-in-loop-state.ensures.value in
    let inside : s < length x = omega (arith, found.0, ap (λ (l : List ℕ). length l) x_is) in
    let over : get_or sums s 0 < n * get_or x s 0 =
    omega (arith, found.1, ap (λ (l : List ℕ). get_or l s 0) sums_are, ap (λ (l : List ℕ). n * get_or l s 0) x_is) in
    let is : c.lower.new.weights ≡ set x s (get_or sums s 0 / n) =
    c.lower.ensures.weights ∙ ap (λ (l : List ℕ). set l s (get_or c.deref_mut-in-Some.result.now s 0 / n)) c.deref_mut.ensures.value
    ∙ ap (λ (l : List ℕ). set x s (get_or l s 0 / n)) c.deref_mut-in-Some.ensures.value in
    let back = written_back c.loop-state.weights.len c.lower.new.weights x
    (ap (λ (l : List ℕ). length l) is ∙ length-set x s (get_or sums s 0 / n) ∙ sym c.loop-state.weights.ok.0) in
    subst (λ (l : List ℕ). sum l < sum x) (sym back) (adds_up_to_less n x sums c.lower.new.weights s c.requires.two inside over is)

pub loop-state-preserved : goal.loop-state-preserved
loop-state-preserved c =
    let n = c.args.n in
    let s = c.in-Some.state in
    let x = c.loop-state.weights.items in
    let sums = c.loop-state.sums.items in
    let known = c.loop-state.invariant in
    let found = c.in-Some.ensures.found in
    let x_is = c.deref.ensures.value in
    let sums_are = c.deref-in-loop-state.ensures.value in
    let inside : s < length x = omega (arith, found.0, ap (λ (l : List ℕ). length l) x_is) in
    let over : get_or sums s 0 < n * get_or x s 0 =
    omega (arith, found.1, ap (λ (l : List ℕ). get_or l s 0) sums_are, ap (λ (l : List ℕ). n * get_or l s 0) x_is) in
    let is : c.lower.new.weights ≡ set x s (get_or sums s 0 / n) =
    c.lower.ensures.weights ∙ ap (λ (l : List ℕ). set l s (get_or c.deref_mut-in-Some.result.now s 0 / n)) c.deref_mut.ensures.value
    ∙ ap (λ (l : List ℕ). set x s (get_or l s 0 / n)) c.deref_mut-in-Some.ensures.value in
    let back = written_back c.loop-state.weights.len c.lower.new.weights x
    (ap (λ (l : List ℕ). length l) is ∙ length-set x s (get_or sums s 0 / n) ∙ sym c.loop-state.weights.ok.0) in
    let sums_back = written_back c.loop-state.sums.len c.lower.new.sums sums
    (c.lower.ensures.sums.size ∙ sym known.kept.size ∙ sym c.loop-state.sums.ok.0) in
    above_same c.args.matrix.now n c.args.bound c.lower.new.weights c.lower.new.sums _ _ back sums_back
    (stays_above c.args.matrix.now n c.args.bound x sums c.lower.new.weights c.lower.new.sums s c.requires.two inside over known is c.lower.ensures.sums)
