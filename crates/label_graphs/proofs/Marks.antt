-- Marks of states, and the lists of those that are marked.
use Rattle.std.proofs.Common.{◌≡◌, ℕ, ◌<◌, List, length, get_or, Bool, true, false, inl, inr, sym, ◌∙◌, arith}
use Rattle.std.specs.Prelude.{Contains}
use Rattle.std.specs.List.{range_with_len}
use Rattle.std.proofs.lemmas.Bool.{cases_lt, false≢true}
use Rattle.std.proofs.lemmas.List.{get_or_past}
use Rattle.symbol_base.proofs.AscendingNumbers.{Contains-range, filter_keeps, filter_kept}
use Rattle.label_graphs.specs.Kept.{marked_states}
use Rattle.label_graphs.specs.inside.Numbers.{is_marked}

-- a marked state is listed, and a listed one is marked
pub marked_inside : (marks : List Bool) (state : ℕ) → get_or marks state false ≡ true → state < length marks
marked_inside marks state marked = elim (cases_lt state (length marks)) [
  | inl inside ↦ inside
  | inr past ↦ absurd (false≢true (sym (get_or_past marks state false past) ∙ marked))
]

pub marked_listed : (marks : List Bool) (state : ℕ) → get_or marks state false ≡ true → Contains (marked_states marks) state
marked_listed marks state marked =
    filter_kept (is_marked marks) (range_with_len 0 (length marks)) state
    ((Contains-range 0 (length marks) state).1 (omega arith, (let inside = marked_inside marks state marked in omega (arith, inside)))) marked

pub listed_marked : (marks : List Bool) (state : ℕ) → Contains (marked_states marks) state → get_or marks state false ≡ true
listed_marked marks state listed = (filter_keeps (is_marked marks) (range_with_len 0 (length marks)) state listed).1
