-- A graph has one memory, and one least pair of states that read a word back to themselves.
use Rattle.std.proofs.Common.{◌≡◌, ℕ, ◌<◌, ◌≤◌, ◌⊎◌, List, inl, inr, sym, subst, arith}
use Rattle.std.proofs.lemmas.Bool.{cases_order}
use Rattle.symbol_base.specs.Word.{IsBefore}
use Rattle.symbol_base.proofs.WordOrder.{not_before_itself, before_on}
use Rattle.label_graphs.specs.Memory.{IsMemory, ReadBack, IsLeastReadBack}

pub one_memory : (count : ℕ) (edge : ℕ → ℕ → ℕ → Type 0) (n m : ℕ) → IsMemory count edge n → IsMemory count edge m → n ≡ m
one_memory count edge n m first second = elim (cases_order n m) [
  | inl same ↦ same
  | inr apart ↦ elim apart [
    | inl less ↦ absurd (second.least n less first.together)
    | inr more ↦ absurd (first.least m more second.together)
  ]
]

one_pair : (u v x y : ℕ) → (u < x) ⊎ ((u ≡ x) × (v ≤ y)) → (x < u) ⊎ ((x ≡ u) × (y ≤ v)) → (u ≡ x) × (v ≡ y)
one_pair u v x y (inl less) (inl more) = absurd (omega (arith, less, more))
one_pair u v x y (inl less) (inr same) = absurd (omega (arith, less, same.0))
one_pair u v x y (inr same) (inl more) = absurd (omega (arith, more, same.0))
one_pair u v x y (inr here) (inr there) = (here.0, omega (arith, here.1, there.1))

one_word : (word other : List ℕ) → (word ≡ other) ⊎ IsBefore word other → (other ≡ word) ⊎ IsBefore other word → word ≡ other
one_word word other (inl same) back = same
one_word word other (inr before) (inl same) = sym same
one_word word other (inr before) (inr after) = absurd (not_before_itself word (before_on word other word before after))

pub one_read_back : (count : ℕ) (edge : ℕ → ℕ → ℕ → Type 0) (u v x y : ℕ) (word other : List ℕ) → IsLeastReadBack count edge u v word
    → IsLeastReadBack count edge x y other → (u ≡ x) × (v ≡ y) × (word ≡ other)
one_read_back count edge u v x y word other first second =
    let pair = one_pair u v x y (first.least_pair x y other second.order second.inside second.back) (second.least_pair u v word first.order first.inside first.back) in
    let there : ReadBack edge u v other = subst (λ a. ReadBack edge a v other) (sym pair.0) (subst (λ b. ReadBack edge x b other) (sym pair.1) second.back) in
    let back : ReadBack edge x y word = subst (λ a. ReadBack edge a y word) pair.0 (subst (λ b. ReadBack edge u b word) pair.1 first.back) in
    (pair.0, pair.1, one_word word other (first.least_word other there) (second.least_word word back))
