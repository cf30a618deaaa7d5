-- The walks of a code's steps.
use Rattle.std.proofs.Common.{◌≡◌, ◌↔◌, ℕ, ◌<◌, ◌^◌, List, [], ◌∷◌, refl, sym, subst, arith}
use Rattle.std.proofs.lemmas.List.Elements.{All-head, All-tail, All-from_recursion, recursion_from_All}
use Rattle.symbol_base.specs.Walk.{IsWalk}
use Rattle.code_spec.specs.Code.{CodeData, IsCode, IsState, IsDataWord, IsDataWords}
use Rattle.code_spec.specs.Output.{row_at, state_after, IsStep}
use Rattle.code_spec.proofs.OutputLaws.{row_in_range}

-- a data word leads to a state of the code
next_inside : (c : CodeData) (state word : ℕ) → IsCode c → IsState c state → IsDataWord c word → IsState c (row_at c.rows state word).to
next_inside c state word code inside below = (row_in_range c state word code inside below).1

-- one data word more
pub words_more : (c : CodeData) (word : ℕ) (words : List ℕ) → IsDataWord c word → IsDataWords c words → IsDataWords c (word ∷ words)
words_more c word words first rest =
    let P : ℕ → Type 0 = λ word. word < 2 ^ c.p in
    All-from_recursion P (word ∷ words) (first, recursion_from_All P words rest)

-- data words lead to a state of the code
pub after_inside :
    (c : CodeData) (state : ℕ) (words : List ℕ) → IsCode c → IsState c state → IsDataWords c words
    → IsState c (state_after c.rows state words)
after_inside c state [] code inside below = inside
after_inside c state (word ∷ words) code inside below =
    let P : ℕ → Type 0 = λ word. word < 2 ^ c.p in
    after_inside c (row_at c.rows state word).to words code
    (next_inside c state word code inside (All-head P word words below)) (All-tail P word words below)

-- a walk is by data words, and ends in the state after them
walk-words :
    (c : CodeData) (state : ℕ) (words : List ℕ) (next : ℕ) → IsWalk (IsStep c) state words next
    → IsDataWords c words × (next ≡ state_after c.rows state words)
walk-words c state [] next walk = ((λ k d within. absurd (omega arith)), sym walk)
walk-words c state (word ∷ words) next walk =
    let rest = walk-words c walk.0 words next walk.2 in (
      words_more c word words walk.1.by rest.0,
      subst (λ (via : ℕ). next ≡ state_after c.rows via words) walk.1.to rest.1,
    )

-- data words lead along a walk to the state after them
words-walk :
    (c : CodeData) (state : ℕ) (words : List ℕ) → IsCode c → IsState c state → IsDataWords c words
    → IsWalk (IsStep c) state words (state_after c.rows state words)
words-walk c state [] code inside below = refl
words-walk c state (word ∷ words) code inside below =
    let P : ℕ → Type 0 = λ word. word < 2 ^ c.p in
    let first = All-head P word words below in
    let next = (row_at c.rows state word).to in (
      next,
      record { from = inside; by = first; to = refl },
      words-walk c next words code (next_inside c state word code inside first) (All-tail P word words below),
    )

pub walks_of_words :
    (c : CodeData) (state : ℕ) (words : List ℕ) (next : ℕ) → IsCode c → IsState c state
    → IsWalk (IsStep c) state words next ↔ (IsDataWords c words × (next ≡ state_after c.rows state words))
walks_of_words c state words next code inside = (
  walk-words c state words next,
  λ given. subst (λ (there : ℕ). IsWalk (IsStep c) state words there) (sym given.1) (words-walk c state words code inside given.0),
)
