-- The parts of being a word that are tested one after the other: the runs of 0s, the forbidden words, the graph.
use Rattle.std.proofs.Common.{◌≡◌, ◌≢◌, ℕ, get_or, ◌+◌, ◌≤◌, ◌↔◌, List, [], length, replicate, Option, Some, None, IfSome, MatchOption, IsTrue, Bool, false, refl, sym, subst, arith}
use Rattle.std.specs.List.{All, Contains}
use Rattle.std.proofs.lemmas.List.{length-replicate}
use Rattle.std.proofs.lemmas.Bool.{both_ways}
use Rattle.std.proofs.lemmas.List.Elements.{All-contains, Contains-get_or}
use Rattle.constraint_spec.specs.Word.{IsFactor}
use Rattle.constraint_spec.specs.Walk.{LabelsWalk}
use Rattle.constraint_spec.specs.Constraint.{ConstraintData, IsWordOf}
use Rattle.constraint_spec.proofs.Factors.{IsFactor-length}
use Rattle.constraint_model.specs.RunLength.{run_length}

-- no run of 0s is longer than the word it is a part of
beyond_word : (most : ℕ) (w : List ℕ) → length w ≤ most → IsFactor (replicate (most + 1) 0) w → ⊥
beyond_word most w short found =
    omega (arith, IsFactor-length _ w found, length-replicate {A = ℕ} (most + 1) 0)

-- a word keeps k exactly where it keeps the greatest length, which no word exceeds where there is no k
zeros_from_k :
    (k : Option ℕ) (most limit : ℕ) (w : List ℕ) → length w ≤ limit → MatchOption k (most ≡ limit) (λ k. most ≡ k)
    → IfSome k (λ k. IsFactor (replicate (k + 1) 0) w → ⊥) → IsFactor (replicate (most + 1) 0) w → ⊥
zeros_from_k None most limit w short same none = beyond_word most w (omega arith)
zeros_from_k (Some k) most limit w short same none =
    subst (λ n. IsFactor (replicate (n + 1) 0) w → ⊥) (sym same) none

k_from_zeros :
    (k : Option ℕ) (most limit : ℕ) (w : List ℕ) → MatchOption k (most ≡ limit) (λ k. most ≡ k)
    → (IsFactor (replicate (most + 1) 0) w → ⊥) → IfSome k (λ k. IsFactor (replicate (k + 1) 0) w → ⊥)
k_from_zeros None most limit w same none = tt
k_from_zeros (Some k) most limit w same none = subst (λ n. IsFactor (replicate (n + 1) 0) w → ⊥) same none

-- A word keeps the runs of 0s, avoids the forbidden words and labels a walk.
record IsWordByParts (c : ConstraintData) (most : ℕ) (w : List ℕ) : Type 0 where
  pub runs : IsWordOf (run_length c.alphabet c.d (Some most)) w
  pub avoids : All (λ forbidden. IsFactor forbidden w → ⊥) c.forbid
  pub walked : c.edges ≢ [] → LabelsWalk c.edges w

-- the words of a constraint are those by the three parts
word_by_parts :
    (c : ConstraintData) (most limit : ℕ) (w : List ℕ) → length w ≤ limit
    → MatchOption c.k (most ≡ limit) (λ k. most ≡ k) → IsWordByParts c most w ↔ IsWordOf c w
word_by_parts c most limit w short same = (
  λ parts.
      record {
        symbols = parts.runs.symbols;
        ones = parts.runs.ones;
        zeros = k_from_zeros c.k most limit w same parts.runs.zeros;
        forbidden = λ v listed. All-contains (λ (forbidden : List ℕ). IsFactor forbidden w → ⊥) c.forbid v parts.avoids listed;
        walked = parts.walked;
      },
  λ word.
      record {
        runs = record {
          symbols = word.symbols;
          ones = word.ones;
          zeros = zeros_from_k c.k most limit w short same word.zeros;
          forbidden = λ v listed found. omega (arith, listed.1);
          walked = λ given. absurd (given refl);
        };
        avoids = λ k d inside. word.forbidden (get_or c.forbid k d) (Contains-get_or c.forbid k d inside);
        walked = word.walked;
      },
)

-- a word whose runs of 0s aren't kept is none of the constraint
pub no_word_by_runs :
    (kept : Bool) (c now : ConstraintData) (most limit : ℕ) (w : List ℕ) → c ≡ now → length w ≤ limit
    → MatchOption c.k (most ≡ limit) (λ k. most ≡ k) → (IsTrue kept ↔ IsWordOf (run_length c.alphabet c.d (Some most)) w)
    → kept ≡ false → IsWordOf now w → ⊥
no_word_by_runs kept c now most limit w is short same tested failed word =
    let parts = (word_by_parts c most limit w short same).1 (subst (λ d. IsWordOf d w) (sym is) word) in
    both_ways kept failed (tested.1 parts.runs)

-- nor is one of which a forbidden word is a part
pub no_word_by_forbidden :
    (avoided : Bool) (c now : ConstraintData) (forbid : List (List ℕ)) (w : List ℕ) → c ≡ now → forbid ≡ c.forbid
    → (IsTrue avoided ↔ All (λ forbidden. IsFactor forbidden w → ⊥) forbid) → avoided ≡ false → IsWordOf now w → ⊥
no_word_by_forbidden avoided c now forbid w is listed tested failed word =
    let none = λ (v : List ℕ) (among : Contains forbid v). (subst (λ d. IsWordOf d w) (sym is) word).forbidden v (subst (λ words. Contains words v) listed among) in
    both_ways avoided failed (tested.1 (λ k d inside. none (get_or forbid k d) (Contains-get_or forbid k d inside)))
