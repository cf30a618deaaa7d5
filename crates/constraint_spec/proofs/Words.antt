-- Words of a constraint: their parts belong to it too, and so does the empty word.
use Rattle.std.proofs.Common.{ℕ, List, [], ◌∷◌, replicate, Option, Some, None, IfSome, refl, subst, sym, arith, ◌+◌, add-one}
use Rattle.std.specs.List.{Contains}
use Rattle.std.proofs.lemmas.Option.{IfSome_then}
use Rattle.std.proofs.lemmas.List.Elements.{All-contains}
use Rattle.constraint_spec.specs.Word.{IsFactor}
use Rattle.constraint_spec.specs.Constraint.{ConstraintData, IsWordOf}
use Rattle.constraint_spec.specs.Ranges.{IsConstraint, IsForbiddable}
use Rattle.constraint_spec.proofs.Factors.{IsFactor-trans, IsFactor-nil, IsOver-factor}
use Rattle.constraint_spec.proofs.Walks.{LabelsWalk-factor}

-- a part of a word is a word
pub IsWordOf-factor : (c : ConstraintData) (v w : List ℕ) → IsWordOf c w → IsFactor v w → IsWordOf c v
IsWordOf-factor c v w word part = record {
  symbols = IsOver-factor c.alphabet v w part word.symbols;
  ones = λ n found. word.ones n (IsFactor-trans _ v w found part);
  zeros = IfSome_then c.k word.zeros (λ k none found. none (IsFactor-trans _ v w found part));
  forbidden = λ u listed found. word.forbidden u listed (IsFactor-trans u v w found part);
  walked = λ given. LabelsWalk-factor c.edges v w part (word.walked given);
}

-- the empty word has no run of 0s
no_zeros : (k : Option ℕ) → IfSome k (λ k. IsFactor (replicate (k + 1) 0) [] → ⊥)
no_zeros None = tt
no_zeros (Some k) =
    let P : ℕ → Type 0 = λ n. IsFactor (replicate n 0) [] → ⊥ in
    subst P (sym (add-one k)) (λ found. IsFactor-nil 0 _ found)

-- a forbidden word has a symbol, so it is no part of the empty word
not_empty : (alphabet : ℕ) (u : List ℕ) → IsForbiddable alphabet u → IsFactor u [] → ⊥
not_empty alphabet [] forbiddable found = omega (arith, forbiddable.0)
not_empty alphabet (symbol ∷ u) forbiddable found = IsFactor-nil symbol u found

-- each listed word is one that may be forbidden
listed_forbiddable :
    (c : ConstraintData) (u : List ℕ) → IsConstraint c → Contains c.forbid u → IsForbiddable c.alphabet u
listed_forbiddable c u ranges listed =
    let P = IsForbiddable c.alphabet in
    All-contains P c.forbid u ranges.forbid_words listed

-- the empty word is a word
pub IsWordOf-nil : (c : ConstraintData) → IsConstraint c → IsWordOf c []
IsWordOf-nil c ranges = record {
  symbols = λ k d inside. absurd (omega arith);
  ones = λ n found. absurd (IsFactor-nil 1 _ found);
  zeros = no_zeros c.k;
  forbidden = λ u listed found. not_empty c.alphabet u (listed_forbiddable c u ranges listed) found;
  walked = λ given. (0, 0, refl);
}
