-- The raw state of a word tells which symbols may follow it.
use Rattle.std.proofs.Common.{◌≡◌, ◌↔◌, ℕ, ◌+◌, ◌<◌, ◌≤◌, List, [], ◌∷◌, ◌++◌, ◌⊎◌, inl, inr, Option, Some, None, IfSome, replicate, true, refl, ap, sym, ◌∙◌, subst, arith, add-one}
use Rattle.std.specs.Prelude.{unwrap_or}
use Rattle.std.specs.List.{Contains}
use Rattle.std.proofs.lemmas.Bool.{cases_lt}
use Rattle.std.proofs.lemmas.List.Elements.{All-push, All-contains, Contains-push}
use Rattle.symbol_base.proofs.Walks.{walk-more, walk-last}
use Rattle.constraint_spec.specs.Word.{IsFactor, IsSuffix}
use Rattle.constraint_spec.specs.Walk.{HasEdge}
use Rattle.constraint_spec.specs.Constraint.{ConstraintData, IsWordOf}
use Rattle.constraint_spec.specs.Ranges.{IsConstraint}
use Rattle.constraint_spec.specs.RawState.{RawState, IsRawStateOf, MayFollow, BeginsForbidden}
use Rattle.constraint_spec.proofs.Factors.{IsFactor-front}
use Rattle.constraint_spec.proofs.Suffixes.{IsFactor-suffix, IsFactor-push_cases, IsSuffix-trans, IsSuffix-nested, suffix_more, suffix_less, last_of, zeros_push, fewer_zeros, zeros_behind_one}
use Rattle.constraint_spec.proofs.Ends.{edge_inside}
use Rattle.constraint_spec.proofs.Words.{IsWordOf-factor}

-- a longer word keeps d
keeps_d :
    (c : ConstraintData) (w : List ℕ) (raw : RawState) (symbol n : ℕ) → IsRawStateOf c w raw
    → (symbol ≡ 1 → raw.after_one ≡ true → c.d ≤ raw.zeros)
    → IsSuffix (1 ∷ (replicate n 0 ++ 1 ∷ [])) (w ++ symbol ∷ [])
    → c.d ≤ n
keeps_d c w raw symbol n known may end =
    let split = suffix_less (1 ∷ replicate n 0) w 1 symbol end in
    let enough = may split.1 (known.after_one.1 (n, split.0)) in
    let run = ((known.zeros raw.zeros).0 (omega arith)).1 in
    let fits = zeros_behind_one raw.zeros n w split.0 run in
    omega arith

-- a run of d 0s is counted
counts_d : (k : Option ℕ) (d : ℕ) → IfSome k (λ k. (d ≤ k) × (k ≤ 100)) → d ≤ unwrap_or k d
counts_d None d ranges = omega arith
counts_d (Some k) d ranges = ranges.0

-- a 1 that ends a word stands d 0s behind the 1 before it
one_follows :
    (c : ConstraintData) (w : List ℕ) (raw : RawState) (symbol : ℕ) → IsConstraint c → IsRawStateOf c w raw
    → IsWordOf c (w ++ symbol ∷ []) → symbol ≡ 1 → raw.after_one ≡ true → c.d ≤ raw.zeros
one_follows c w raw symbol ranges known word is_one after =
    let run = known.after_one.0 after in
    let end : IsSuffix ((1 ∷ replicate run.0 0) ++ 1 ∷ []) (w ++ symbol ∷ []) =
    subst (λ s. IsSuffix ((1 ∷ replicate run.0 0) ++ 1 ∷ []) (w ++ s ∷ [])) (sym is_one) (suffix_more (1 ∷ replicate run.0 0) w 1 run.1) in
    let enough = word.ones run.0 (IsFactor-suffix _ _ end) in
    let behind : IsSuffix (replicate run.0 0) (1 ∷ replicate run.0 0) = record { before = 1 ∷ []; joined = refl } in
    let zeros = IsSuffix-trans (replicate run.0 0) (1 ∷ replicate run.0 0) w behind run.1 in
    (known.zeros c.d).1 (counts_d c.k c.d ranges.k, fewer_zeros c.d run.0 w enough zeros)

-- a longer word keeps k
keeps_k :
    (k : Option ℕ) (d : ℕ) (w : List ℕ) (counted symbol : ℕ)
    → ((count : ℕ) → (count ≤ counted) ↔ ((count ≤ unwrap_or k d) × IsSuffix (replicate count 0) w))
    → (symbol ≡ 0 → IfSome k (λ k. counted < k)) → IfSome k (λ k. IsFactor (replicate (k + 1) 0) w → ⊥)
    → IfSome k (λ k. IsFactor (replicate (k + 1) 0) (w ++ symbol ∷ []) → ⊥)
keeps_k None d w counted symbol known may none = tt
keeps_k (Some k) d w counted symbol known may none = λ found.
    elim (IsFactor-push_cases (replicate (k + 1) 0) w symbol found) [
      | inl end ↦ (
          let split = suffix_less (replicate k 0) w 0 symbol
          (subst (λ run. IsSuffix run (w ++ symbol ∷ [])) (ap (λ n. replicate n 0) (add-one k) ∙ sym (zeros_push k)) end) in
          let listed = (known k).1 (omega arith, split.0) in
          let less = may split.1 in
          omega arith)
      | inr within ↦ none within
    ]

-- a 0 that ends a word makes no run longer than k
zero_follows :
    (k : Option ℕ) (d : ℕ) (w : List ℕ) (counted symbol : ℕ)
    → ((count : ℕ) → (count ≤ counted) ↔ ((count ≤ unwrap_or k d) × IsSuffix (replicate count 0) w))
    → IfSome k (λ k. IsFactor (replicate (k + 1) 0) (w ++ symbol ∷ []) → ⊥) → symbol ≡ 0
    → IfSome k (λ k. counted < k)
zero_follows None d w counted symbol known none is_zero = tt
zero_follows (Some k) d w counted symbol known none is_zero = elim (cases_lt counted k) [
  | inl less ↦ less
  | inr many ↦ absurd (
      let run = ((known k).0 many).1 in
      let end : IsSuffix (replicate (k + 1) 0) (w ++ symbol ∷ []) =
      subst (λ s. IsSuffix (replicate (k + 1) 0) (w ++ s ∷ [])) (sym is_zero)
      (subst (λ run. IsSuffix run (w ++ 0 ∷ [])) (zeros_push k ∙ ap (λ n. replicate n 0) (sym (add-one k))) (suffix_more (replicate k 0) w 0 run)) in
      none (IsFactor-suffix (replicate (k + 1) 0) (w ++ symbol ∷ []) end))
]

forbidden_by :
    (c : ConstraintData) (w : List ℕ) (raw : RawState) (symbol : ℕ) (v : List ℕ) → IsRawStateOf c w raw
    → IsWordOf c w → ((v : List ℕ) → Contains c.forbid v → IsSuffix v (raw.matched ++ symbol ∷ []) → ⊥)
    → Contains c.forbid v
    → IsSuffix v (w ++ symbol ∷ []) → (v ≡ []) ⊎ ((front : List ℕ) × (last : ℕ) × (v ≡ front ++ last ∷ [])) → ⊥
forbidden_by c w raw symbol v known word may listed end (inl none) =
    word.forbidden v listed (subst (λ v. IsFactor v w) (sym none) (IsFactor-front [] w))
forbidden_by c w raw symbol v known word may listed end (inr some) =
    let front = some.0 in
    let split = suffix_less front w some.1 symbol (subst (λ v. IsSuffix v (w ++ symbol ∷ [])) some.2 end) in
    let begins : BeginsForbidden c.forbid front = (listed.0, v, listed.1, listed.2, record { after = some.1 ∷ []; joined = some.2 }) in
    let inside = IsSuffix-nested front raw.matched w split.0 known.matched.suffix (known.matched.longest front split.0 begins) in
    let last : IsSuffix (front ++ some.1 ∷ []) (raw.matched ++ symbol ∷ []) =
    subst (λ s. IsSuffix (front ++ s ∷ []) (raw.matched ++ symbol ∷ [])) split.1 (suffix_more front raw.matched symbol inside) in
    may v listed (subst (λ v. IsSuffix v (raw.matched ++ symbol ∷ [])) (sym some.2) last)

-- a symbol that may follow a word makes a longer word
word_more :
    (c : ConstraintData) (w : List ℕ) (raw : RawState) (symbol : ℕ) → IsRawStateOf c w raw
    → IsWordOf c w → MayFollow c raw symbol → IsWordOf c (w ++ symbol ∷ [])
word_more c w raw symbol known word may = record {
  symbols = All-push (λ s. s < c.alphabet) w symbol word.symbols may.inside;
  ones = λ n found. elim (IsFactor-push_cases (1 ∷ (replicate n 0 ++ 1 ∷ [])) w symbol found) [
    | inl end ↦ keeps_d c w raw symbol n known may.one end
    | inr within ↦ word.ones n within
  ];
  zeros = keeps_k c.k c.d w raw.zeros symbol known.zeros may.zero word.zeros;
  forbidden = λ v listed found. elim (IsFactor-push_cases v w symbol found) [
    | inl end ↦ forbidden_by c w raw symbol v known word may.forbidden listed end (last_of v)
    | inr within ↦ word.forbidden v listed within
  ];
  walked = λ given.
      let edge = may.walked given in
      let walk = (known.ends edge.0).0 edge.2 in
      (walk.1, edge.1, walk-more (HasEdge c.edges) w symbol walk.1 edge.0 edge.1 walk.2 edge.3);
}

-- the last symbol of a word may follow the others
last_follows :
    (c : ConstraintData) (w : List ℕ) (raw : RawState) (symbol : ℕ) → IsConstraint c → IsRawStateOf c w raw
    → IsWordOf c (w ++ symbol ∷ []) → MayFollow c raw symbol
last_follows c w raw symbol ranges known word = record {
  inside = All-contains (λ (s : ℕ). s < c.alphabet) (w ++ symbol ∷ []) symbol word.symbols (Contains-push w symbol);
  one = one_follows c w raw symbol ranges known word;
  zero = zero_follows c.k c.d w raw.zeros symbol known.zeros word.zeros;
  forbidden = λ v listed end.
      word.forbidden v listed (IsFactor-suffix v (w ++ symbol ∷ [])
      (IsSuffix-trans v (raw.matched ++ symbol ∷ []) (w ++ symbol ∷ []) end (suffix_more raw.matched w symbol known.matched.suffix)));
  walked = λ given.
      let walk = word.walked given in
      let last = walk-last (HasEdge c.edges) w symbol walk.0 walk.1 walk.2 in
      let inside = (edge_inside c last.0 symbol walk.1 ranges last.2).0 in
      (last.0, walk.1, (known.ends last.0).1 (inside, walk.0, last.1), last.2);
}

-- a word with one more symbol is a word exactly where the word is one and its raw state lets the symbol follow
pub IsWordOf-push :
    (c : ConstraintData) (w : List ℕ) (raw : RawState) (symbol : ℕ) → IsConstraint c → IsRawStateOf c w raw
    → IsWordOf c (w ++ symbol ∷ []) ↔ (IsWordOf c w × MayFollow c raw symbol)
IsWordOf-push c w raw symbol ranges known = (
  (λ word. (IsWordOf-factor c w (w ++ symbol ∷ []) word (IsFactor-front w (symbol ∷ [])), last_follows c w raw symbol ranges known word)),
  (λ both. word_more c w raw symbol known both.0 both.1),
)
