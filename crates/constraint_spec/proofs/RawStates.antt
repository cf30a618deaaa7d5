-- The raw state of a word goes on with each symbol, and is the only one.
use Rattle.std.proofs.Common.{◌≡◌, ◌≢◌, ◌↔◌, ℕ, ◌≤◌, List, [], ◌∷◌, ◌++◌, length, replicate, refl, ap, sym, ◌∙◌, subst, arith, append_assoc, append-nil, ◌⊎◌, inl, inr}
use Rattle.std.specs.Prelude.{fold}
use Rattle.std.proofs.lemmas.Bool.{true≢false}
use Rattle.std.proofs.lemmas.Bool.Decides.{same_from_decides}
use Rattle.std.proofs.lemmas.List.{length-replicate}
use Rattle.std.proofs.lemmas.List.Sums.{fold_push}
use Rattle.constraint_spec.specs.Word.{IsSuffix}
use Rattle.constraint_spec.specs.Constraint.{ConstraintData}
use Rattle.constraint_spec.specs.Ranges.{IsConstraint}
use Rattle.constraint_spec.specs.RawState.{RawState, IsLongestMatch, IsRawStateOf, zeros_limit}
use Rattle.constraint_spec.specs.RawStateOf.{first_raw_state, next_raw_state, longest_match, raw_state, is_led}
use Rattle.constraint_spec.proofs.Suffixes.{IsSuffix-nil, IsSuffix-nested, IsSuffix-whole, IsSuffix-length, suffix_of_nothing}
use Rattle.constraint_spec.proofs.RawParts.{after_one_more, zeros_more, match_found, match_more}
use Rattle.symbol_base.proofs.AscendingNumbers.{filter_ascends, range_ascends, ascending_same}
use Rattle.constraint_spec.proofs.Ends.{ends_first, ends_more}

-- that of the empty word
first_is_raw_state : (c : ConstraintData) → IsRawStateOf c [] (first_raw_state c)
first_is_raw_state c = record {
  after_one = ((λ yes. absurd (true≢false (sym yes))), (λ one. absurd (let none = suffix_of_nothing (1 ∷ replicate one.0 0) one.1 in cc)));
  zeros = λ count. (
    (λ none. (let same : 0 ≡ count = omega (arith, none) in (omega arith, subst (λ n. IsSuffix (replicate n 0) []) same (IsSuffix-nil [])))),
    (λ some. omega (arith, IsSuffix-length (replicate count 0) [] some.1, length-replicate {A = ℕ} count 0)),
  );
  matched = match_found c.forbid [];
  ends = ends_first c;
  order = range_ascends 0 c.states;
}

-- that of a word with one more symbol
pub next_is_raw_state :
    (c : ConstraintData) (w : List ℕ) (raw : RawState) (symbol : ℕ) → IsConstraint c → IsRawStateOf c w raw
    → IsRawStateOf c (w ++ symbol ∷ []) (next_raw_state c raw symbol)
next_is_raw_state c w raw symbol ranges known = record {
  after_one = after_one_more raw.after_one w symbol known.after_one;
  zeros = zeros_more (zeros_limit c) raw.zeros w symbol known.zeros;
  matched = match_more c.forbid w raw.matched (longest_match c.forbid (raw.matched ++ symbol ∷ [])) symbol known.matched
      (match_found c.forbid (raw.matched ++ symbol ∷ []));
  ends = ends_more c w raw.ends symbol ranges known.ends;
  order = filter_ascends (is_led c.edges raw.ends symbol) 0 c.states;
}

raw_state_behind :
    (c : ConstraintData) (w u : List ℕ) (raw : RawState) → IsConstraint c → IsRawStateOf c u raw
    → IsRawStateOf c (u ++ w) (fold (next_raw_state c) raw w)
raw_state_behind c [] u raw ranges known = subst (λ w. IsRawStateOf c w raw) (sym (append-nil u)) known
raw_state_behind c (symbol ∷ w) u raw ranges known =
    let next = next_raw_state c raw symbol in
    subst (λ whole. IsRawStateOf c whole (fold (next_raw_state c) next w)) (append_assoc u (symbol ∷ []) w)
    (raw_state_behind c w (u ++ symbol ∷ []) next ranges (next_is_raw_state c u raw symbol ranges known))

-- the value is the raw state of the word
pub raw_state_of_word : (c : ConstraintData) (w : List ℕ) → IsConstraint c → IsRawStateOf c w (raw_state c w)
raw_state_of_word c w ranges = raw_state_behind c w [] (first_raw_state c) ranges (first_is_raw_state c)

pub raw_state-push :
    (c : ConstraintData) (w : List ℕ) (symbol : ℕ) → raw_state c (w ++ symbol ∷ []) ≡ next_raw_state c (raw_state c w) symbol
raw_state-push c w symbol = fold_push (next_raw_state c) (first_raw_state c) w symbol

-- two numbers with the same numbers up to them are one
zeros_same :
    (limit m n : ℕ) (w : List ℕ) → ((count : ℕ) → (count ≤ m) ↔ ((count ≤ limit) × IsSuffix (replicate count 0) w))
    → ((count : ℕ) → (count ≤ n) ↔ ((count ≤ limit) × IsSuffix (replicate count 0) w)) → m ≡ n
zeros_same limit m n w first second =
    let up = (second m).1 ((first m).0 (omega arith)) in
    let down = (first n).1 ((second n).0 (omega arith)) in
    omega arith

empty_or_not : (v : List ℕ) → (v ≡ []) ⊎ (v ≢ [])
empty_or_not [] = inl refl
empty_or_not (s ∷ v) = inr (λ none. cc)

-- a longest match is no longer than another
match_within :
    (forbid : List (List ℕ)) (w u v : List ℕ) → IsLongestMatch forbid w u → IsLongestMatch forbid w v
    → length u ≤ length v
match_within forbid w u v first second = elim (empty_or_not u) [
  | inl none ↦ omega (arith, ap (λ (u : List ℕ). length u) none)
  | inr some ↦ second.longest u first.suffix (first.begins some)
]

match_same :
    (forbid : List (List ℕ)) (w u v : List ℕ) → IsLongestMatch forbid w u → IsLongestMatch forbid w v → u ≡ v
match_same forbid w u v first second =
    let up = match_within forbid w u v first second in
    let down = match_within forbid w v u second first in
    IsSuffix-whole u v (IsSuffix-nested u v w first.suffix second.suffix up) (omega arith)

raw_same :
    (a b : RawState) → a.after_one ≡ b.after_one → a.zeros ≡ b.zeros → a.matched ≡ b.matched → a.ends ≡ b.ends → a ≡ b
raw_same a b one zeros matched ends =
    ap (λ x. record { after_one = x; zeros = a.zeros; matched = a.matched; ends = a.ends }) one
    ∙ ap (λ x. record { after_one = b.after_one; zeros = x; matched = a.matched; ends = a.ends }) zeros
    ∙ ap (λ x. record { after_one = b.after_one; zeros = b.zeros; matched = x; ends = a.ends }) matched
    ∙ ap (λ x. record { after_one = b.after_one; zeros = b.zeros; matched = b.matched; ends = x }) ends

-- a word has one raw state
pub one_raw_state :
    (c : ConstraintData) (w : List ℕ) (a b : RawState) → IsRawStateOf c w a → IsRawStateOf c w b → a ≡ b
one_raw_state c w a b first second =
    raw_same a b (same_from_decides a.after_one b.after_one first.after_one second.after_one)
    (zeros_same (zeros_limit c) a.zeros b.zeros w first.zeros second.zeros)
    (match_same c.forbid w a.matched b.matched first.matched second.matched)
    (ascending_same a.ends b.ends first.order second.order
    (λ state found. (second.ends state).1 ((first.ends state).0 found))
    (λ state found. (first.ends state).1 ((second.ends state).0 found)))
