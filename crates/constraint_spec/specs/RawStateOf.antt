-- The raw state of a word as a value, which goes on from symbol to symbol.
use Rattle.std.specs.Prelude.{ℕ, zero, suc, ◌+◌, min, Bool, true, false, ◌&&◌, ◌||◌, not, nat_eq, nat_lt, nat_le, if◌then◌else◌, List, [], ◌∷◌, ◌++◌, length, filter, fold, Option, Some, None}
use Rattle.std.specs.List.{list_any, range_with_len, starts_with, ends_with}
use Rattle.constraint_spec.specs.declared.GraphEdge.{GraphEdge}
use Rattle.constraint_spec.specs.Constraint.{ConstraintData}
use Rattle.constraint_spec.specs.RawState.{RawState, zeros_limit}

-- that of the empty word
abbrev pub first_raw_state : ConstraintData → RawState
first_raw_state c = record { after_one = false; zeros = 0; matched = []; ends = range_with_len 0 c.states }

abbrev pub next_after_one : Bool → ℕ → Bool
next_after_one before zero = before
next_after_one before (suc zero) = true
next_after_one before (suc (suc symbol)) = false

abbrev pub next_zeros : ℕ → ℕ → ℕ → ℕ
next_zeros limit before zero = min (before + 1) limit
next_zeros limit before (suc symbol) = 0

abbrev pub begins_forbidden : List (List ℕ) → List ℕ → Bool
begins_forbidden forbid v = list_any (λ forbidden. starts_with nat_eq forbidden v) forbid

-- the longest suffix with which a forbidden word begins
abbrev pub longest_match : List (List ℕ) → List ℕ → List ℕ
longest_match forbid [] = []
longest_match forbid (symbol ∷ w) =
    if begins_forbidden forbid (symbol ∷ w) then symbol ∷ w else longest_match forbid w

-- whether an edge with the symbol leads from one of the states to this one
abbrev pub is_led : List GraphEdge → List ℕ → ℕ → ℕ → Bool
is_led edges from symbol to =
    list_any (λ e. nat_eq e.label symbol && (nat_eq e.to to && list_any (nat_eq e.from) from)) edges

-- that of a word with one more symbol, from that of the word
abbrev pub next_raw_state : ConstraintData → RawState → ℕ → RawState
next_raw_state c raw symbol = record {
  after_one = next_after_one raw.after_one symbol;
  zeros = next_zeros (zeros_limit c) raw.zeros symbol;
  matched = longest_match c.forbid (raw.matched ++ symbol ∷ []);
  ends = filter (is_led c.edges raw.ends symbol) (range_with_len 0 c.states);
}

abbrev pub raw_state : ConstraintData → List ℕ → RawState
raw_state c w = fold (next_raw_state c) (first_raw_state c) w

abbrev pub is_below : ℕ → Option ℕ → Bool
is_below n None = true
is_below n (Some k) = nat_lt n k

-- whether the symbol may follow a word of the constraint with this raw state, as a test
abbrev pub may_follow : ConstraintData → RawState → ℕ → Bool
may_follow c raw symbol =
    nat_lt symbol c.alphabet
    && ((not (nat_eq symbol 1) || (not raw.after_one || nat_le c.d raw.zeros))
    && ((not (nat_eq symbol 0) || is_below raw.zeros c.k)
    && (not (list_any (ends_with nat_eq (raw.matched ++ symbol ∷ [])) c.forbid)
    && (nat_eq (length c.edges) 0 || not (nat_eq (length (next_raw_state c raw symbol).ends) 0)))))
