-- The definitions on small constraints: each list of words was found by hand.
use Rattle.std.proofs.Common.{◌≡◌, ℕ, ◌^◌, ◌<◌, List, [], ◌∷◌, filter, map, Some, None, Bool, true, false, refl, arith}
use Rattle.std.specs.Prelude.{replicate}
use Rattle.std.specs.List.{range_with_len}
use Rattle.std.proofs.lemmas.Bool.{both_ways}
use Rattle.std.proofs.lemmas.List.Elements.{All-from_recursion}
use Rattle.symbol_base.specs.Block.{symbols_of}
use Rattle.symbol_base.specs.Walk.{IsWalk}
use Rattle.constraint_spec.specs.declared.GraphEdge.{GraphEdge}
use Rattle.constraint_spec.specs.Walk.{HasEdge, LabelsWalk, PassesStates}
use Rattle.constraint_spec.specs.Constraint.{ConstraintData, IsWordOf}
use Rattle.constraint_spec.specs.Ranges.{IsConstraint, IsForbiddable, IsEdgeOf}
use Rattle.constraint_spec.specs.RawStateOf.{first_raw_state, raw_state}
use Rattle.constraint_spec.proofs.Deciding.{may_be_read, Decides-word}

-- all words of a length over the symbols 0 and 1, in their order
abbrev words_of_length : ℕ → List (List ℕ)
words_of_length n = map (symbols_of 2 n) (range_with_len 0 (2 ^ n))

-- those of them that belong to a constraint
abbrev words : ConstraintData → ℕ → List (List ℕ)
words c n = filter (may_be_read c (first_raw_state c)) (words_of_length n)

abbrev edge : ℕ → ℕ → ℕ → GraphEdge
edge from label to = record { from = from; label = label; to = to }

-- d 0, k 3, no 11, and the edge A-0-A
abbrev all_parts : ConstraintData
all_parts = record {
  alphabet =
      2;
  d = 0;
  k = Some 3;
  forbid = (1 ∷ 1 ∷ []) ∷ [];
  states = 1;
  edges = edge 0 0 0 ∷ [];
}

all_parts_ranges : IsConstraint all_parts
all_parts_ranges = record {
  alphabet = (omega arith, omega arith);
  d = omega arith;
  k = (omega arith, omega arith);
  forbid_count = omega arith;
  forbid_words = All-from_recursion (IsForbiddable 2) all_parts.forbid
      ((omega arith, omega arith, All-from_recursion (λ s. s < 2) (1 ∷ 1 ∷ []) (omega arith, (omega arith, tt))), tt);
  forbid_order = tt;
  states = omega arith;
  graph = ((λ none. cc), (λ none. cc));
  edge_count = omega arith;
  edges = All-from_recursion (IsEdgeOf all_parts) all_parts.edges ((omega arith, omega arith, omega arith), tt);
  edge_order = tt;
}

-- its words are the empty one, 0, 00 and 000
words_of_all_parts-0 : words all_parts 0 ≡ [] ∷ []
words_of_all_parts-0 = refl

words_of_all_parts-1 : words all_parts 1 ≡ (0 ∷ []) ∷ []
words_of_all_parts-1 = refl

words_of_all_parts-2 : words all_parts 2 ≡ (0 ∷ 0 ∷ []) ∷ []
words_of_all_parts-2 = refl

words_of_all_parts-3 : words all_parts 3 ≡ (0 ∷ 0 ∷ 0 ∷ []) ∷ []
words_of_all_parts-3 = refl

words_of_all_parts-4 : words all_parts 4 ≡ []
words_of_all_parts-4 = refl

-- so by the definition 000 is a word, and neither 0000 nor 1 is one
word-000 : IsWordOf all_parts (0 ∷ 0 ∷ 0 ∷ [])
word-000 = (Decides-word all_parts (0 ∷ 0 ∷ 0 ∷ []) all_parts_ranges).0 refl

no_word-0000 : IsWordOf all_parts (0 ∷ 0 ∷ 0 ∷ 0 ∷ []) → ⊥
no_word-0000 word = both_ways _ refl ((Decides-word all_parts (0 ∷ 0 ∷ 0 ∷ 0 ∷ []) all_parts_ranges).1 word)

no_word-1 : IsWordOf all_parts (1 ∷ []) → ⊥
no_word-1 word = both_ways _ refl ((Decides-word all_parts (1 ∷ []) all_parts_ranges).1 word)

-- no part: every word is one
abbrev free : ConstraintData
free = record { alphabet = 2; d = 0; k = None; forbid = []; states = 0; edges = [] }

words_of_free : words free 2 ≡ (0 ∷ 0 ∷ []) ∷ (0 ∷ 1 ∷ []) ∷ (1 ∷ 0 ∷ []) ∷ (1 ∷ 1 ∷ []) ∷ []
words_of_free = refl

-- d 2 and no k: any number of 0s, and two at least between 1s
abbrev far_ones : ConstraintData
far_ones = record { alphabet = 2; d = 2; k = None; forbid = []; states = 0; edges = [] }

words_of_far_ones :
    words far_ones 4 ≡ (0 ∷ 0 ∷ 0 ∷ 0 ∷ []) ∷ (0 ∷ 0 ∷ 0 ∷ 1 ∷ []) ∷ (0 ∷ 0 ∷ 1 ∷ 0 ∷ [])
    ∷ (0 ∷ 1 ∷ 0 ∷ 0 ∷ []) ∷ (1 ∷ 0 ∷ 0 ∷ 0 ∷ []) ∷ (1 ∷ 0 ∷ 0 ∷ 1 ∷ []) ∷ []
words_of_far_ones = refl

-- d 1 and k 3
abbrev mfm : ConstraintData
mfm = record { alphabet = 2; d = 1; k = Some 3; forbid = []; states = 0; edges = [] }

words_of_mfm :
    words mfm 4 ≡ (0 ∷ 0 ∷ 0 ∷ 1 ∷ []) ∷ (0 ∷ 0 ∷ 1 ∷ 0 ∷ []) ∷ (0 ∷ 1 ∷ 0 ∷ 0 ∷ []) ∷ (0 ∷ 1 ∷ 0 ∷ 1 ∷ [])
    ∷ (1 ∷ 0 ∷ 0 ∷ 0 ∷ []) ∷ (1 ∷ 0 ∷ 0 ∷ 1 ∷ []) ∷ (1 ∷ 0 ∷ 1 ∷ 0 ∷ []) ∷ []
words_of_mfm = refl

-- the forbidden word 101 alone
abbrev no_101 : ConstraintData
no_101 = record { alphabet = 2; d = 0; k = None; forbid = (1 ∷ 0 ∷ 1 ∷ []) ∷ []; states = 0; edges = [] }

words_of_no_101 :
    words no_101 3 ≡ (0 ∷ 0 ∷ 0 ∷ []) ∷ (0 ∷ 0 ∷ 1 ∷ []) ∷ (0 ∷ 1 ∷ 0 ∷ []) ∷ (0 ∷ 1 ∷ 1 ∷ [])
    ∷ (1 ∷ 0 ∷ 0 ∷ []) ∷ (1 ∷ 1 ∷ 0 ∷ []) ∷ (1 ∷ 1 ∷ 1 ∷ []) ∷ []
words_of_no_101 = refl

-- the cycle A-1-B, B-0-A alone: 1s and 0s in turn, from either state
abbrev cycle : List GraphEdge
cycle = edge 0 1 1 ∷ edge 1 0 0 ∷ []

abbrev in_turn : ConstraintData
in_turn = record { alphabet = 2; d = 0; k = None; forbid = []; states = 2; edges = cycle }

words_of_in_turn : words in_turn 3 ≡ (0 ∷ 1 ∷ 0 ∷ []) ∷ (1 ∷ 0 ∷ 1 ∷ []) ∷ []
words_of_in_turn = refl

-- a walk of that graph by its labels, and by the states that it passes
walk-10 : IsWalk (HasEdge cycle) 0 (1 ∷ 0 ∷ []) 0
walk-10 = (1, (0, omega arith, refl), (0, (1, omega arith, refl), refl))

labels-10 : LabelsWalk cycle (1 ∷ 0 ∷ [])
labels-10 = (0, 0, walk-10)

states_of_10 : PassesStates cycle (1 ∷ 0 ∷ []) (0 ∷ 1 ∷ 0 ∷ [])
states_of_10 = ((0, omega arith, refl), ((1, omega arith, refl), tt))

-- the walk with no labels stays
walk-nothing : IsWalk (HasEdge cycle) 1 [] 1
walk-nothing = refl

-- raw states: the 0s behind the last 1 up to the limit, how much of a forbidden word, and where walks end
raw_state_of_1000 :
    raw_state mfm (0 ∷ 1 ∷ 0 ∷ 0 ∷ 0 ∷ []) ≡ record { after_one = true; zeros = 3; matched = []; ends = [] }
raw_state_of_1000 = refl

raw_state_of_zeros :
    raw_state far_ones (0 ∷ 0 ∷ 0 ∷ []) ≡ record { after_one = false; zeros = 2; matched = []; ends = [] }
raw_state_of_zeros = refl

raw_state_of_110 :
    raw_state no_101 (1 ∷ 1 ∷ 0 ∷ []) ≡ record { after_one = true; zeros = 0; matched = 1 ∷ 0 ∷ []; ends = [] }
raw_state_of_110 = refl

raw_state_of_10 :
    raw_state in_turn (1 ∷ 0 ∷ []) ≡ record { after_one = true; zeros = 0; matched = []; ends = 0 ∷ [] }
raw_state_of_10 = refl

-- with no symbol: no 1, no 0, nothing of a forbidden word, and walks end at each state
raw_state_of_nothing : raw_state in_turn [] ≡ record { after_one = false; zeros = 0; matched = []; ends = 0 ∷ 1 ∷ [] }
raw_state_of_nothing = refl

-- a symbol other than 0 and 1 ends a run as a 1 does, but asks for no 0s behind it
abbrev three_symbols : ConstraintData
three_symbols = record { alphabet = 3; d = 2; k = None; forbid = []; states = 0; edges = [] }

raw_state_of_120 : raw_state three_symbols (1 ∷ 2 ∷ 0 ∷ []) ≡ record { after_one = false; zeros = 1; matched = []; ends = [] }
raw_state_of_120 = refl

word-121 : may_be_read three_symbols (first_raw_state three_symbols) (1 ∷ 2 ∷ 1 ∷ []) ≡ true
word-121 = refl

no_word-101 : may_be_read three_symbols (first_raw_state three_symbols) (1 ∷ 0 ∷ 1 ∷ []) ≡ false
no_word-101 = refl

-- which of some words belong to a constraint
abbrev belong : ConstraintData → List (List ℕ) → List Bool
belong c list = map (may_be_read c (first_raw_state c)) list

-- one to three 0s between 1s
abbrev one_to_three : ConstraintData
one_to_three = record { alphabet = 2; d = 1; k = Some 3; forbid = []; states = 0; edges = [] }

words_of-one_to_three : belong one_to_three ([] ∷ (0 ∷ []) ∷ (1 ∷ []) ∷ (1 ∷ 0 ∷ 1 ∷ []) ∷ (1 ∷ 0 ∷ 0 ∷ 1 ∷ []) ∷ (1 ∷ 0 ∷ 0 ∷ 0 ∷ 1 ∷ []) ∷ (0 ∷ 0 ∷ 0 ∷ 1 ∷ []) ∷ (1 ∷ 0 ∷ 0 ∷ 0 ∷ []) ∷ (0 ∷ 1 ∷ 0 ∷ 0 ∷ 1 ∷ 0 ∷ 0 ∷ 0 ∷ 1 ∷ []) ∷ []) ≡ replicate 9 true
words_of-one_to_three = refl

no_words_of-one_to_three : belong one_to_three ((1 ∷ 1 ∷ []) ∷ (1 ∷ 0 ∷ 0 ∷ 0 ∷ 0 ∷ 1 ∷ []) ∷ (0 ∷ 0 ∷ 0 ∷ 0 ∷ 1 ∷ []) ∷ (1 ∷ 0 ∷ 0 ∷ 0 ∷ 0 ∷ []) ∷ (0 ∷ 1 ∷ 1 ∷ 0 ∷ []) ∷ (2 ∷ []) ∷ (1 ∷ 2 ∷ 1 ∷ []) ∷ []) ≡ replicate 7 false
no_words_of-one_to_three = refl

-- two to seven 0s between 1s: the first and the last run may be shorter
abbrev two_to_seven : ConstraintData
two_to_seven = record { alphabet = 2; d = 2; k = Some 7; forbid = []; states = 0; edges = [] }

words_of-two_to_seven : belong two_to_seven ((1 ∷ []) ∷ (0 ∷ 1 ∷ []) ∷ (1 ∷ 0 ∷ []) ∷ (0 ∷ 1 ∷ 0 ∷ []) ∷ (1 ∷ 0 ∷ 0 ∷ 1 ∷ []) ∷ (0 ∷ 1 ∷ 0 ∷ 0 ∷ 1 ∷ 0 ∷ []) ∷ (1 ∷ 0 ∷ 0 ∷ 0 ∷ 0 ∷ 0 ∷ 0 ∷ 0 ∷ 1 ∷ []) ∷ []) ≡ replicate 7 true
words_of-two_to_seven = refl

no_words_of-two_to_seven : belong two_to_seven ((1 ∷ 0 ∷ 1 ∷ []) ∷ (0 ∷ 1 ∷ 0 ∷ 0 ∷ 1 ∷ 0 ∷ 1 ∷ 0 ∷ []) ∷ (1 ∷ 0 ∷ 0 ∷ 0 ∷ 0 ∷ 0 ∷ 0 ∷ 0 ∷ 0 ∷ 1 ∷ []) ∷ (0 ∷ 0 ∷ 0 ∷ 0 ∷ 0 ∷ 0 ∷ 0 ∷ 0 ∷ []) ∷ []) ≡ replicate 4 false
no_words_of-two_to_seven = refl

-- no two 0s in a row
abbrev single_zeros : ConstraintData
single_zeros = record { alphabet = 2; d = 0; k = Some 1; forbid = []; states = 0; edges = [] }

words_of-single_zeros : belong single_zeros ((0 ∷ 1 ∷ 1 ∷ 0 ∷ []) ∷ (1 ∷ 0 ∷ 1 ∷ 0 ∷ 1 ∷ []) ∷ []) ≡ replicate 2 true
words_of-single_zeros = refl

no_words_of-single_zeros : belong single_zeros ((0 ∷ 0 ∷ 1 ∷ 0 ∷ []) ∷ (0 ∷ 1 ∷ 0 ∷ 0 ∷ []) ∷ (0 ∷ 2 ∷ []) ∷ []) ≡ replicate 3 false
no_words_of-single_zeros = refl

-- no 0 at all
abbrev no_zero : ConstraintData
no_zero = record { alphabet = 2; d = 0; k = Some 0; forbid = []; states = 0; edges = [] }

words_of-no_zero : belong no_zero ([] ∷ (1 ∷ 1 ∷ 1 ∷ []) ∷ []) ≡ replicate 2 true
words_of-no_zero = refl

no_words_of-no_zero : belong no_zero ((0 ∷ []) ∷ (1 ∷ 0 ∷ 1 ∷ []) ∷ []) ≡ replicate 2 false
no_words_of-no_zero = refl

-- three 0s between 1s, or more
abbrev three_or_more : ConstraintData
three_or_more = record { alphabet = 2; d = 3; k = None; forbid = []; states = 0; edges = [] }

words_of-three_or_more : belong three_or_more ((0 ∷ 0 ∷ []) ∷ (1 ∷ 0 ∷ 0 ∷ 0 ∷ 1 ∷ []) ∷ (1 ∷ 0 ∷ 0 ∷ 0 ∷ 0 ∷ 0 ∷ 0 ∷ 0 ∷ 0 ∷ 0 ∷ 0 ∷ 0 ∷ 0 ∷ 1 ∷ []) ∷ []) ≡ replicate 3 true
words_of-three_or_more = refl

no_words_of-three_or_more : belong three_or_more ((1 ∷ 1 ∷ []) ∷ (1 ∷ 0 ∷ 0 ∷ 1 ∷ []) ∷ []) ≡ replicate 2 false
no_words_of-three_or_more = refl

-- a symbol above 1 ends a run, and asks for no 0s
abbrev over_three : ConstraintData
over_three = record { alphabet = 3; d = 1; k = Some 2; forbid = []; states = 0; edges = [] }

words_of-over_three : belong over_three ((1 ∷ 2 ∷ 1 ∷ []) ∷ (1 ∷ 0 ∷ 1 ∷ []) ∷ (1 ∷ 0 ∷ 2 ∷ 1 ∷ []) ∷ (1 ∷ 2 ∷ 0 ∷ 1 ∷ []) ∷ (0 ∷ 0 ∷ 2 ∷ 0 ∷ 0 ∷ []) ∷ []) ≡ replicate 5 true
words_of-over_three = refl

no_words_of-over_three : belong over_three ((1 ∷ 1 ∷ []) ∷ (2 ∷ 1 ∷ 1 ∷ 2 ∷ []) ∷ (2 ∷ 0 ∷ 0 ∷ 0 ∷ 2 ∷ []) ∷ (1 ∷ 3 ∷ 1 ∷ []) ∷ []) ≡ replicate 4 false
no_words_of-over_three = refl

-- the same over four symbols
abbrev over_four : ConstraintData
over_four = record { alphabet = 4; d = 2; k = None; forbid = []; states = 0; edges = [] }

words_of-over_four : belong over_four ((1 ∷ 3 ∷ 1 ∷ []) ∷ (3 ∷ 2 ∷ 3 ∷ 0 ∷ 0 ∷ 0 ∷ 2 ∷ []) ∷ []) ≡ replicate 2 true
words_of-over_four = refl

no_words_of-over_four : belong over_four ((3 ∷ 1 ∷ 0 ∷ 1 ∷ []) ∷ (1 ∷ 4 ∷ 1 ∷ []) ∷ []) ≡ replicate 2 false
no_words_of-over_four = refl

-- neither 11 nor 010
abbrev no_pair : ConstraintData
no_pair = record { alphabet = 2; d = 0; k = None; forbid = (1 ∷ 1 ∷ []) ∷ (0 ∷ 1 ∷ 0 ∷ []) ∷ []; states = 0; edges = [] }

words_of-no_pair : belong no_pair ([] ∷ (1 ∷ []) ∷ (0 ∷ 1 ∷ []) ∷ (1 ∷ 0 ∷ []) ∷ (0 ∷ 0 ∷ 1 ∷ []) ∷ (1 ∷ 0 ∷ 1 ∷ []) ∷ (1 ∷ 0 ∷ 0 ∷ 1 ∷ []) ∷ (0 ∷ 0 ∷ 0 ∷ 0 ∷ []) ∷ []) ≡ replicate 8 true
words_of-no_pair = refl

no_words_of-no_pair : belong no_pair ((1 ∷ 1 ∷ []) ∷ (0 ∷ 1 ∷ 0 ∷ []) ∷ (0 ∷ 1 ∷ 1 ∷ []) ∷ (1 ∷ 1 ∷ 0 ∷ []) ∷ (1 ∷ 0 ∷ 1 ∷ 0 ∷ []) ∷ []) ≡ replicate 5 false
no_words_of-no_pair = refl

-- the walks of a graph, from any of its states
abbrev three_levels : ConstraintData
three_levels = record { alphabet = 2; d = 0; k = None; forbid = []; states = 3; edges = edge 0 1 1 ∷ edge 1 0 0 ∷ edge 1 1 2 ∷ edge 2 0 1 ∷ [] }

words_of-three_levels : belong three_levels ([] ∷ (0 ∷ []) ∷ (1 ∷ []) ∷ (0 ∷ 0 ∷ []) ∷ (1 ∷ 1 ∷ []) ∷ (1 ∷ 1 ∷ 0 ∷ 1 ∷ []) ∷ (1 ∷ 0 ∷ 0 ∷ []) ∷ (1 ∷ 0 ∷ 0 ∷ 1 ∷ 1 ∷ []) ∷ (1 ∷ 1 ∷ 0 ∷ 0 ∷ []) ∷ (0 ∷ 1 ∷ 0 ∷ 0 ∷ []) ∷ (0 ∷ 0 ∷ 1 ∷ 1 ∷ 0 ∷ []) ∷ []) ≡ replicate 11 true
words_of-three_levels = refl

no_words_of-three_levels : belong three_levels ((0 ∷ 0 ∷ 0 ∷ []) ∷ (1 ∷ 1 ∷ 1 ∷ []) ∷ (1 ∷ 1 ∷ 0 ∷ 1 ∷ 1 ∷ []) ∷ (0 ∷ 0 ∷ 1 ∷ 0 ∷ 0 ∷ []) ∷ (0 ∷ 0 ∷ 2 ∷ []) ∷ []) ≡ replicate 5 false
no_words_of-three_levels = refl

words_of-all_parts : belong all_parts ([] ∷ (0 ∷ []) ∷ (0 ∷ 0 ∷ []) ∷ (0 ∷ 0 ∷ 0 ∷ []) ∷ []) ≡ replicate 4 true
words_of-all_parts = refl

no_words_of-all_parts : belong all_parts ((0 ∷ 0 ∷ 0 ∷ 0 ∷ []) ∷ (1 ∷ []) ∷ (0 ∷ 1 ∷ []) ∷ (1 ∷ 0 ∷ []) ∷ (1 ∷ 1 ∷ []) ∷ (0 ∷ 2 ∷ []) ∷ []) ≡ replicate 6 false
no_words_of-all_parts = refl

-- all parts, each of which refuses a word that the others allow
abbrev parts_that_matter : ConstraintData
parts_that_matter = record { alphabet = 2; d = 2; k = Some 3; forbid = (1 ∷ 0 ∷ 0 ∷ 0 ∷ 1 ∷ 0 ∷ 0 ∷ 0 ∷ 1 ∷ []) ∷ []; states = 2; edges = edge 0 0 1 ∷ edge 0 1 1 ∷ edge 1 0 0 ∷ [] }

words_of-parts_that_matter : belong parts_that_matter ([] ∷ (1 ∷ []) ∷ (1 ∷ 0 ∷ 0 ∷ 0 ∷ 1 ∷ []) ∷ (0 ∷ 1 ∷ 0 ∷ 0 ∷ 0 ∷ 1 ∷ 0 ∷ []) ∷ (0 ∷ 0 ∷ 0 ∷ []) ∷ (1 ∷ 0 ∷ 0 ∷ 0 ∷ 1 ∷ 0 ∷ 0 ∷ 0 ∷ []) ∷ []) ≡ replicate 6 true
words_of-parts_that_matter = refl

no_words_of-parts_that_matter : belong parts_that_matter ((1 ∷ 0 ∷ 1 ∷ []) ∷ (0 ∷ 0 ∷ 0 ∷ 0 ∷ []) ∷ (1 ∷ 0 ∷ 0 ∷ 1 ∷ []) ∷ (1 ∷ 0 ∷ 0 ∷ 0 ∷ 1 ∷ 0 ∷ 0 ∷ 0 ∷ 1 ∷ []) ∷ (0 ∷ 1 ∷ 0 ∷ 0 ∷ 0 ∷ 1 ∷ 0 ∷ 0 ∷ 0 ∷ 1 ∷ 0 ∷ []) ∷ (1 ∷ 0 ∷ 0 ∷ 0 ∷ 3 ∷ []) ∷ []) ≡ replicate 6 false
no_words_of-parts_that_matter = refl
