-- The grammar on a code that is known, no two 0s in a row, three symbols for two bits; and on a constraint with
-- forbidden words and a graph.
use Rattle.std.proofs.Common.{◌≡◌, [], ◌∷◌, length, refl}
use Rattle.std.specs.Prelude.{None, codes}
use Rattle.std.specs.Fmt as fmt
use Rattle.constraint_spec.specs.Constraint.{ConstraintData}
use Rattle.code_spec.proofs.Examples.{no_two_zeros}
use Rattle.code_text_spec.specs.CodeText.{constraint_lines, code_lines, code_text}

-- its file, line by line
lines-no_two_zeros : code_lines no_two_zeros ≡ codes "modcode 1" ∷ codes "alphabet 2" ∷ codes "d 0" ∷ codes "k 1" ∷ codes "forbid 0" ∷ codes "graph 0 0" ∷ codes "rate 2 3" ∷ codes "window 1 1" ∷ codes "states 3" ∷ codes "0 0 010 1" ∷ codes "0 1 110 1" ∷ codes "0 2 011 0" ∷ codes "0 3 011 2" ∷ codes "1 0 111 0" ∷ codes "1 1 110 1" ∷ codes "1 2 101 0" ∷ codes "1 3 101 2" ∷ codes "2 0 101 0" ∷ codes "2 1 101 2" ∷ codes "2 2 111 0" ∷ codes "2 3 111 2" ∷ []
unfolding fmt.digits
lines-no_two_zeros = refl

-- the file is 197 bytes
length-no_two_zeros : length (code_text no_two_zeros) ≡ 197
unfolding fmt.digits
length-no_two_zeros = refl

-- words of two and of three symbols, an edge from each of two states, and no limit to a run of 0s
abbrev each_part : ConstraintData
each_part = record {
  alphabet = 2;
  d = 1;
  k = None;
  forbid = (1 ∷ 1 ∷ []) ∷ (0 ∷ 1 ∷ 0 ∷ []) ∷ [];
  states = 12;
  edges = record { from = 0; label = 1; to = 11 } ∷ record { from = 11; label = 0; to = 0 } ∷ [];
}

lines-each_part : constraint_lines each_part ≡ codes "alphabet 2" ∷ codes "d 1" ∷ codes "k -" ∷ codes "forbid 2" ∷ codes "11" ∷ codes "010" ∷ codes "graph 12 2" ∷ codes "0 1 11" ∷ codes "11 0 0" ∷ []
unfolding fmt.digits
lines-each_part = refl
