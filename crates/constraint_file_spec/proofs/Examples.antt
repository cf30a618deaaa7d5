-- The definition on small files.
use Rattle.std.proofs.Common.{◌≡◌, ℕ, pos, List, [], ◌∷◌, map, refl, codes, Some, None, Ok, Err}
use Rattle.std.specs.Str.{is_utf8, chars}
use Rattle.toml.proofs.OnLiterals.{toml_on_literals}
use Rattle.constraint_file_spec.specs.declared.file.Key.TheVariants.{D, Edges}
use Rattle.constraint_file_spec.specs.declared.fault.ConstraintFault.TheVariants.{NotToml, UnknownKey, WrongType, OutOfRange, DAboveK, BadWord, BadEdge}
use Rattle.constraint_file_spec.specs.ConstraintFile.{file_parts, numbered}
use Rattle.constraint_file_spec.specs.Refusals.{state_names}
use Rattle.constraint_file_spec.specs.declared.file.ListedEdge.{ListedEdge}

empty : file_parts [] ≡ Ok (record { alphabet = None; d = None; k = None; forbid = []; edges = [] })
unfolding toml_on_literals is_utf8 chars
empty = refl

d_above : file_parts (codes "d = 3\nk = 2\n") ≡ Err DAboveK
unfolding toml_on_literals is_utf8 chars
d_above = refl

unknown : file_parts (codes "d = 3\nk = 2\nx = 1\n") ≡ Err (UnknownKey (codes "x"))
unfolding toml_on_literals is_utf8 chars
unknown = refl

wrong_type : file_parts (codes "d = \"3\"\n") ≡ Err (WrongType D)
unfolding toml_on_literals is_utf8 chars
wrong_type = refl

out : file_parts (codes "d = 101\n") ≡ Err (OutOfRange D)
unfolding toml_on_literals is_utf8 chars
out = refl

word : file_parts (codes "forbid = [\"0\", \"\"]\n") ≡ Err (BadWord 1)
unfolding toml_on_literals is_utf8 chars
word = refl

no_toml : file_parts (codes "=\n") ≡ Err NotToml
unfolding toml_on_literals is_utf8 chars
no_toml = refl

abbrev all_five : List ℕ
all_five = codes "alphabet = 2\nd = 0\nk = 3\nforbid = [\"11\"]\nedge = [{ from = \"A\", label = \"0\", to = \"A\" }]\n"

all : file_parts all_five ≡ Ok (record { alphabet = Some (pos 2); d = Some (pos 0); k = Some (pos 3); forbid = codes "11" ∷ []; edges = record { from = codes "A"; label = codes "0"; to = codes "A" } ∷ [] })
unfolding toml_on_literals is_utf8 chars
all = refl

label : file_parts (codes "[[edge]]\nfrom = \"A\"\nto = \"B\"\nlabel = \"2\"\n") ≡ Err (BadEdge 0)
unfolding toml_on_literals is_utf8 chars
label = refl

further : file_parts (codes "[[edge]]\nfrom = \"A\"\nto = \"B\"\nlabel = \"1\"\nx = \"\"\n") ≡ Err (WrongType Edges)
unfolding toml_on_literals is_utf8 chars
further = refl

-- the names of states in order of first mention, from before to
abbrev edge : ℕ → ℕ → ListedEdge
edge from to = record { from = from ∷ []; label = 49 ∷ []; to = to ∷ [] }

names : state_names (edge 66 65 ∷ edge 65 67 ∷ edge 66 66 ∷ []) ≡ (66 ∷ []) ∷ (65 ∷ []) ∷ (67 ∷ []) ∷ []
names = refl

numbers : map (numbered ((66 ∷ []) ∷ (65 ∷ []) ∷ [])) (edge 66 65 ∷ edge 65 65 ∷ []) ≡ record { from = 0; label = 1; to = 1 } ∷ record { from = 1; label = 1; to = 1 } ∷ []
numbers = refl
