-- The five keys of a constraint file: what each is called, the type of its value, and how large the value may be.
use Rattle.std.specs.Prelude.{ℕ, List, [], ◌∷◌, codes}
use Rattle.constraint_file_spec.specs.declared.file.Key.{Key}
use Rattle.constraint_file_spec.specs.declared.file.Key.TheVariants.{Alphabet, D, K, Forbid, Edges}

pub data ValueType : Type 0 where
  number : ValueType
  words : ValueType
  edges : ValueType

-- a number has to be from the least to the most; an array has at most that many items
pub record KeyRule : Type 0 where
  pub name : List ℕ
  pub type : ValueType
  pub least : ℕ
  pub most : ℕ

abbrev pub key_rule : Key → KeyRule
key_rule Alphabet = record { name = codes "alphabet"; type = number; least = 2; most = 2 }
key_rule D = record { name = codes "d"; type = number; least = 0; most = 100 }
key_rule K = record { name = codes "k"; type = number; least = 0; most = 100 }
key_rule Forbid = record { name = codes "forbid"; type = words; least = 0; most = 128 }
key_rule Edges = record { name = codes "edge"; type = edges; least = 0; most = 2048 }

-- all of them, in the order in which they are looked at
abbrev pub all_keys : List Key
all_keys = Alphabet ∷ D ∷ K ∷ Forbid ∷ Edges ∷ []

abbrev pub key_name : Key → List ℕ
key_name key = (key_rule key).name

abbrev pub least : Key → ℕ
least key = (key_rule key).least

abbrev pub most : Key → ℕ
most key = (key_rule key).most

-- how many names of states the edges may have
abbrev pub most_names : ℕ
most_names = 256

-- how many symbols a forbidden word may have
abbrev pub most_symbols : ℕ
most_symbols = 32
