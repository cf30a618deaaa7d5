-- What the laws of constraint files say: the unknown key that is named, and the numbers of states.
use Rattle.std.specs.Prelude.{◌≡◌, ◌<◌, ◌⊎◌, ℕ, false, List, Contains, bytes_eq}
use Rattle.std.specs.List.{position_or_len}
use Rattle.std.specs.Ordering.{nat_cmp}
use Rattle.std.specs.declared.cmp.Ordering.TheVariants.{Less}
use Rattle.std.specs.Cmp.Lexicographic.{slice_cmp}
use Rattle.toml.specs.Data.{Members}
use Rattle.constraint_file_spec.specs.Values.{keys_of}
use Rattle.constraint_file_spec.specs.Refusals.{is_key}

-- u comes before v by their bytes
abbrev pub IsBytesBefore : List ℕ → List ℕ → Type 0
IsBytesBefore u v = slice_cmp nat_cmp u v ≡ Less

-- the least by its bytes of the table's keys that are none of the five
pub record IsLeastUnknown (table : Members) (name : List ℕ) : Type 0 where
  pub listed : Contains (keys_of table) name
  pub unknown : is_key name ≡ false
  pub least : (other : List ℕ) → Contains (keys_of table) other → is_key other ≡ false
      → (name ≡ other) ⊎ IsBytesBefore name other

-- the first mention of m stands before that of n
abbrev pub IsMentionedBefore : List (List ℕ) → List ℕ → List ℕ → Type 0
IsMentionedBefore mentions m n = position_or_len (bytes_eq m) mentions < position_or_len (bytes_eq n) mentions
