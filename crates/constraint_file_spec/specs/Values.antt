-- The types of the values in a constraint file, beyond integers: texts, and tables of three texts.
use Rattle.std.specs.Prelude.{ℕ, ◌||◌, Bool, List, [], ◌∷◌, Option, Some, None, option_and_then, is_some, codes, bytes_eq, if◌then◌else◌}
use Rattle.std.specs.List.{list_all}
use Rattle.toml.specs.Data.{Data, Items, no_items, item, Members, no_members, member, get_member, as_str, as_integer, as_array, as_table}
use Rattle.constraint_file_spec.specs.declared.file.ListedEdge.{ListedEdge}
use Rattle.constraint_file_spec.specs.Keys.{ValueType, number, words, edges}

infixl 10 ◌>>=◌
abbrev ◌>>=◌ : {A B : Type 0} → Option A → (A → Option B) → Option B
o >>= f = option_and_then f o

-- the keys of a table
abbrev pub keys_of : Members → List (List ℕ)
keys_of no_members = []
keys_of (member key value rest) = key ∷ keys_of rest

-- the texts of an array that has nothing else
abbrev pub texts_of : Items → Option (List (List ℕ))
texts_of no_items = Some []
texts_of (item value rest) = do
  text ← as_str value
  others ← texts_of rest
  Some (text ∷ others)

abbrev pub text_at : List ℕ → Members → Option (List ℕ)
text_at key table = get_member key table >>= as_str

-- a key that an edge has
abbrev pub is_edge_key : List ℕ → Bool
is_edge_key name = bytes_eq name (codes "from") || (bytes_eq name (codes "label") || bytes_eq name (codes "to"))

-- the edge of a table with the keys `from`, `label` and `to` and no other, whose values are texts
abbrev pub edge_of : Members → Option ListedEdge
edge_of table = do
  from ← text_at (codes "from") table
  label ← text_at (codes "label") table
  to ← text_at (codes "to") table
  if list_all is_edge_key (keys_of table) then Some (record { from = from; label = label; to = to }) else None

-- the edges of an array that has nothing else
abbrev pub edges_of : Items → Option (List ListedEdge)
edges_of no_items = Some []
edges_of (item value rest) = do
  table ← as_table value
  edge ← edge_of table
  others ← edges_of rest
  Some (edge ∷ others)

-- the value is of the type: an integer, an array of texts, an array of tables that are edges
abbrev pub has_type : ValueType → Data → Bool
has_type number value = is_some (as_integer value)
has_type words value = is_some (as_array value >>= texts_of)
has_type edges value = is_some (as_array value >>= edges_of)
