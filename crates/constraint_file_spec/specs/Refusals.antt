-- What the table of a constraint file is refused for, its types aside: each refusal, where it holds.
use Rattle.std.specs.Prelude.{ℕ, ◌==◌, ◌&&◌, ◌||◌, ℤ, pos, int_le, int_lt, nat_le, nat_lt, Bool, not, List, [], ◌∷◌, ◌++◌, length, fold, position, find, flat_map, Option, Some, None, option_map, unwrap_or, bytes_eq, if◌then◌else◌}
use Rattle.std.specs.List.{list_all, list_any}
use Rattle.text_reading.specs.Reading.{is_symbol_digit}
use Rattle.toml.specs.Data.{Members}
use Rattle.constraint_file_spec.specs.declared.file.Key.{Key}
use Rattle.constraint_file_spec.specs.declared.file.Key.TheVariants.{Forbid, Edges}
use Rattle.constraint_file_spec.specs.declared.file.ListedEdge.{ListedEdge}
use Rattle.constraint_file_spec.specs.declared.fault.ConstraintFault.{ConstraintFault}
use Rattle.constraint_file_spec.specs.declared.fault.ConstraintFault.TheVariants.{UnknownKey, OutOfRange, DAboveK, TooMany, BadWord, BadEdge}
use Rattle.constraint_file_spec.specs.Keys.{all_keys, key_name, least, most, most_names, most_symbols}
use Rattle.constraint_file_spec.specs.Values.{keys_of}

abbrev pub is_key : List ℕ → Bool
is_key name = list_any (λ key. bytes_eq (key_name key) name) all_keys

-- a key that is none of the five: the first in the order of the table, which is that of the keys' bytes
abbrev pub unknown_key : Members → Option ConstraintFault
unknown_key table = option_map (λ name. UnknownKey name) (find (λ name. not (is_key name)) (keys_of table))

-- a number that is given is below the least or above the greatest
abbrev pub out_of_range : Key → Option ℤ → Option ConstraintFault
out_of_range key None = None
out_of_range key (Some z) =
    if int_le (pos (least key)) z && int_le z (pos (most key)) then None else Some (OutOfRange key)

-- d, which is 0 where it isn't given, is greater than a k that is given
abbrev pub d_above_k : Option ℤ → Option ℤ → Option ConstraintFault
d_above_k d None = None
d_above_k d (Some k) = if int_lt k (unwrap_or d (pos 0)) then Some DAboveK else None

-- the names that edges mention, each edge's from before its to
abbrev pub mentions : List ListedEdge → List (List ℕ)
mentions edges = flat_map (λ e. e.from ∷ e.to ∷ []) edges

-- the names without repeats, in order of first mention
abbrev pub first_mentions : List (List ℕ) → List (List ℕ)
first_mentions names =
    fold (λ known name. if list_any (bytes_eq name) known then known else known ++ name ∷ []) [] names

-- the states of the edges by name
abbrev pub state_names : List ListedEdge → List (List ℕ)
state_names edges = first_mentions (mentions edges)

-- words are counted with their repeats
abbrev pub too_many_words : List (List ℕ) → Option ConstraintFault
too_many_words words = if nat_lt (most Forbid) (length words) then Some (TooMany Forbid) else None

-- edges are counted with their repeats, states once each
abbrev pub too_many_edges : List ListedEdge → Option ConstraintFault
too_many_edges edges =
    if nat_lt (most Edges) (length edges) || nat_lt most_names (length (state_names edges)) then Some (TooMany Edges) else None

-- the text is 1 to 32 digits of the symbols 0 and 1
abbrev pub is_word : List ℕ → Bool
is_word text = nat_le 1 (length text) && (nat_le (length text) most_symbols && list_all (is_symbol_digit 2) text)

-- the place of the first forbidden word that is no word
abbrev pub bad_word : List (List ℕ) → Option ConstraintFault
bad_word words = option_map (λ at. BadWord at) (position (λ text. not (is_word text)) words)

-- the text is the digit of one of them
abbrev pub is_label : List ℕ → Bool
is_label text = length text == 1 && list_all (is_symbol_digit 2) text

-- the place of the first edge with another label
abbrev pub bad_edge : List ListedEdge → Option ConstraintFault
bad_edge edges = option_map (λ at. BadEdge at) (position (λ e. not (is_label e.label)) edges)
