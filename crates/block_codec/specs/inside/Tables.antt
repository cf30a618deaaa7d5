-- Tables of what a code does in each state with each item of data: a byte, or a data word.
use Rattle.std.specs.Prelude.{◌≡◌, ℕ, ◌+◌, ◌*◌, ◌^◌, ◌<◌, ◌≤◌, List, [], ◌∷◌, length, take, slice_index, slice_index_or}
use Rattle.code_spec.specs.Code.{CodeData, IsCode, IsState}
use Rattle.code_spec.specs.Output.{state_after}
use Rattle.code_spec.specs.PlainText.{word_count, file_words}
use Rattle.block_codec.specs.declared.table.Table.{Table}
use Rattle.block_codec.specs.inside.Digits.{digits_from}

-- the data words of a byte, where words fill it
unfoldable pub byte_words : ℕ → ℕ → List ℕ
byte_words p byte = file_words p (byte ∷ [])

-- a data word alone
abbrev pub one_word : ℕ → List ℕ
one_word word = word ∷ []

-- A lane begins with the digits of data words from a state on, and next is the place of the first of so many
-- entries of the state that they lead to.
pub record IsEntry (c : CodeData) (words : List ℕ) (size state : ℕ) (lane : List ℕ) (next : ℕ) : Type 0 where
  pub digits : take (c.q * length words) lane ≡ digits_from c state words
  pub leads : next ≡ size * state_after c.rows state words
  pub inside : IsState c (state_after c.rows state words)

-- an entry for each state of a code and each item, those of one state behind those of the state before it
pub record IsTable (c : CodeData) (words_of : ℕ → List ℕ) (size : ℕ) (lanes : List (List ℕ)) (next : List ℕ) : Type 0 where
  pub code : IsCode c
  pub lanes_len : length lanes ≡ size * length c.rows
  pub next_len : length next ≡ size * length c.rows
  pub entry : (state item : ℕ) → IsState c state → item < size
      → IsEntry c (words_of item) size state (slice_index_or lanes (size * state + item) []) (slice_index next (size * state + item))

-- words fill a byte, and its digits fit into a lane of 16
pub record HasShortBytes (c : CodeData) : Type 0 where
  pub fills : 8 ≡ c.p * word_count c.p 8
  pub short : c.q * word_count c.p 8 ≤ 16

-- the table of a code's bytes
pub record IsByteTable (c : CodeData) (t : Table 16) : Type 0 where
  pub bytes : HasShortBytes c
  pub table : IsTable c (byte_words c.p) 256 t.lanes.items t.next.items

-- the table of a code's data words
abbrev pub IsWordTable : CodeData → Table 32 → Type 0
IsWordTable c t = IsTable c one_word (2 ^ c.p) t.lanes.items t.next.items
