-- Reading text from its front: a reader gives a value and the bytes behind it, or nothing.
use Rattle.std.specs.Prelude.{◌≡◌, ℕ, ◌-◌, ◌==◌, ◌&&◌, ◌||◌, Bool, nat_lt, nat_le, List, [], ◌∷◌, length, take, drop, map, slice_index, Option, Some, None, if◌then◌else◌, nat_eq}
use Rattle.std.specs.List.{prefix_len, list_all, starts_with}
use Rattle.std.specs.Str.{all_ascii_digits}
use Rattle.std.specs.Char.{is_ascii_digit}
use Rattle.std.specs.Str.Parse.{digits_value}
use Rattle.symbol_base.specs.Block.{number_of}

infixl 10 ◌>>=◌
abbrev pub ◌>>=◌ : {A B : Type 0} → Option A → (A → Option B) → Option B
(Some x) >>= f = f x
None >>= f = None

-- what a function returned, seen by view, is what reading gives
abbrev pub Gives : {X Y : Type 0} → (X → Y) → Option X → Option Y → Type 0
Gives view (Some x) read = read ≡ Some (view x)
Gives view None read = read ≡ None

-- what stands behind the text, where it is at the front
unfoldable pub after_text : List ℕ → List ℕ → Option (List ℕ)
after_text text bytes = if starts_with nat_eq bytes text then Some (drop (length text) bytes) else None

-- 1 to 18 digits, with no leading 0 but in the text 0 itself
abbrev pub is_decimal : List ℕ → Bool
is_decimal text =
    all_ascii_digits text && nat_lt 0 (length text) && nat_le (length text) 18 && (nat_lt 48 (slice_index text 0) || (length text == 1))

-- the number that the text spells
unfoldable pub number_in : List ℕ → Option ℕ
number_in text = if is_decimal text then Some (digits_value 10 text) else None

-- the number that the digits at the front spell, all of them
unfoldable pub number_at : List ℕ → Option (ℕ × List ℕ)
number_at bytes = do
  n ← number_in (take (prefix_len is_ascii_digit bytes) bytes)
  Some (n, drop (prefix_len is_ascii_digit bytes) bytes)

-- a number from least to most, and the byte that ends it
unfoldable pub field_at : ℕ → ℕ → ℕ → List ℕ → Option (ℕ × List ℕ)
field_at end least most bytes = do
  n ← number_at bytes
  rest ← after_text (end ∷ []) n.1
  if nat_le least n.0 && nat_le n.0 most then Some (n.0, rest) else None

-- the byte is the digit of a symbol
abbrev pub is_symbol_digit : ℕ → ℕ → Bool
is_symbol_digit alphabet byte = nat_le 48 byte && nat_lt (byte - 48) alphabet

-- q digits of symbols, as the number of the word
unfoldable pub block_at : ℕ → ℕ → List ℕ → Option (ℕ × List ℕ)
block_at alphabet q bytes =
    if nat_le q (length bytes) && list_all (is_symbol_digit alphabet) (take q bytes)
    then Some (number_of alphabet (map (λ byte. byte - 48) (take q bytes)), drop q bytes)
    else None

-- what the reader gives behind a text
unfoldable pub behind : {A : Type 0} → List ℕ → (List ℕ → Option (A × List ℕ)) → List ℕ → Option (A × List ℕ)
behind text read bytes = after_text text bytes >>= read

-- one reader, and behind it another that may depend on what the first gave
unfoldable pub both : {A B : Type 0} → (List ℕ → Option (A × List ℕ)) → (A → List ℕ → Option (B × List ℕ)) → List ℕ → Option ((A × B) × List ℕ)
both first second bytes = do
  x ← first bytes
  y ← second x.0 x.1
  Some ((x.0, y.0), y.1)
