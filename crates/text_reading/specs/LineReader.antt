-- Reading lines from the front of a text: values and the bytes behind them, or the number of the line that breaks its rule.
use Rattle.std.specs.Prelude.{◌≡◌, ℕ, zero, suc, ◌+◌, List, [], ◌∷◌, ◌++◌, Option, Result, Ok, Err}
use Rattle.std.specs.Prelude.{ok_or}
use Rattle.text_reading.specs.Reading.{after_text}
use Rattle.text_reading.specs.Lines.{text_of, Leads, IsFirstWrong}

infixl 10 ◌>>=◌
abbrev pub ◌>>=◌ : {A B : Type 0} → Result A ℕ → (A → Result B ℕ) → Result B ℕ
(Ok x) >>= f = f x
(Err n) >>= f = Err n

-- reads lines, the first of which has this number
abbrev pub LineReader : Type 0 → Type 0
LineReader A = ℕ → List ℕ → Result (A × List ℕ) ℕ

-- one line
unfoldable pub one_line : {A : Type 0} → (List ℕ → Option (A × List ℕ)) → LineReader A
one_line read first bytes = ok_or (read bytes) first

-- a line that is always the same, and lines behind it
unfoldable pub below_line : {A : Type 0} → List ℕ → LineReader A → LineReader A
below_line line read first bytes = do
  rest ← ok_or (after_text (line ++ 10 ∷ []) bytes) first
  read (first + 1) rest

-- so many lines, and others behind them that may depend on what they gave
unfoldable pub both_lines : {A B : Type 0} → LineReader A → ℕ → (A → LineReader B) → LineReader (A × B)
both_lines front size back first bytes = do
  x ← front first bytes
  y ← back x.0 (first + size) x.1
  Ok ((x.0, y.0), y.1)

-- so many parts, each of so many lines, read by what came before them
unfoldable pub parts_from : {S A : Type 0} → (S → LineReader A) → (S → A → S) → ℕ → ℕ → S → LineReader (List A)
parts_from read after size zero s first bytes = Ok ([], bytes)
parts_from read after size (suc count) s first bytes = do
  x ← read s first bytes
  others ← parts_from read after size count (after s x.0) (first + size) x.1
  Ok (x.0 ∷ others.0, others.1)

-- The reader reads exactly the lines of the values that Is holds of, which lead from one place of the text to
-- another, and answers the number of the first wrong line where they don't stand in front.
pub record ReadsLines {E A : Type 0} (Keeps : E → List ℕ → E → Type 0) (IsEnd : E → Type 0) (read : LineReader A)
    (lines : A → List (List ℕ)) (Is : A → Type 0) (from : E) (to : A → E) : Type 0 where
  pub again : (first : ℕ) (value : A) (rest : List ℕ) → Is value → read first (text_of (lines value) ++ rest) ≡ Ok (value, rest)
  pub takes : (first : ℕ) (bytes : List ℕ) (value : A) (rest : List ℕ) → read first bytes ≡ Ok (value, rest)
      → (bytes ≡ text_of (lines value) ++ rest) × Is value
  pub leads : (value : A) → Is value → Leads Keeps from (lines value) (to value)
  pub wrong : (first : ℕ) (bytes : List ℕ) (n : ℕ) → read first bytes ≡ Err n → IsFirstWrong Keeps IsEnd from first bytes n

-- the lines of parts, each by what came before it
abbrev pub lines_along : {S A : Type 0} → (S → A → List (List ℕ)) → (S → A → S) → S → List A → List (List ℕ)
lines_along lines after s [] = []
lines_along lines after s (x ∷ xs) = lines s x ++ lines_along lines after (after s x) xs

-- P holds of each part, by what came before it
abbrev pub HoldsAlong : {S A : Type 0} → (S → A → Type 0) → (S → A → S) → S → List A → Type 0
HoldsAlong P after s [] = Unit {0}
HoldsAlong P after s (x ∷ xs) = P s x × HoldsAlong P after (after s x) xs

-- what stands before the lines behind the parts
abbrev pub after_all : {S A : Type 0} → (S → A → S) → S → List A → S
after_all after s [] = s
after_all after s (x ∷ xs) = after_all after (after s x) xs
