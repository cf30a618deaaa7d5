-- The text of a sink, and what the answer of a put says of it.
use Rattle.std.specs.Prelude.{◌≡◌, ℕ, List, ◌++◌, take, Option, option_map, Result, Ok, Err}

-- the text after a put, where it is told: the first k bytes are behind it, and after an error none
abbrev pub IsTaken : {E : Type 0} → List ℕ → Option (List ℕ) → Option (List ℕ) → Result ℕ E → Type 0
IsTaken bytes old new (Ok k) = new ≡ option_map (λ text. text ++ take k bytes) old
IsTaken bytes old new (Err error) = new ≡ old
