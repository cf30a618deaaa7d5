-- What a command prints.
use Rattle.std.specs.Prelude.{◌≡◌, ℕ, ◌⊎◌, List, ◌++◌, take, Option, option_map, Result, Ok, Err}
use Rattle.shelf_io.specs.Faults.{Counted}
use Rattle.command_steps.specs.declared.status.Status.{Status}
use Rattle.command_steps.specs.StatusLine.{line_of_status, TakesMemory}

-- a sink, as far as contracts see it: its text, where it tells it, and its count of faults
pub record Said : Type 0 where
  pub text : Option (List ℕ)
  pub faults : ℕ

abbrev pub said : {K : Type 0} → (K → Option (List ℕ)) → (K → ℕ) → K → Said
said text faults sink = record { text = text sink; faults = faults sink }

-- all of the bytes were printed
pub record Says (bytes : List ℕ) (old new : Said) : Type 0 where
  pub text : new.text ≡ option_map (λ text. text ++ bytes) old.text
  pub count : new.faults ≡ old.faults

-- a front of the bytes was printed, and then a fault counted
pub record SaysFront (bytes : List ℕ) (old new : Said) : Type 0 where
  pub many : ℕ
  pub text : new.text ≡ option_map (λ text. text ++ take many bytes) old.text
  pub counted : Counted old.faults new.faults

abbrev pub IsPrinted : {E : Type 0} → List ℕ → Said → Said → Result (Unit {0}) E → Type 0
IsPrinted bytes old new (Ok done) = Says bytes old new
IsPrinted bytes old new (Err error) = SaysFront bytes old new

-- the line of a status: the whole line, or after a fault a front; or nothing, where memory is wanted for what the
-- line carries
abbrev pub SaysLine : Status → Said → Said → Type 0
SaysLine s old new = Says (line_of_status s) old new ⊎ (SaysFront (line_of_status s) old new ⊎ (TakesMemory s × (new ≡ old)))
