-- What a function read that is a row of `?`: the file of its first function, and then those of the others.
use Rattle.std.proofs.Common.{◌≡◌, List, [], ◌∷◌, Result, Ok, Err, refl, inl, inr}
use Rattle.shelf_io.specs.Reads.{Telling}
use Rattle.steps.specs.Decides.{gave_alone, refused_alone, memory_alone}
use Rattle.command_steps.specs.declared.status.Status.{Status}
use Rattle.command_steps.specs.declared.status.Status.TheVariants.{NoMemory}
use Rattle.command_steps.specs.Step.{Step}
use Rattle.command_steps.specs.Promise.{Decides}
use Rattle.command_steps.specs.Inputs.{Input, AreRead, none_read, one_read, Stops, between, inside, behind, ReadsInputs}

module _ {S : Type 0} (gives : Telling S) where
  -- the first function read one file, and the others the rest
  pub all_on : (input : Input) (inputs : List Input) (first mid last : S) → AreRead gives (input ∷ []) first mid → AreRead gives inputs mid last → AreRead gives (input ∷ inputs) first last
  all_on input inputs first mid last (one_read one none start end stop read (none_read there)) rest = one_read input inputs first mid last read rest

  -- one of the others stopped
  pub stops_on : (input : Input) (inputs : List Input) (first mid last : S) (s : Status) → AreRead gives (input ∷ []) first mid → Stops gives inputs mid last s → Stops gives (input ∷ inputs) first last s
  stops_on input inputs first mid last s (one_read one none start end stop read (none_read there)) rest = behind input inputs first mid last s read rest

  pub reads_on : {Y : Type 0} (input : Input) (inputs : List Input) (first mid last : S) (result : Result Y Status)
      → AreRead gives (input ∷ []) first mid → ReadsInputs gives inputs mid last result → ReadsInputs gives (input ∷ inputs) first last result
  reads_on input inputs first mid last (Ok y) one rest = all_on input inputs first mid last one rest
  reads_on input inputs first mid last (Err s) one rest = stops_on input inputs first mid last s one rest

  -- the first function stopped
  pub stops_first : (input : Input) (inputs : List Input) (first last : S) (s : Status) → Stops gives (input ∷ []) first last s → Stops gives (input ∷ inputs) first last s
  stops_first input inputs first last s (between one at t is) = between (input ∷ inputs) first s is
  stops_first input inputs first last s (inside one none at end t stop) = inside input inputs first last s stop
  stops_first input inputs first last s (behind one none at mid end t read (between others there u is)) = behind input inputs first mid last s read (between inputs mid s is)

  -- a function that sees no shelf
  pub stops_alone : {X A : Type 0} (view : X → A) (step : Step A) (inputs : List Input) (first : S) (s : Status) → Decides view step (Err s) → Stops gives inputs first first s
  stops_alone view step inputs first s (refused_alone t at is) = between inputs first s (inl is)
  stops_alone view step inputs first s memory_alone = between inputs first NoMemory (inr refl)

  pub reads_last : {X A : Type 0} (view : X → A) (step : Step A) (first : S) (result : Result X Status) → Decides view step result → ReadsInputs gives [] first first result
  reads_last view step first result (gave_alone x at) = none_read first
  reads_last view step first result (refused_alone s at is) = between [] first s (inl is)
  reads_last view step first result memory_alone = between [] first NoMemory (inr refl)

  pub stops_for_memory : (inputs : List Input) (first : S) (s : Status) → s ≡ NoMemory → Stops gives inputs first first s
  stops_for_memory inputs first s is = between inputs first s (inr is)

-- what a row of `?` needs
pub ruleset reads = (all_on, stops_on, reads_on, stops_first, stops_alone, reads_last, stops_for_memory)
