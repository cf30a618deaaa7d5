-- The reads of a file that is read piece by piece.
use Rattle.std.proofs.Common.{◌≡◌, ◌≢◌, ℕ, ◌+◌, ◌<◌, ◌≤◌, [], ◌∷◌, Result, Ok, Err, refl, sym, subst, arith, inl, inr}
use Rattle.shelf_io.specs.Reads.{Telling, HasRead, none, more}
use Rattle.steps.specs.Decides.{gave_alone, refused_alone, memory_alone}
use Rattle.command_steps.specs.declared.status.Status.{Status}
use Rattle.command_steps.specs.declared.status.Status.TheVariants.{NoMemory}
use Rattle.command_steps.specs.Step.{Step}
use Rattle.command_steps.specs.Promise.{Decides}
use Rattle.command_steps.specs.Inputs.{Input, IsReadToEnd, none_read, one_read, Stops, StopsIn, faulty, absent, beyond, starved, between, inside, behind, ReadsInputs}
use Rattle.command_steps.specs.Pieces.{TellsPiece, gave_bytes, gave_fault, gave_nothing, gave_too_much}

module _ {S : Type 0} (gives : Telling S) (input : Input) (first : S) where
  abbrev Come : ℕ → S → Type 0
  Come at shelf = HasRead gives input.name input.room first at shelf

  abbrev Tells : ℕ → S → S → Result ℕ Status → Type 0
  Tells at mid last result = TellsPiece gives input.name input.place input.limit at input.room mid last result

  -- nothing has come yet
  pub nothing_has_come : (at : ℕ) → at ≡ 0 → Come at first
  nothing_has_come at empty = subst (λ (n : ℕ). HasRead gives input.name input.room first n first) (sym empty) none

  -- a read that decided the status
  stop_of : (at : ℕ) (mid last : S) (s : Status) → at ≤ input.limit → Come at mid → Tells at mid last (Err s) → StopsIn gives input first last s
  stop_of at mid last s within run (gave_fault read) = faulty at (record { before = mid; run = run; read = read })
  stop_of at mid last s within run (gave_nothing read) = absent at (record { before = mid; run = run; read = read })
  stop_of at mid last s within run (gave_too_much n over read) = beyond (at + n) over (more at n mid last run (omega (arith, within, over)) read)

  pub piece_stops : (at room : ℕ) (mid last : S) (s : Status) → room ≡ input.room → at ≤ input.limit → Come at mid
      → TellsPiece gives input.name input.place input.limit at room mid last (Err s) → Stops gives (input ∷ []) first last s
  piece_stops at room mid last s asked within run told =
      inside input [] first last s (stop_of at mid last s within run (subst (λ (r : ℕ). TellsPiece gives input.name input.place input.limit at r mid last (Err s)) asked told))

  -- the read behind the last byte
  end_of : (at : ℕ) (mid last : S) → Come at mid → Tells at mid last (Ok 0) → IsReadToEnd gives input first last
  end_of at mid last run (gave_bytes zero read) = (at, record { before = mid; run = run; read = read })

  pub piece_ends : (at room n : ℕ) (mid last : S) → room ≡ input.room → n ≡ 0 → Come at mid
      → TellsPiece gives input.name input.place input.limit at room mid last (Ok n) → IsReadToEnd gives input first last
  piece_ends at room n mid last asked empty run told =
      end_of at mid last run (subst (λ (k : ℕ). Tells at mid last (Ok k)) empty (subst (λ (r : ℕ). TellsPiece gives input.name input.place input.limit at r mid last (Ok n)) asked told))

  -- one more piece
  piece_of : (at n : ℕ) (mid last : S) → 0 < n → Come at mid → Tells at mid last (Ok n) → Come (at + n) last
  piece_of at n mid last some run (gave_bytes count read) = more at n mid last run some read

  pub piece_goes_on : (at room n : ℕ) (mid last : S) → room ≡ input.room → n ≢ 0 → Come at mid
      → TellsPiece gives input.name input.place input.limit at room mid last (Ok n) → Come (at + n) last
  piece_goes_on at room n mid last asked some run told =
      piece_of at n mid last (omega arith) run (subst (λ (r : ℕ). TellsPiece gives input.name input.place input.limit at r mid last (Ok n)) asked told)

  pub more_has_come : (at room n size : ℕ) (mid last : S) → room ≡ input.room → n ≢ 0 → Come at mid
      → TellsPiece gives input.name input.place input.limit at room mid last (Ok n) → size ≡ at + n → Come size last
  more_has_come at room n size mid last asked some run told sum =
      subst (λ (k : ℕ). HasRead gives input.name input.room first k last) (sym sum) (piece_goes_on at room n mid last asked some run told)

  -- what is made of the whole file
  pub end_decides : {X A : Type 0} (view : X → A) (step : Step A) (last : S) (result : Result X Status) → IsReadToEnd gives input first last → Decides view step result
      → ReadsInputs gives (input ∷ []) first last result
  end_decides view step last result end (gave_alone x at) = one_read input [] first last last end (none_read last)
  end_decides view step last result end (refused_alone s at is) = behind input [] first last last s end (between [] last s (inl is))
  end_decides view step last result end memory_alone = behind input [] first last last NoMemory end (between [] last NoMemory (inr refl))

  -- memory was wanted, before the first piece or behind one
  pub want_before : {X : Type 0} (result : Result X Status) → result ≡ Err NoMemory → ReadsInputs gives (input ∷ []) first first result
  want_before result is = subst (λ (r : Result _ Status). ReadsInputs gives (input ∷ []) first first r) (sym is) (between (input ∷ []) first NoMemory (inr refl))

  pub want_behind : {X : Type 0} (at : ℕ) (last : S) (result : Result X Status) → result ≡ Err NoMemory → Come at last → ReadsInputs gives (input ∷ []) first last result
  want_behind at last result is run = subst (λ (r : Result _ Status). ReadsInputs gives (input ∷ []) first last r) (sym is) (inside input [] first last NoMemory (starved at run))

  pub stop_told : {X : Type 0} (last : S) (s : Status) (result : Result X Status) → result ≡ Err s → Stops gives (input ∷ []) first last s → ReadsInputs gives (input ∷ []) first last result
  stop_told last s result is stop = subst (λ (r : Result _ Status). ReadsInputs gives (input ∷ []) first last r) (sym is) stop
