-- What a text gives under a checked code is one, and `decode` gives it.
use Rattle.std.proofs.Common.{◌≡◌, ℕ, List, Option, Result, Ok, Err, refl, sym, ap, subst}
use Rattle.shelf_io.specs.Shelf.{Files}
use Rattle.code_spec.specs.declared.fault.EndFault.{EndFault}
use Rattle.code_spec.specs.Code.{CodeData}
use Rattle.code_spec.specs.Checked.{IsCheckedCode}
use Rattle.code_spec.specs.PlainReading.{IsPlainFront, ReadsText, reads}
use Rattle.code_spec.proofs.ReadingLaws.{reading_one}
use Rattle.command_steps.specs.declared.status.Status.{Status}
use Rattle.command_steps.specs.declared.status.Status.TheVariants.{ChannelRefused, NoMemory}
use Rattle.steps.specs.Step.{goes_on, understood}
use Rattle.command_steps.specs.Step.{InputAt, IsSingle}
use Rattle.command_steps.specs.Promise.{Seen, Follows, gave, memory, Decides}
use Rattle.steps.proofs.StepLaws.{reads_is_single, reads_value, reads_fault}
use Rattle.command_steps.proofs.StepLaws.{channel_refused_is_alone, follow_on, follow_stop, alone_last}
use Rattle.block_codec.specs.TextDecoding.{EndsText, ended, refused_at_end}
use Rattle.code_commands.specs.CheckedCodes.{CheckedAt}
use Rattle.code_commands.specs.Limits.{text_limit}
use Rattle.code_commands.specs.Decode.{channel_fault, FileAt, FileOf}
use Rattle.command_steps.specs.Pieces.{ReadsPiece}

abbrev value_of : List ℕ → Result (List ℕ) EndFault → List ℕ
value_of other (Ok file) = file
value_of other (Err fault) = other

abbrev fault_of : EndFault → Result (List ℕ) EndFault → EndFault
fault_of other (Ok file) = other
fault_of other (Err fault) = fault

value_isnt_fault : (file : List ℕ) (fault : EndFault) → Ok file ≡ Err fault → ⊥
value_isnt_fault file fault same = absurd cc

pub file_is_single : (c : CodeData) (text : List ℕ) → IsCheckedCode c → IsSingle (FileOf c text)
file_is_single c text checked =
    λ files. reads_is_single _ (λ file. ReadsText c text (Ok file)) (λ fault. ReadsText c text (Err fault)) (λ fault. ChannelRefused (channel_fault fault))
    (λ a b here there. ap (λ (r : Result (List ℕ) EndFault). value_of a r) (reading_one c text (Ok a) (Ok b) checked here there))
    (λ a b here there. ap (λ (r : Result (List ℕ) EndFault). fault_of a r) (reading_one c text (Err a) (Err b) checked here there))
    (λ a b here there. value_isnt_fault a b (reading_one c text (Ok a) (Err b) checked here there))

-- a checked code is one
pub checked_is_checked : (name : List ℕ) (files : Option Files) (c : CodeData) → CheckedAt name files (Ok c) → IsCheckedCode c
unfolding CheckedAt
checked_is_checked name files c (goes_on d y at (understood e right)) = subst (λ (k : CodeData). IsCheckedCode k) (sym right.0) right.1

-- ---- what the decoder answers

file_given : (c : CodeData) (text file bytes : List ℕ) → IsCheckedCode c → ReadsText c text (Ok file) → IsPlainFront c text bytes → ReadsText c text (Ok bytes)
file_given c text file bytes checked (reads clean count whole fits found is) front = reads clean count whole fits bytes front

-- the whole text has come, and its end is well
pub text_is_read : (c : CodeData) (text bytes : List ℕ) (count : ℕ) {X : Type 0} (view : X → List ℕ) (x : X) → view x ≡ bytes → IsCheckedCode c → IsPlainFront c text bytes → EndsText c text (Ok count)
    → Decides view (FileOf c text) (Ok x)
text_is_read c text bytes count view x seen checked front (ended file is n counted) =
    reads_value _ _ (λ file. ReadsText c text (Ok file)) (λ fault. ReadsText c text (Err fault)) (λ fault. ChannelRefused (channel_fault fault)) view x
    (subst (λ (list : List ℕ). ReadsText c text (Ok list)) (sym seen) (file_given c text file bytes checked is front))

pub text_is_refused : (c : CodeData) (text : List ℕ) (fault : EndFault) (s : Status) {X : Type 0} (view : X → List ℕ) → s ≡ ChannelRefused (channel_fault fault) → ReadsText c text (Err fault)
    → Decides view (FileOf c text) (Err s)
text_is_refused c text fault s view told is =
    subst (λ (t : Status). Decides view (FileOf c text) (Err t)) (sym told)
    (reads_fault _ _ (λ file. ReadsText c text (Ok file)) (λ f. ReadsText c text (Err f)) (λ f. ChannelRefused (channel_fault f)) view fault is (channel_refused_is_alone (channel_fault fault)))

pub end_is_refused : (c : CodeData) (text : List ℕ) (fault : EndFault) (s : Status) {X : Type 0} (view : X → List ℕ) → s ≡ ChannelRefused (channel_fault fault) → EndsText c text (Err fault)
    → Decides view (FileOf c text) (Err s)
end_is_refused c text fault s view told (refused_at_end f is) = text_is_refused c text fault s view told is

-- ---- the file of a text file

module _ {X : Type 0} (view : X → List ℕ) (c : CodeData) (name : List ℕ) where
  -- the whole text was read, and gives what its end gives
  pub read_to_end : (text : List ℕ) (old new : Seen) (result : Result X Status) → new ≡ old → InputAt name 2 text_limit new.files (Ok text)
      → Decides view (FileOf c text) result → Follows view (FileAt c name) old new result
  read_to_end text old new result same at decides =
      subst (λ (seen : Seen). Follows view (FileAt c name) seen new result) same
      (follow_on (λ (bytes : List ℕ). bytes) view (InputAt name 2 text_limit) (FileOf c) new new new text result (gave text at refl)
      (alone_last view (FileOf c text) new result decides))

  -- a refusal or a fault of a read ends the reading
  pub read_stops : (text room : List ℕ) (old middle new : Seen) (result : Result X Status) (s : Status) → result ≡ Err s → middle ≡ old
      → ReadsPiece name 2 text_limit text room middle new (Err s) → Follows view (FileAt c name) old new result
  read_stops text room old middle new result s is same stop =
      subst (λ (r : Result X Status). Follows view (FileAt c name) old new r) (sym is)
      (subst (λ (seen : Seen). Follows view (FileAt c name) seen new (Err s)) same
      (follow_stop (λ (bytes : List ℕ). bytes) view (InputAt name 2 text_limit) (FileOf c) middle new s stop))

  -- want of memory ends the reading
  pub read_starves : (old new : Seen) (result : Result X Status) → result ≡ Err NoMemory → new ≡ old → Follows view (FileAt c name) old new result
  read_starves old new result is same = subst (λ (r : Result X Status). Follows view (FileAt c name) old new r) (sym is) (memory same)
