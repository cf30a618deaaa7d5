-- What the row of a command says of its end: proved once, for every single row.
use Rattle.std.proofs.Common.{◌≡◌, ℕ, List, take, Option, Some, None, Result, Ok, Err, refl, sym, ap, ◌∙◌, subst, inl, inr, arith}
use Rattle.std.specs.Prelude.{◌≢◌, ◌↔◌, ◌⊎◌, option_map, IfSome}
use Rattle.shelf_io.specs.Faults.{Counted, Rose}
use Rattle.shelf_io.specs.Shelf.{Files, with_file}
use Rattle.command_steps.specs.declared.status.Status.{Status}
use Rattle.command_steps.specs.declared.status.Status.TheVariants.{Done, Usage, ShelfFault, SinkFault, NoMemory}
use Rattle.shelf_io.specs.Reads.{Telling}
use Rattle.command_steps.specs.Inputs.{Input, AreRead, Stops, ReadsFirst, ReadsBefore}
use Rattle.command_steps.specs.Step.{Step, IsSingle}
use Rattle.command_steps.specs.Promise.{Seen, IsRefusal, Follows, gave, refused, fault, memory}
use Rattle.command_steps.specs.Answer.{Answer, with_output, IsKept, IsBroken, Delivers, delivered, lost, broken, Shelved, answered, stopped, failed, starved}
use Rattle.command_steps.specs.Printing.{Said}
use Rattle.command_steps.specs.Ends.{Ends, printed, unprinted, told, status_in, Allows, IsExact, IsAnswered, Completes, CountsShelf, CountsSink}

-- ---- from the functions to the end of a command

no_output : (name : List ℕ) (files : Option Files) → files ≡ option_map (with_output name None) files
no_output name None = refl
no_output name (Some f) = refl

pub output_none : (name : List ℕ) (old : Seen) → IsKept name None old old
output_none name old = record { written = no_output name old.files; count = refl }

pub output_kept : (name bytes : List ℕ) (old new : Seen) → new.files ≡ option_map (λ files. with_file files name bytes) old.files → new.faults ≡ old.faults → IsKept name (Some bytes) old new
output_kept name bytes old new written count = record { written = written; count = count }

pub output_broken : (name bytes : List ℕ) (old new : Seen) → (new.files ≡ old.files) ⊎ ((n : ℕ) × (new.files ≡ option_map (λ files. with_file files name (take n bytes)) old.files)) → Counted old.faults new.faults → IsBroken name (Some bytes) old new
output_broken name bytes old new front counted = record { front = front; counted = counted }

pub ruleset outputs = (output_none, output_kept, output_broken)

pub shelved_on : {X : Type 0} (view : X → Answer) (row : Step Answer) (name : List ℕ) (old middle new : Seen) (x : X) (result : Result (List ℕ) Status) → Follows view row old middle (Ok x) → Delivers (view x) name middle new result → Shelved row name old new result
shelved_on view row name old middle new x result (gave other at same) rest = answered (view x) at result (subst (λ (m : Seen). Delivers (view x) name m new result) same rest)

pub shelved_stop : {X : Type 0} (view : X → Answer) (row : Step Answer) (name : List ℕ) (old new : Seen) (status : Status) → Follows view row old new (Err status) → Shelved row name old new (Err status)
shelved_stop view row name old new status (refused s at is same) = stopped s at is same
shelved_stop view row name old new status (fault same counted) = failed same counted
shelved_stop view row name old new status (memory same) = starved same

-- ---- from the end of a command to what callers ask

-- the status of a result of the shelf's part
abbrev result_status : Result (List ℕ) Status → Status
result_status (Ok text) = Done
result_status (Err s) = s

-- the outcome of the row that a result of the shelf's part stands for, a fault and want of memory aside
delivers_status : (answer : Answer) (name : List ℕ) (old new : Seen) (result : Result (List ℕ) Status) → Delivers answer name old new result → result_status result ≢ ShelfFault → result_status result ≡ answer.status
delivers_status answer name old new result (delivered done kept text is) fine = sym done
delivers_status answer name old new result (lost refusal kept s is) fine = is
delivers_status answer name old new result (broken front) fine = absurd (fine refl)

-- ---- counts, and the statuses that no row gives

-- what is said of a result of the shelf's part
record IsSound (old new : Seen) (status : Status) : Type 0 where
  counts : CountsShelf old new status
  not_usage : status ≢ Usage
  not_sink_fault : status ≢ SinkFault

count_kept : (old new : Seen) → new ≡ old → new.faults ≡ old.faults
count_kept old new same = ap (λ (s : Seen). s.faults) same

sound_refusal : (old new : Seen) (s : Status) → IsRefusal s → new.faults ≡ old.faults → IsSound old new s
sound_refusal old new s refusal count = record { counts = (λ fault. absurd (refusal.not_shelf_fault fault), λ fine. count); not_usage = refusal.not_usage; not_sink_fault = refusal.not_sink_fault }

sound_done : (old new : Seen) → new.faults ≡ old.faults → IsSound old new Done
sound_done old new count = record { counts = (λ fault. absurd cc, λ fine. count); not_usage = λ e. absurd cc; not_sink_fault = λ e. absurd cc }

sound_fault : (old new : Seen) → Counted old.faults new.faults → IsSound old new ShelfFault
sound_fault old new counted = record { counts = (λ fault. counted, λ fine. absurd (fine refl)); not_usage = λ e. absurd cc; not_sink_fault = λ e. absurd cc }

sound_memory : (old new : Seen) → new.faults ≡ old.faults → IsSound old new NoMemory
sound_memory old new count = record { counts = (λ fault. absurd cc, λ fine. count); not_usage = λ e. absurd cc; not_sink_fault = λ e. absurd cc }

sound_delivery : (answer : Answer) (name : List ℕ) (old new : Seen) (result : Result (List ℕ) Status) → Delivers answer name old new result → IsSound old new (result_status result)
sound_delivery answer name old new result (delivered done kept text is) = sound_done old new kept.count
sound_delivery answer name old new result (lost refusal kept s is) = subst (λ (t : Status). IsSound old new t) (sym is) (sound_refusal old new answer.status refusal kept.count)
sound_delivery answer name old new result (broken front) = sound_fault old new front.counted

sound : (row : Step Answer) (name : List ℕ) (old new : Seen) (result : Result (List ℕ) Status) → Shelved row name old new result → IsSound old new (result_status result)
sound row name old new result (answered answer at same delivers) = sound_delivery answer name old new result delivers
sound row name old new result (stopped s at refusal same) = sound_refusal old new s refusal (count_kept old new same)
sound row name old new result (failed same counted) = sound_fault old new counted
sound row name old new result (starved same) = sound_memory old new (count_kept old new same)

-- the result of the shelf's part is an outcome of the row
allows_told : (row : Step Answer) (name : List ℕ) (files : Files) (old new : Seen) (result : Result (List ℕ) Status) → old.files ≡ Some files → Shelved row name old new result
    → result_status result ≢ ShelfFault → result_status result ≢ NoMemory → Allows row files (result_status result)
allows_told row name files old new result seen (answered answer at same delivers) fine enough =
    record { outcome = Ok answer; by_row = subst (λ (o : Option Files). row o (Ok answer)) seen at; same = sym (delivers_status answer name old new result delivers fine) }
allows_told row name files old new result seen (stopped s at refusal same) fine enough =
    record { outcome = Err s; by_row = subst (λ (o : Option Files). row o (Err s)) seen at; same = refl }
allows_told row name files old new result seen (failed same counted) fine enough = absurd (fine refl)
allows_told row name files old new result seen (starved same) fine enough = absurd (enough refl)

-- and a single row has no other
one_status : (row : Step Answer) (files : Files) (s t : Status) → IsSingle row → Allows row files s → Allows row files t → s ≡ t
one_status row files s t single here there = sym here.same ∙ ap status_in (single files here.outcome there.outcome here.by_row there.by_row) ∙ there.same

both_ways : (row : Step Answer) (files : Files) (status : Status) → IsSingle row → Allows row files status → (s : Status) → (status ≡ s) ↔ Allows row files s
both_ways row files status single here s = (λ same. subst (λ (t : Status). Allows row files t) same here, λ there. one_status row files status s single here there)

done_is_no_fault : Done ≢ ShelfFault
done_is_no_fault e = absurd cc

done_is_no_memory : Done ≢ NoMemory
done_is_no_memory e = absurd cc

exact_over : (row : Step Answer) (name : List ℕ) (old new : Seen) (before after : Said) (status : Status) (files : Option Files) → IsSingle row → old.files ≡ files → Ends row name old new before after status → IsExact row files status
exact_over row name old new before after status None single seen ends = tt
exact_over row name old new before after status (Some files) single seen (printed text shelved says) =
    (λ s fine quiet enough. both_ways row files Done single (allows_told row name files old new (Ok text) seen shelved fine enough) s, λ e. absurd cc)
exact_over row name old new before after status (Some files) single seen (unprinted text shelved says) =
    (λ s fine quiet enough. absurd (quiet refl), λ e. allows_told row name files old new (Ok text) seen shelved done_is_no_fault done_is_no_memory)
exact_over row name old new before after status (Some files) single seen (told s shelved says) = (
  λ t fine quiet enough. both_ways row files s single (allows_told row name files old new (Err s) seen shelved fine enough) t,
  λ e. absurd ((sound row name old new (Err s) shelved).not_sink_fault e),
)

pub exact : (row : Step Answer) (name : List ℕ) (old new : Seen) (before after : Said) (status : Status) → IsSingle row → Ends row name old new before after status → IsExact row old.files status
exact row name old new before after status single ends = exact_over row name old new before after status old.files single refl ends

-- a fault that was counted raised the count
counted_rose : (before now : ℕ) → Counted before now → Rose before now
counted_rose before now counted = omega (arith, counted.once)

-- what was delivered with no fault is the named file
delivers_file : (answer : Answer) (name : List ℕ) (files : Files) (old new : Seen) (result : Result (List ℕ) Status) → old.files ≡ Some files → Delivers answer name old new result → (Rose old.faults new.faults → ⊥)
    → (result_status result ≡ answer.status) × (new.files ≡ Some (with_output name answer.output files))
delivers_file answer name files old new result seen (delivered done kept text is) still = (sym done, kept.written ∙ ap (option_map (with_output name answer.output)) seen)
delivers_file answer name files old new result seen (lost refusal kept s is) still = (is, kept.written ∙ ap (option_map (with_output name answer.output)) seen)
delivers_file answer name files old new result seen (broken front) still = absurd (still (counted_rose old.faults new.faults front.counted))

completes_told : (row : Step Answer) (name : List ℕ) (files : Files) (old new : Seen) (result : Result (List ℕ) Status) → old.files ≡ Some files → Shelved row name old new result
    → ((s : Status) → row (Some files) (Err s) → ⊥) → (Rose old.faults new.faults → ⊥) → IsAnswered row name files (result_status result) new.files ⊎ (result_status result ≡ NoMemory)
completes_told row name files old new result seen (answered answer at same delivers) none still =
    let file = delivers_file answer name files old new result seen delivers still in
    inl (answer, subst (λ (o : Option Files). row o (Ok answer)) seen at, file.0, file.1)
completes_told row name files old new result seen (stopped s at refusal same) none still = absurd (none s (subst (λ (o : Option Files). row o (Err s)) seen at))
completes_told row name files old new result seen (failed same counted) none still = absurd (still (counted_rose old.faults new.faults counted))
completes_told row name files old new result seen (starved same) none still = inr refl

completes_over : (row : Step Answer) (name : List ℕ) (old new : Seen) (before after : Said) (status : Status) (files : Option Files) → old.files ≡ files → Ends row name old new before after status
    → IfSome files (λ files. ((s : Status) → row (Some files) (Err s) → ⊥) → (Rose old.faults new.faults → ⊥) → (Rose before.faults after.faults → ⊥) → IsAnswered row name files status new.files ⊎ (status ≡ NoMemory))
completes_over row name old new before after status None seen ends = tt
completes_over row name old new before after status (Some files) seen (printed text shelved says) = λ none still quiet. completes_told row name files old new (Ok text) seen shelved none still
completes_over row name old new before after status (Some files) seen (unprinted text shelved says) = λ none still quiet. absurd (quiet (counted_rose before.faults after.faults says.counted))
completes_over row name old new before after status (Some files) seen (told s shelved says) = λ none still quiet. completes_told row name files old new (Err s) seen shelved none still

pub completes : (row : Step Answer) (name : List ℕ) (old new : Seen) (before after : Said) (status : Status) → Ends row name old new before after status → Completes row name old new before after status
completes row name old new before after status ends = completes_over row name old new before after status old.files refl ends

-- ---- counts

pub counts_shelf : (row : Step Answer) (name : List ℕ) (old new : Seen) (before after : Said) (status : Status) → Ends row name old new before after status → CountsShelf old new status
counts_shelf row name old new before after status (printed text shelved says) = (sound row name old new (Ok text) shelved).counts
counts_shelf row name old new before after status (unprinted text shelved says) = (λ fault. absurd cc, λ fine. (sound row name old new (Ok text) shelved).counts.1 done_is_no_fault)
counts_shelf row name old new before after status (told s shelved says) = (sound row name old new (Err s) shelved).counts

-- an error is no `Done`
abbrev IsNotDone : Result (List ℕ) Status → Type 0
IsNotDone (Ok text) = Unit {0}
IsNotDone (Err s) = s ≢ Done

delivery_not_done : (answer : Answer) (name : List ℕ) (old new : Seen) (result : Result (List ℕ) Status) → Delivers answer name old new result → IsNotDone result
delivery_not_done answer name old new result (delivered done kept text is) = tt
delivery_not_done answer name old new result (lost refusal kept s is) = λ e. refusal.not_done (sym is ∙ e)
delivery_not_done answer name old new result (broken front) = λ e. absurd cc

not_done : (row : Step Answer) (name : List ℕ) (old new : Seen) (result : Result (List ℕ) Status) → Shelved row name old new result → IsNotDone result
not_done row name old new result (answered answer at same delivers) = delivery_not_done answer name old new result delivers
not_done row name old new result (stopped s at refusal same) = refusal.not_done
not_done row name old new result (failed same counted) = λ e. absurd cc
not_done row name old new result (starved same) = λ e. absurd cc

pub counts_sink : (row : Step Answer) (name : List ℕ) (old new : Seen) (before after : Said) (status : Status) → Ends row name old new before after status → CountsSink before after status
counts_sink row name old new before after status (printed text shelved says) = (λ fault. absurd cc, λ done. says.count)
counts_sink row name old new before after status (unprinted text shelved says) = (λ fault. says.counted, λ done. absurd cc)
counts_sink row name old new before after status (told s shelved says) = (λ fault. absurd ((sound row name old new (Err s) shelved).not_sink_fault fault), λ done. absurd (not_done row name old new (Err s) shelved done))

pub not_usage : (row : Step Answer) (name : List ℕ) (old new : Seen) (before after : Said) (status : Status) → Ends row name old new before after status → status ≢ Usage
not_usage row name old new before after status (printed text shelved says) = λ usage. absurd cc
not_usage row name old new before after status (unprinted text shelved says) = λ usage. absurd cc
not_usage row name old new before after status (told s shelved says) = (sound row name old new (Err s) shelved).not_usage

-- what was delivered is the output of an answer of the row
abbrev LeavesOutput : Step Answer → List ℕ → Seen → Seen → Result (List ℕ) Status → Type 0
LeavesOutput row name old new (Ok text) = (answer : Answer) × row old.files (Ok answer) × (new.files ≡ option_map (with_output name answer.output) old.files)
LeavesOutput row name old new (Err s) = Unit {0}

delivery_leaves : (row : Step Answer) (answer : Answer) (name : List ℕ) (old new : Seen) (result : Result (List ℕ) Status) → row old.files (Ok answer) → Delivers answer name old new result → LeavesOutput row name old new result
delivery_leaves row answer name old new result at (delivered done kept text is) = (answer, at, kept.written)
delivery_leaves row answer name old new result at (lost refusal kept s is) = tt
delivery_leaves row answer name old new result at (broken front) = tt

leaves_output : (row : Step Answer) (name : List ℕ) (old new : Seen) (result : Result (List ℕ) Status) → Shelved row name old new result → LeavesOutput row name old new result
leaves_output row name old new result (answered answer at same delivers) = delivery_leaves row answer name old new result at delivers
leaves_output row name old new result (stopped s at refusal same) = tt
leaves_output row name old new result (failed same counted) = tt
leaves_output row name old new result (starved same) = tt

-- a command that was done left the output of an answer of its row
pub done_leaves_output : (row : Step Answer) (name : List ℕ) (old new : Seen) (before after : Said) (status : Status) → Ends row name old new before after status → status ≡ Done
    → (answer : Answer) × row old.files (Ok answer) × (new.files ≡ option_map (with_output name answer.output) old.files)
done_leaves_output row name old new before after status (printed text shelved says) done = leaves_output row name old new (Ok text) shelved
done_leaves_output row name old new before after status (unprinted text shelved says) done = absurd cc
done_leaves_output row name old new before after status (told s shelved says) done = absurd (not_done row name old new (Err s) shelved done)

pub ruleset ends = (exact, completes, counts_shelf, counts_sink, not_usage)

-- ---- reads

module _ {S : Type 0} (gives : Telling S) (inputs : List Input) (first : S) where
  -- all files were read before the output is written
  pub read_before : {Y : Type 0} (last : S) (result : Result Y Status) → AreRead gives inputs first last → ReadsBefore gives inputs first result
  read_before last (Ok y) all = (last, all)
  read_before last (Err s) all = (last, inl all)

  pub stopped_before : (last : S) (s : Status) → Stops gives inputs first last s → ReadsFirst gives inputs first s
  stopped_before last s stop = (last, inr stop)

  -- and so before what is printed
  pub read_first : (s : Status) → (last : S) × AreRead gives inputs first last → ReadsFirst gives inputs first s
  read_first s all = (all.0, inl all.1)
