-- The laws of the steps of commands: that they have one outcome, and that a function that is a row of `?` follows its
-- row.
use Rattle.std.proofs.Common.{◌≡◌, ℕ, ◌<◌, ◌≤◌, List, length, Option, Some, None, Result, Ok, Err, refl, sym, ap, subst, arith}
use Rattle.std.specs.Prelude.{IsSomeAnd}
use Rattle.constraint_file_spec.specs.declared.fault.ConstraintFault.{ConstraintFault}
use Rattle.label_graphs.specs.declared.read_back.TwoStates.{TwoStates}
use Rattle.steps.specs.Step.{Gives, gives, Then, stops, goes_on}
use Rattle.steps.specs.Decides.{gave_alone, refused_alone, memory_alone}
use Rattle.command_steps.specs.declared.status.Status.{Status}
use Rattle.command_steps.specs.declared.status.Status.TheVariants.{FileTooLong, ConstraintRefused, TooLarge, CodeRefused, ChannelRefused, NoMemory, FileMissing, InfiniteMemory, NoVector}
use Rattle.command_steps.specs.declared.status.ChannelFault.{ChannelFault}
use Rattle.command_steps.specs.declared.status.CodeFault.{CodeFault}
use Rattle.command_steps.specs.declared.status.Limit.{Limit}
use Rattle.command_steps.specs.Step.{Step, InputAt, missing, too_long, found, IsSingle}
use Rattle.command_steps.specs.Promise.{IsRefusal, IsRefusedAlone, Seen, Follows, gave, refused, fault, memory, Decides}

-- ---- the statuses that the files decide

pub too_long_is_refusal : (limit : ℕ) → IsRefusal (FileTooLong limit)
too_long_is_refusal limit = record { not_done = λ e. absurd cc; not_usage = λ e. absurd cc; not_shelf_fault = λ e. absurd cc; not_sink_fault = λ e. absurd cc; not_memory = λ e. absurd cc }

pub too_long_is_alone : (limit : ℕ) → IsRefusedAlone (FileTooLong limit)
too_long_is_alone limit = record { refusal = too_long_is_refusal limit; not_missing = λ place e. absurd cc }

pub constraint_refused_is_refusal : (why : ConstraintFault) → IsRefusal (ConstraintRefused why)
constraint_refused_is_refusal why = record { not_done = λ e. absurd cc; not_usage = λ e. absurd cc; not_shelf_fault = λ e. absurd cc; not_sink_fault = λ e. absurd cc; not_memory = λ e. absurd cc }

pub constraint_refused_is_alone : (why : ConstraintFault) → IsRefusedAlone (ConstraintRefused why)
constraint_refused_is_alone why = record { refusal = constraint_refused_is_refusal why; not_missing = λ place e. absurd cc }

pub too_large_is_refusal : (limit : Limit) → IsRefusal (TooLarge limit)
too_large_is_refusal limit = record { not_done = λ e. absurd cc; not_usage = λ e. absurd cc; not_shelf_fault = λ e. absurd cc; not_sink_fault = λ e. absurd cc; not_memory = λ e. absurd cc }

pub too_large_is_alone : (limit : Limit) → IsRefusedAlone (TooLarge limit)
too_large_is_alone limit = record { refusal = too_large_is_refusal limit; not_missing = λ place e. absurd cc }

pub infinite_memory_is_refusal : (two : TwoStates) → IsRefusal (InfiniteMemory two)
infinite_memory_is_refusal two = record { not_done = λ e. absurd cc; not_usage = λ e. absurd cc; not_shelf_fault = λ e. absurd cc; not_sink_fault = λ e. absurd cc; not_memory = λ e. absurd cc }

pub infinite_memory_is_alone : (two : TwoStates) → IsRefusedAlone (InfiniteMemory two)
infinite_memory_is_alone two = record { refusal = infinite_memory_is_refusal two; not_missing = λ place e. absurd cc }

pub no_vector_is_refusal : IsRefusal NoVector
no_vector_is_refusal = record { not_done = λ e. absurd cc; not_usage = λ e. absurd cc; not_shelf_fault = λ e. absurd cc; not_sink_fault = λ e. absurd cc; not_memory = λ e. absurd cc }

pub no_vector_is_alone : IsRefusedAlone NoVector
no_vector_is_alone = record { refusal = no_vector_is_refusal; not_missing = λ place e. absurd cc }

pub code_refused_is_refusal : (why : CodeFault) → IsRefusal (CodeRefused why)
code_refused_is_refusal why = record { not_done = λ e. absurd cc; not_usage = λ e. absurd cc; not_shelf_fault = λ e. absurd cc; not_sink_fault = λ e. absurd cc; not_memory = λ e. absurd cc }

pub code_refused_is_alone : (why : CodeFault) → IsRefusedAlone (CodeRefused why)
code_refused_is_alone why = record { refusal = code_refused_is_refusal why; not_missing = λ place e. absurd cc }

pub channel_refused_is_refusal : (why : ChannelFault) → IsRefusal (ChannelRefused why)
channel_refused_is_refusal why = record { not_done = λ e. absurd cc; not_usage = λ e. absurd cc; not_shelf_fault = λ e. absurd cc; not_sink_fault = λ e. absurd cc; not_memory = λ e. absurd cc }

pub channel_refused_is_alone : (why : ChannelFault) → IsRefusedAlone (ChannelRefused why)
channel_refused_is_alone why = record { refusal = channel_refused_is_refusal why; not_missing = λ place e. absurd cc }

pub missing_is_refusal : (place : ℕ) → IsRefusal (FileMissing place)
missing_is_refusal place = record { not_done = λ e. absurd cc; not_usage = λ e. absurd cc; not_shelf_fault = λ e. absurd cc; not_sink_fault = λ e. absurd cc; not_memory = λ e. absurd cc }

-- ---- an input file has one outcome

abbrev with_value : List ℕ → Result (List ℕ) Status
with_value x = Ok x

-- a file that is there has one content
some_is : {A : Type 0} (file : Option A) (x y : A) → file ≡ Some x → file ≡ Some y → x ≡ y
some_is file x y e f = cc

some_isnt_none : {A : Type 0} (file : Option A) (x : A) → file ≡ None → file ≡ Some x → ⊥
some_isnt_none file x e f = absurd cc

pub some_and : {A : Type 0} (o : Option A) (P : A → Type 0) → IsSomeAnd o P → (x : A) × (o ≡ Some x) × P x
some_and (Some x) P h = (x, refl, h)
some_and None P h = absurd h

not_long : (file : Option (List ℕ)) (limit : ℕ) (bytes : List ℕ) → IsSomeAnd file (λ bytes. limit < length bytes) → file ≡ Some bytes → length bytes ≤ limit → ⊥
not_long file limit bytes long e within =
    let other = some_and file (λ bytes. limit < length bytes) long in
    let same : other.0 ≡ bytes = some_is file other.0 bytes other.1 e in
    let more : limit < length bytes = subst (λ (b : List ℕ). limit < length b) same other.2 in
    omega (arith, more, within)

pub input_is_single : (name : List ℕ) (place limit : ℕ) → IsSingle (InputAt name place limit)
input_is_single name place limit files x y (missing e) (missing f) = refl
input_is_single name place limit files x y (missing e) (too_long f) = let other = some_and (files name) (λ bytes. limit < length bytes) f in absurd (some_isnt_none (files name) other.0 e other.1)
input_is_single name place limit files x y (missing e) (found b f within) = absurd (some_isnt_none (files name) b e f)
input_is_single name place limit files x y (too_long e) (missing f) = let other = some_and (files name) (λ bytes. limit < length bytes) e in absurd (some_isnt_none (files name) other.0 f other.1)
input_is_single name place limit files x y (too_long e) (too_long f) = refl
input_is_single name place limit files x y (too_long e) (found b f within) = absurd (not_long (files name) limit b e f within)
input_is_single name place limit files x y (found a e within) (missing f) = absurd (some_isnt_none (files name) a f e)
input_is_single name place limit files x y (found a e within) (too_long f) = absurd (not_long (files name) limit a f e within)
input_is_single name place limit files x y (found a e within) (found b f too) = ap with_value (some_is (files name) a b e f)

-- ---- what a function returned that is a row of `?`

files_kept : (old new : Seen) → new ≡ old → new.files ≡ old.files
files_kept old new same = ap (λ (s : Seen). s.files) same

follow_same : {A Y B : Type 0} (other : Y → B) (first : Step A) (next : A → Step B) (value : A) (old new : Seen) (result : Result Y Status) → first old.files (Ok value) → Follows other (next value) old new result → Follows other (Then first next) old new result
follow_same other first next value old new result at (gave y rest same) = gave y (goes_on value (Ok (other y)) at rest) same
follow_same other first next value old new result at (refused s rest is same) = refused s (goes_on value (Err s) at rest) is same
follow_same other first next value old new result at (fault same counted) = fault same counted
follow_same other first next value old new result at (memory same) = memory same

-- the second function's result, behind a value of the first
pub follow_on : {X A Y B : Type 0} (view : X → A) (other : Y → B) (first : Step A) (next : A → Step B) (old middle new : Seen) (x : X) (result : Result Y Status)
    → Follows view first old middle (Ok x) → Follows other (next (view x)) middle new result → Follows other (Then first next) old new result
follow_on view other first next old middle new x result (gave same_x at same) rest =
    follow_same other first next (view x) old new result at (subst (λ (m : Seen). Follows other (next (view x)) m new result) same rest)

-- a refusal of the first
pub follow_stop : {X A Y B : Type 0} (view : X → A) (other : Y → B) (first : Step A) (next : A → Step B) (old new : Seen) (s : Status)
    → Follows view first old new (Err s) → Follows other (Then first next) old new (Err s)
follow_stop view other first next old new s (refused t at is same) = refused s (stops s at) is same
follow_stop view other first next old new s (fault same counted) = fault same counted
follow_stop view other first next old new s (memory same) = memory same

-- the same where the first sees no shelf
pub alone_on : {X A Y B : Type 0} (view : X → A) (other : Y → B) (first : Step A) (next : A → Step B) (old new : Seen) (x : X) (result : Result Y Status)
    → Decides view first (Ok x) → Follows other (next (view x)) old new result → Follows other (Then first next) old new result
alone_on view other first next old new x result (gave_alone y at) rest = follow_same other first next (view x) old new result (at old.files) rest

pub alone_stop : {X A Y B : Type 0} (view : X → A) (other : Y → B) (first : Step A) (next : A → Step B) (old : Seen) (s : Status)
    → Decides view first (Err s) → Follows other (Then first next) old old (Err s)
alone_stop view other first next old s (refused_alone t at is) = refused s (stops s (at old.files)) is.refusal refl
alone_stop view other first next old s memory_alone = memory refl

-- such a function at the end of a row
pub alone_last : {X A : Type 0} (view : X → A) (step : Step A) (old : Seen) (result : Result X Status) → Decides view step result → Follows view step old old result
alone_last view step old result (gave_alone x at) = gave x (at old.files) refl
alone_last view step old result (refused_alone s at is) = refused s (at old.files) is.refusal refl
alone_last view step old result memory_alone = memory refl

-- the row's last value
pub follow_gives : {X A : Type 0} (view : X → A) (value : A) (old : Seen) (x : X) → value ≡ view x → Follows view (Gives value) old old (Ok x)
follow_gives view value old x same = gave x (subst (λ (v : _). Gives {R = Status} v old.files (Ok (view x))) (sym same) gives) refl

-- memory was wanted, by a function that saw the shelf
pub follow_memory : {X A : Type 0} (view : X → A) (step : Step A) (old : Seen) (s : Status) → s ≡ NoMemory → Follows view step old old (Err s)
follow_memory view step old s is = rw is (memory refl)

-- what a row of `?` needs
pub ruleset rows = (follow_on, follow_stop, alone_on, alone_stop, alone_last, follow_gives, follow_memory)
