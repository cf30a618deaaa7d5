-- Lines of statuses that no run of the program prints: those past the limits of what a machine holds, and of faults
-- that no file leads to. The other lines are compared by the stored runs.
use Rattle.std.proofs.Common.{◌≡◌, List, [], ◌∷◌, ◌++◌, refl}
use Rattle.std.specs.Prelude.{ℕ, codes}
use Rattle.std.specs.Fmt as fmt
use Rattle.code_spec.specs.declared.Walk.{Walk}
use Rattle.constraint_file_spec.specs.declared.fault.ConstraintFault.TheVariants.{UnknownKey, NoMemory}
use Rattle.command_steps.specs.declared.status.Status.TheVariants as statuses
use Rattle.command_steps.specs.declared.status.Limit.TheVariants.{MemoryTooLong, Weight, Spread}
use Rattle.command_steps.specs.declared.status.CodeFault.TheVariants.{OutOfConstraint, Ambiguous}
use Rattle.command_steps.specs.StatusLine.{exit_status, line_of_status}

-- a text and its line feed
abbrev line : List ℕ → List ℕ
line text = text ++ 10 ∷ []

line-SinkFault : line_of_status statuses.SinkFault ≡ line (codes "sink fault")
line-SinkFault = refl

status-NoMemory : exit_status statuses.NoMemory ≡ 13
status-NoMemory = refl

line-MemoryTooLong : line_of_status (statuses.TooLarge (MemoryTooLong 257)) ≡ line (codes "too large: memory 257")
unfolding fmt.digits
line-MemoryTooLong = refl

line-Weight : line_of_status (statuses.TooLarge (Weight 513)) ≡ line (codes "too large: weight 513")
unfolding fmt.digits
line-Weight = refl

line-Spread : line_of_status (statuses.TooLarge (Spread 262145)) ≡ line (codes "too large: spread 262145")
unfolding fmt.digits
line-Spread = refl

line-symbol_2 : line_of_status (statuses.InfiniteMemory record { first = 1; second = 3; word = 2 ∷ [] }) ≡ line (codes "infinite memory: states 1 and 3 both read 2")
unfolding fmt.digits
line-symbol_2 = refl

line-no_word : line_of_status (statuses.InfiniteMemory record { first = 1; second = 3; word = [] }) ≡ line (codes "infinite memory: states 1 and 3 both read ")
unfolding fmt.digits
line-no_word = refl

line-odd_key : line_of_status (statuses.ConstraintRefused (UnknownKey (120 ∷ 32 ∷ 255 ∷ []))) ≡ line (codes "constraint refused: unknown key x " ++ 255 ∷ [])
line-odd_key = refl

line-of_constraint_NoMemory : line_of_status (statuses.ConstraintRefused NoMemory) ≡ line (codes "out of memory")
line-of_constraint_NoMemory = refl

line-no_words : line_of_status (statuses.CodeRefused (OutOfConstraint [])) ≡ line (codes "code refused: out of constraint")
line-no_words = refl

abbrev walk : ℕ → List ℕ → Walk
walk state words = record { state = state; words = words }

line-long_walks : line_of_status (statuses.CodeRefused (Ambiguous (walk 0 (0 ∷ [])) (walk 511 (255 ∷ 1 ∷ [])))) ≡ line (codes "code refused: ambiguous 0 0 and 511 255 1")
unfolding fmt.digits
line-long_walks = refl

line-empty_walks : line_of_status (statuses.CodeRefused (Ambiguous (walk 10 []) (walk 2 []))) ≡ line (codes "code refused: ambiguous 10 and 2")
unfolding fmt.digits
line-empty_walks = refl
