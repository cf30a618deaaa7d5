-- The exit status of each way in which a command ends, and the line that is printed.
use Rattle.std.specs.Prelude.{ℕ, List, [], ◌∷◌, ◌++◌, codes}
use Rattle.std.specs.Fmt.{decimal}
use Rattle.constraint_file_spec.specs.declared.fault.ConstraintFault.{ConstraintFault}
use Rattle.constraint_file_spec.specs.declared.fault.ConstraintFault.TheVariants as faults
use Rattle.command_steps.specs.declared.status.Status.{Status}
use Rattle.command_steps.specs.declared.status.Status.TheVariants.{Done, Usage, ShelfFault, SinkFault, FileTooLong, ConstraintRefused, TooLarge, CodeRefused, ChannelRefused, NoMemory, FileMissing, InfiniteMemory, NoVector}
use Rattle.command_steps.specs.FaultLines.{line_of_constraint_fault, line_of_limit, line_of_code_fault, line_of_channel_fault, line_of_two_states}

abbrev pub exit_status : Status → ℕ
exit_status Done = 0
exit_status Usage = 1
exit_status ShelfFault = 2
exit_status SinkFault = 3
exit_status (FileTooLong limit) = 4
exit_status (ConstraintRefused fault) = 5
exit_status (TooLarge limit) = 6
exit_status (InfiniteMemory two) = 7
exit_status NoVector = 8
exit_status (CodeRefused fault) = 9
exit_status (ChannelRefused fault) = 10
exit_status NoMemory = 13
exit_status (FileMissing place) = 14

-- the line of a status, with its line feed; a command that was done has none
abbrev pub line_of_status : Status → List ℕ
line_of_status Done = []
line_of_status Usage = codes "usage" ++ 10 ∷ []
line_of_status ShelfFault = codes "shelf fault" ++ 10 ∷ []
line_of_status SinkFault = codes "sink fault" ++ 10 ∷ []
line_of_status (FileTooLong limit) = codes "file too long " ++ decimal limit ++ 10 ∷ []
line_of_status (ConstraintRefused fault) = line_of_constraint_fault fault
line_of_status (TooLarge limit) = line_of_limit limit
line_of_status (InfiniteMemory two) = line_of_two_states two
line_of_status NoVector = codes "no vector" ++ 10 ∷ []
line_of_status (CodeRefused fault) = line_of_code_fault fault
line_of_status (ChannelRefused fault) = line_of_channel_fault fault
line_of_status NoMemory = codes "out of memory" ++ 10 ∷ []
line_of_status (FileMissing place) = codes "missing file: word " ++ decimal place ++ 10 ∷ []

-- the lines that carry a key or a number, for which memory is taken; the others are printed without
abbrev pub FaultTakesMemory : ConstraintFault → Type 0
FaultTakesMemory faults.NotToml = ⊥
FaultTakesMemory (faults.UnknownKey key) = Unit {0}
FaultTakesMemory (faults.WrongType key) = Unit {0}
FaultTakesMemory (faults.OutOfRange key) = Unit {0}
FaultTakesMemory faults.DAboveK = ⊥
FaultTakesMemory (faults.TooMany key) = Unit {0}
FaultTakesMemory (faults.BadWord at) = Unit {0}
FaultTakesMemory (faults.BadEdge at) = Unit {0}
FaultTakesMemory faults.NoMemory = ⊥

abbrev pub TakesMemory : Status → Type 0
TakesMemory Done = ⊥
TakesMemory Usage = ⊥
TakesMemory ShelfFault = ⊥
TakesMemory SinkFault = ⊥
TakesMemory (FileTooLong limit) = Unit {0}
TakesMemory (ConstraintRefused fault) = FaultTakesMemory fault
TakesMemory (TooLarge limit) = Unit {0}
TakesMemory (InfiniteMemory two) = Unit {0}
TakesMemory NoVector = ⊥
TakesMemory (CodeRefused fault) = Unit {0}
TakesMemory (ChannelRefused fault) = Unit {0}
TakesMemory NoMemory = ⊥
TakesMemory (FileMissing place) = Unit {0}
