-- The lines that say why a file or a constraint is refused, each with its line feed.
use Rattle.std.specs.Prelude.{ℕ, List, [], ◌∷◌, ◌++◌, flat_map, codes}
use Rattle.std.specs.Fmt.{decimal}
use Rattle.constraint_file_spec.specs.Keys.{key_name}
use Rattle.constraint_file_spec.specs.declared.fault.ConstraintFault.{ConstraintFault}
use Rattle.constraint_file_spec.specs.declared.fault.ConstraintFault.TheVariants.{NotToml, UnknownKey, WrongType, OutOfRange, DAboveK, TooMany, BadWord, BadEdge, NoMemory}
use Rattle.command_steps.specs.declared.status.ChannelFault.{ChannelFault}
use Rattle.command_steps.specs.declared.status.ChannelFault.TheVariants.{BadSymbol, PartBlock, TooShort, PartByte}
use Rattle.command_steps.specs.declared.status.CodeFault.{CodeFault}
use Rattle.command_steps.specs.declared.status.CodeFault.TheVariants.{BadCode, OutOfConstraint, Ambiguous}
use Rattle.command_steps.specs.declared.status.Limit.{Limit}
use Rattle.command_steps.specs.declared.status.Limit.TheVariants.{RawStates, CoverStates, MemoryTooLong, PowerEdges, Weight, Spread}
use Rattle.label_graphs.specs.declared.read_back.TwoStates.{TwoStates}

-- a line, and its line feed
abbrev line : List ℕ → List ℕ
line text = text ++ 10 ∷ []

-- each number in decimal, behind a space
abbrev pub behind_spaces : List ℕ → List ℕ
behind_spaces numbers = flat_map (λ number. 32 ∷ decimal number) numbers

-- the key of an unknown key stands there byte for byte
abbrev pub line_of_constraint_fault : ConstraintFault → List ℕ
line_of_constraint_fault NotToml = line (codes "constraint refused: not toml")
line_of_constraint_fault (UnknownKey key) = line (codes "constraint refused: unknown key " ++ key)
line_of_constraint_fault (WrongType key) = line (codes "constraint refused: wrong type " ++ key_name key)
line_of_constraint_fault (OutOfRange key) = line (codes "constraint refused: out of range " ++ key_name key)
line_of_constraint_fault DAboveK = line (codes "constraint refused: d above k")
line_of_constraint_fault (TooMany key) = line (codes "constraint refused: too many " ++ key_name key)
line_of_constraint_fault (BadWord at) = line (codes "constraint refused: bad word " ++ decimal at)
line_of_constraint_fault (BadEdge at) = line (codes "constraint refused: bad edge " ++ decimal at)
line_of_constraint_fault NoMemory = line (codes "out of memory")

abbrev pub line_of_limit : Limit → List ℕ
line_of_limit (RawStates count) = line (codes "too large: raw states " ++ decimal count)
line_of_limit (CoverStates count) = line (codes "too large: cover states " ++ decimal count)
line_of_limit (MemoryTooLong count) = line (codes "too large: memory " ++ decimal count)
line_of_limit (PowerEdges count) = line (codes "too large: power edges " ++ decimal count)
line_of_limit (Weight sum) = line (codes "too large: weight " ++ decimal sum)
line_of_limit (Spread sum) = line (codes "too large: spread " ++ decimal sum)

-- the symbols of a word as decimal numbers, one behind the other
abbrev pub word_text : List ℕ → List ℕ
word_text word = flat_map (λ symbol. decimal symbol) word

abbrev pub line_of_two_states : TwoStates → List ℕ
line_of_two_states two =
    line (codes "infinite memory: states " ++ decimal two.first ++ codes " and " ++ decimal two.second ++ codes " both read " ++ word_text two.word)

-- a walk is told by its state and its data words
abbrev pub line_of_code_fault : CodeFault → List ℕ
line_of_code_fault (BadCode at) = line (codes "code refused: line " ++ decimal at)
line_of_code_fault (OutOfConstraint words) = line (codes "code refused: out of constraint" ++ behind_spaces words)
line_of_code_fault (Ambiguous first second) =
    line (codes "code refused: ambiguous" ++ behind_spaces (first.state ∷ first.words) ++ codes " and" ++ behind_spaces (second.state ∷ second.words))

abbrev pub line_of_channel_fault : ChannelFault → List ℕ
line_of_channel_fault (BadSymbol at) = line (codes "channel refused: bad symbol " ++ decimal at)
line_of_channel_fault (PartBlock count) = line (codes "channel refused: part block " ++ decimal count)
line_of_channel_fault (TooShort count) = line (codes "channel refused: too short " ++ decimal count)
line_of_channel_fault (PartByte count) = line (codes "channel refused: part byte " ++ decimal count)
