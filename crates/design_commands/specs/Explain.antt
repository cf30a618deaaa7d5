-- `explain CONSTRAINT P Q BOUND`: the design of a code for a constraint, up to its last round of splitting.
use Rattle.std.specs.Prelude.{ℕ, ◌+◌, List, [], ◌∷◌, ◌++◌, length, map, codes}
use Rattle.std.specs.Fmt.{decimal}
use Rattle.code_text_spec.specs.CodeText.{spaced, text_of}
use Rattle.label_graphs.specs.Graph.{EdgeData}
use Rattle.label_graphs.specs.Power.{edge_count}
use Rattle.command_steps.specs.FaultLines.{behind_spaces}
use Rattle.steps.specs.Step.{◌>>=◌, Gives}
use Rattle.command_steps.specs.Step.{Step}
use Rattle.command_steps.specs.Answer.{Answer, prints}
use Rattle.command_steps.specs.Inputs.{Input}
use Rattle.design_steps.specs.Begun.{BegunData}
use Rattle.design_steps.specs.Chains.{SplitDesignData, SplitsInto}
use Rattle.design_commands.specs.ConstraintFiles.{constraint_input, ConstraintAt}
use Rattle.design_commands.specs.SplitLines.{chain_lines}
use Rattle.design_commands.specs.Words.{ExplainWords}

-- an edge by its state, its symbol and its target
abbrev pub edge_line : ℕ → EdgeData → List ℕ
edge_line state e = spaced (decimal state) (spaced (decimal e.block) (decimal e.to))

-- the edges of the states from one on
abbrev pub edge_lines : ℕ → List (List EdgeData) → List (List ℕ)
edge_lines state [] = []
edge_lines state (row ∷ rows) = map (edge_line state) row ++ edge_lines (state + 1) rows

-- how many states the cover has, and its edges
abbrev pub cover_lines : List (List EdgeData) → List (List ℕ)
cover_lines rows = spaced (codes "cover") (decimal (length rows)) ∷ edge_lines 0 rows

-- the memory behind them, how many edges the power has, the least bound and the weights within it, and the states
-- of the sink
abbrev pub begun_lines : BegunData → List (List ℕ)
begun_lines begun =
    cover_lines begun.cover.graph
    ++ spaced (codes "memory") (decimal begun.memory)
    ∷ spaced (codes "power") (decimal (edge_count begun.power))
    ∷ spaced (codes "bound") (decimal begun.vector.bound)
    ∷ (codes "weights" ++ behind_spaces begun.vector.weights)
    ∷ (codes "sink" ++ behind_spaces begun.sink.states)
    ∷ []

-- and behind these the rounds of splitting
abbrev pub explain_lines : ℕ → SplitDesignData → List (List ℕ)
explain_lines q design =
    begun_lines design.begun
    ++ chain_lines design.begun.cover.alphabet q (length design.begun.sink.rows) design.chain

unfoldable pub explain_row : ExplainWords → Step Answer
explain_row words = do
  constraint ← ConstraintAt words.constraint
  design ← SplitsInto constraint words.p words.q words.bound
  Gives (prints (text_of (explain_lines words.q design)))

abbrev pub explain_inputs : ExplainWords → List Input
explain_inputs words = constraint_input words.constraint ∷ []
