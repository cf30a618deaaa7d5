-- The lines of the rounds of splitting: each round with its splits, how many rounds there are, and what is kept.
use Rattle.std.specs.Prelude.{ℕ, ◌+◌, List, [], ◌∷◌, ◌++◌, length, flat_map, codes}
use Rattle.std.specs.Fmt.{decimal}
use Rattle.symbol_base.specs.Block.{symbols_of}
use Rattle.code_text_spec.specs.CodeText.{spaced, digits}
use Rattle.label_graphs.specs.Graph.{EdgeData}
use Rattle.split_spec.specs.Round.{SplitData}
use Rattle.split_spec.specs.Chain.{ChainData}
use Rattle.command_steps.specs.FaultLines.{behind_spaces}

-- an edge of a run: its block of q symbols and its target
abbrev pub run_edge : ℕ → ℕ → EdgeData → List ℕ
run_edge alphabet q e = 32 ∷ digits (symbols_of alphabet q e.block) ++ 62 ∷ decimal e.to

-- the state, the number of its second part, what the first weighs, and the run, those to the lightest targets first
abbrev pub split_line : ℕ → ℕ → ℕ → SplitData → List ℕ
split_line alphabet q part split =
    spaced (codes "split") (spaced (decimal split.state) (spaced (decimal part) (decimal split.y)))
    ++ flat_map (run_edge alphabet q) split.run

-- the splits of a round, of which the first second part has this number
abbrev pub split_lines : ℕ → ℕ → ℕ → List SplitData → List (List ℕ)
split_lines alphabet q part [] = []
split_lines alphabet q part (split ∷ splits) = split_line alphabet q part split ∷ split_lines alphabet q (part + 1) splits

-- the rounds from this number on, the first of them made of a graph with so many states
abbrev pub round_lines : ℕ → ℕ → ℕ → ℕ → List (List SplitData) → List (List ℕ)
round_lines alphabet q number states [] = []
round_lines alphabet q number states (splits ∷ rounds) =
    (spaced (codes "round") (decimal number) ∷ split_lines alphabet q states splits)
    ++ round_lines alphabet q (number + 1) (states + length splits) rounds

-- all rounds of a sink with so many states
abbrev pub chain_lines : ℕ → ℕ → ℕ → ChainData → List (List ℕ)
chain_lines alphabet q states chain =
    round_lines alphabet q 1 states chain.rounds
    ++ spaced (codes "rounds") (decimal (length chain.rounds)) ∷ (codes "kept" ++ behind_spaces chain.kept) ∷ []
