-- The rows of the commands have one outcome over told files.
use Rattle.std.proofs.Common.{ℕ, List}
use Rattle.steps.proofs.StepLaws.{gives_is_single, then_is_single}
use Rattle.command_steps.specs.Step.{IsSingle}
use Rattle.command_steps.proofs.StepLaws.{input_is_single}
use Rattle.design_steps.proofs.ChainLaws.{split_is_single}
use Rattle.design_commands.specs.ConstraintFiles.{ConstraintAt}
use Rattle.design_commands.specs.Words.{ExplainWords}
use Rattle.design_commands.specs.Explain.{explain_row}
use Rattle.design_commands.proofs.ConstraintLaws.{constraint_is_single}

constraint_file_is_single : (name : List ℕ) → IsSingle (ConstraintAt name)
unfolding ConstraintAt
constraint_file_is_single name = λ files. search (then_is_single, input_is_single, constraint_is_single)

pub explain_is_single : (words : ExplainWords) → IsSingle (explain_row words)
unfolding explain_row
explain_is_single words = λ files. search (then_is_single, constraint_file_is_single, split_is_single, gives_is_single)

pub ruleset rows_are_single = (explain_is_single)
