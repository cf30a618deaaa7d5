-- What a chain says of the step that it is, and that a design up to its last round is told by the constraint, the
-- rate and the bound.
use Rattle.std.proofs.Common.{ℕ, Ok}
use Rattle.constraint_spec.specs.Constraint.{ConstraintData}
use Rattle.split_spec.specs.Chain.{IsChain}
use Rattle.split_spec.proofs.OneChain.{one_chain}
use Rattle.split_spec.proofs.OneRound.{one_round_follows}
use Rattle.state_split.specs.declared.chain.Chain.{Chain}
use Rattle.state_split.specs.Chains.{chain_data}
use Rattle.command_steps.specs.Step.{IsSingle}
use Rattle.command_steps.specs.Promise.{Decides}
use Rattle.steps.proofs.StepLaws.{finds_value, finds_is_single, then_is_single, gives_is_single}
use Rattle.design_steps.specs.Sinks.{SinkData}
use Rattle.design_steps.specs.Chains.{weighted_sink, ChainOf, SplitsInto}
use Rattle.design_steps.proofs.BegunLaws.{begun_is_single}

pub chain_is_single : (n : ℕ) (sink : SinkData) → IsSingle (ChainOf n sink)
chain_is_single n sink = λ files. finds_is_single _ (IsChain n (weighted_sink sink)) (one_chain one_round_follows n (weighted_sink sink))

pub split_is_single : (c : ConstraintData) (p q bound : ℕ) → IsSingle (SplitsInto c p q bound)
unfolding SplitsInto
split_is_single c p q bound = λ files. search (then_is_single, begun_is_single, chain_is_single, gives_is_single) depth 12

pub chain_is_made : (n : ℕ) (sink : SinkData) (chain : Chain) → IsChain n (weighted_sink sink) (chain_data chain) → Decides chain_data (ChainOf n sink) (Ok chain)
chain_is_made n sink chain is = finds_value _ _ (IsChain n (weighted_sink sink)) chain_data chain is
