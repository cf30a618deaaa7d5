-- What a function promises that takes a step which no world decides.
use Rattle.std.specs.Prelude.{Result, Ok, Err}
use Rattle.steps.specs.Step.{Step}

-- The function's result is an outcome of the step over each world, its value seen by view, and a refusal is one that a
-- world may decide; or memory was wanted.
pub data Decides {W R X A : Type 0} (IsRefusal : R → Type 0) (memory : R) (view : X → A) (step : Step W R A) : Result X R → Type 0 where
  gave_alone : (x : X) → ((world : W) → step world (Ok (view x))) → Decides IsRefusal memory view step (Ok x)
  refused_alone : (refusal : R) → ((world : W) → step world (Err refusal)) → IsRefusal refusal → Decides IsRefusal memory view step (Err refusal)
  memory_alone : Decides IsRefusal memory view step (Err memory)
