-- The words of the commands that design a code.
use Rattle.std.specs.Prelude.{ℕ, ◌≤◌, List, Option, Some}
use Rattle.text_reading.specs.Reading.{◌>>=◌}
use Rattle.command_steps.specs.Words.{number_within}
use Rattle.design_commands.specs.declared.explain.Explain.TheInside.{Inside}

-- a rate, and a bound for weights
pub record IsRateWithin (p q bound : ℕ) : Type 0 where
  pub p_one : 1 ≤ p
  pub p_eight : p ≤ 8
  pub p_q : p ≤ q
  pub q_twenty : q ≤ 20
  pub bound_one : 1 ≤ bound
  pub bound_most : bound ≤ 64

-- the words behind `explain`: a constraint file, P data bits for Q symbols, and the greatest weight that is tried
pub record ExplainWords : Type 0 where
  pub constraint : List ℕ
  pub p : ℕ
  pub q : ℕ
  pub bound : ℕ

-- the numbers are in their ranges
unfoldable pub explain_words : List ℕ → List ℕ → List ℕ → List ℕ → Option ExplainWords
explain_words constraint p q bound = do
  p ← number_within 1 8 p
  q ← number_within p 20 q
  bound ← number_within 1 64 bound
  Some (record { constraint = constraint; p = p; q = q; bound = bound })

abbrev pub explain_seen : Inside → ExplainWords
explain_seen words = record { constraint = words.constraint.now; p = words.p; q = words.q; bound = words.bound }
