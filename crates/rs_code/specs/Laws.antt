-- The laws of the code.
use Rattle.std.specs.Prelude.{◌≡◌, ◌≢◌, ℕ, ◌+◌, ◌-◌, ◌*◌, ◌<◌, ◌≤◌, List, length, slice_index, All}
use Rattle.gf256.specs.Field.{IsElement, power, alpha, inverse}
use Rattle.rs_code.specs.Word.{weighted_sum, IsReedSolomonWord, differences, IsNear}
use Rattle.rs_code.specs.Polynomial.{value_at, product, IsBelowDegree}

-- two different words of the code of one length differ in at least 2 t + 1 places
abbrev pub WordsAreFarApart : Type 0
WordsAreFarApart = (t : ℕ) (u v : List ℕ) → IsReedSolomonWord t u → IsReedSolomonWord t v → length u ≡ length v → u ≢ v
    → 2 * t + 1 ≤ differences u v

-- at most one word of the code is near a list
abbrev pub NearIsSingle : Type 0
NearIsSingle = (t : ℕ) (received u v : List ℕ) → IsNear t received u → IsNear t received v → u ≡ v

-- the first 2 t weighted sums of the received list, sum i in place i
abbrev pub AreSums : ℕ → List ℕ → List ℕ → Type 0
AreSums t received sums = (i : ℕ) → i < 2 * t → slice_index sums i ≡ weighted_sum received i

-- the key equation: a locator of degree at most t and an evaluator of degree below t, where the
-- product of the locator and the sums agrees with the evaluator in the places below 2 t
-- (a locator of all 0 meets it too, with an evaluator of all 0)
pub record IsKeyPair (t : ℕ) (sums locator evaluator : List ℕ) : Type 0 where
  pub elements : All IsElement locator
  pub locator_degree : IsBelowDegree (t + 1) locator
  pub evaluator_degree : IsBelowDegree t evaluator
  pub agrees : (i : ℕ) → i < 2 * t → slice_index (product locator sums) i ≡ slice_index evaluator i

-- the locator is 0 at the inverse of alpha^(m - 1 - s) for every place s that the near word changes
abbrev pub LocatorFindsErrors : Type 0
LocatorFindsErrors = (t : ℕ) (received near sums locator evaluator : List ℕ)
    → All IsElement received → IsNear t received near → AreSums t received sums → IsKeyPair t sums locator evaluator
    → (s : ℕ) → s < length received → slice_index received s ≢ slice_index near s
    → value_at locator (inverse (power alpha (length received - 1 - s))) ≡ 0
