-- The register that divides by the generator polynomial, and the table of the generator's multiples.
use Rattle.std.specs.Prelude.{◌≡◌, ℕ, ◌*◌, ◌/◌, ◌%◌, ◌^◌, ◌<◌, ◌≤◌, bit_xor, List, ◌++◌, length, slice_index, All}
use Rattle.std.specs.Int.{w128, to_be_bytes}
use Rattle.gf256.specs.Field.{IsElement, times, power, alpha}
use Rattle.gf256.specs.Linear.{scaled}
use Rattle.rs_code.specs.Word.{weighted_sum}
use Rattle.rs_code.specs.Polynomial.{IsBelowDegree}

-- the 32 symbols in two numbers
abbrev pub register : ℕ → ℕ → List ℕ
register high low = to_be_bytes w128 high ++ to_be_bytes w128 low

-- x^32 + g(x), where g has the coefficients of x^31 and down, is a multiple of the generator by a power of x
pub record IsGenerator (t : ℕ) (g : List ℕ) : Type 0 where
  pub full : length g ≡ 32
  pub behind : IsBelowDegree (2 * t) g
  pub roots : (i : ℕ) → i < 2 * t → weighted_sum g i ≡ power alpha (32 * i)

-- the rows of a table are the multiples of such a generator
pub record AreRows (t : ℕ) (high low : List ℕ) : Type 0 where
  pub least : 1 ≤ t
  pub most : t ≤ 16
  pub generator : List ℕ
  pub is_generator : IsGenerator t generator
  pub rows : (f : ℕ) → f < 256 → register (slice_index high f) (slice_index low f) ≡ scaled f generator

-- the 2 t check symbols of some symbols, and zeros behind them: times x^32, the symbols have the same
-- values at the roots of the generator
pub record IsRest (t : ℕ) (symbols rest : List ℕ) : Type 0 where
  pub full : length rest ≡ 32
  pub elements : All IsElement rest
  pub behind : IsBelowDegree (2 * t) rest
  pub sums : (i : ℕ) → i < 2 * t → weighted_sum rest i ≡ times (weighted_sum symbols i) (power alpha (32 * i))

-- the place of the row that a register and a symbol take
abbrev pub row_place : ℕ → ℕ → ℕ
row_place n symbol = bit_xor (n / 2 ^ 120 % 256) symbol

-- one symbol fed to a register of 16 symbols, and to one of 32
abbrev pub narrow_step : List ℕ → ℕ → ℕ → ℕ
narrow_step rows n symbol = bit_xor ((n * 2 ^ 8) % 2 ^ 128) (slice_index rows (row_place n symbol))

abbrev pub wide_step : List ℕ → ℕ → ℕ → ℕ → ℕ
wide_step rows n m symbol = bit_xor (bit_xor ((n * 2 ^ 8) % 2 ^ 128) (m / 2 ^ 120 % 256)) (slice_index rows (row_place n symbol))

abbrev pub wide_step_behind : List ℕ → ℕ → ℕ → ℕ → ℕ
wide_step_behind rows n m symbol = bit_xor ((m * 2 ^ 8) % 2 ^ 128) (slice_index rows (row_place n symbol))

-- the rows once the symbol 0 has been fed behind them
pub record AreFarRows (high low far_high far_low : List ℕ) : Type 0 where
  pub front : (f : ℕ) → f < 256 → slice_index far_high f ≡ wide_step high (slice_index high f) (slice_index low f) 0
  pub back : (f : ℕ) → f < 256 → slice_index far_low f ≡ wide_step_behind low (slice_index high f) (slice_index low f) 0
