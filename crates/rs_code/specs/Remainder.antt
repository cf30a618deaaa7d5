-- The remainder of a word's polynomial by the generator polynomial, whose roots are alpha^0 to alpha^(2 t - 1).
use Rattle.std.specs.Prelude.{◌≡◌, ℕ, ◌*◌, ◌<◌, ◌≤◌, ◌↔◌, List, length, slice_index, All}
use Rattle.gf256.specs.Field.{IsElement}
use Rattle.rs_code.specs.Word.{weighted_sum, IsReedSolomonWord}

-- 2 t symbols with the first 2 t weighted sums of the word: of lower degree than the generator polynomial,
-- with the values of the word at its roots
pub record IsRemainder (t : ℕ) (word rest : List ℕ) : Type 0 where
  pub full : length rest ≡ 2 * t
  pub elements : All IsElement rest
  pub same_sums : (i : ℕ) → i < 2 * t → weighted_sum rest i ≡ weighted_sum word i

-- a word of at most 255 symbols is one of the code exactly where its remainder is 0
abbrev pub RemainderTellsMembers : Type 0
RemainderTellsMembers = (t : ℕ) (word rest : List ℕ) → 2 * t ≤ 255 → length word ≤ 255 → All IsElement word → IsRemainder t word rest
    → (IsReedSolomonWord t word ↔ ((k : ℕ) → slice_index rest k ≡ 0))

-- there is one remainder
abbrev pub RemainderIsSingle : Type 0
RemainderIsSingle = (t : ℕ) (word u v : List ℕ) → 2 * t ≤ 255 → IsRemainder t word u → IsRemainder t word v → u ≡ v
