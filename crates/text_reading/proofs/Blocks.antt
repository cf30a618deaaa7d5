-- Reading the digits of a block one after the other.
use Rattle.std.proofs.Common.{◌≡◌, ℕ, ◌+◌, ◌-◌, ◌*◌, ◌^◌, ◌<◌, ◌≤◌, true, List, [], ◌∷◌, ◌++◌, length, take, map, get_or, refl, ap, arith}
use Rattle.std.specs.Prelude.{◌&&◌}
use Rattle.std.proofs.Common.{ltb, leb}
use Rattle.std.specs.List.{list_all}
use Rattle.std.proofs.lemmas.Bool.{and_from, le-leb, lt-ltb}
use Rattle.std.proofs.lemmas.List.{take_more, take_all, map_push}
use Rattle.std.proofs.lemmas.List.Folds.{list_all-append}
use Rattle.symbol_base.specs.Block.{number_of}
use Rattle.symbol_base.proofs.BlockLemmas.{number_of-push, next_below, next_fits}
use Rattle.text_reading.specs.Reading.{is_symbol_digit}

pub record HasRead (alphabet : ℕ) (word : List ℕ) (i value : ℕ) : Type 0 where
  pub digits : list_all (is_symbol_digit alphabet) (take i word) ≡ true
  pub number : value ≡ number_of alphabet (map (λ byte. byte - 48) (take i word))
  pub below : value < alphabet ^ i

pub reads_more : (alphabet : ℕ) (word : List ℕ) (i value : ℕ) → i < length word → 48 ≤ get_or word i 0 → get_or word i 0 - 48 < alphabet
    → HasRead alphabet word i value → HasRead alphabet word (i + 1) (value * alphabet + (get_or word i 0 - 48))
reads_more alphabet word i value inside low below so_far =
    let byte : ℕ = get_or word i 0 in
    let more : take (i + 1) word ≡ take i word ++ byte ∷ [] = take_more word i 0 inside in
    let digit : is_symbol_digit alphabet byte ≡ true = and_from (leb 48 byte) (ltb (byte - 48) alphabet) (le-leb 48 byte low) (lt-ltb (byte - 48) alphabet below) in
    record {
      digits = rw (more, list_all-append (is_symbol_digit alphabet) (take i word) (byte ∷ [])) (and_from (list_all (is_symbol_digit alphabet) (take i word)) (is_symbol_digit alphabet byte && true) so_far.digits (and_from (is_symbol_digit alphabet byte) true digit refl));
      number = rw (more, map_push (λ byte. byte - 48) (take i word) byte, number_of-push alphabet (map (λ byte. byte - 48) (take i word)) (byte - 48)) (ap (λ v. v * alphabet + (byte - 48)) so_far.number);
      below = next_below alphabet i value (byte - 48) below so_far.below;
    }

-- one more symbol fits
pub room_for_one : (alphabet : ℕ) (word : List ℕ) (i value : ℕ) → 2 ≤ alphabet → alphabet ≤ 4 → i < length word → length word ≤ 20 → HasRead alphabet word i value → value * alphabet + alphabet ≤ 2 ^ 40
room_for_one alphabet word i value two four inside short so_far = next_fits alphabet i value (omega arith) four (omega arith) so_far.below

-- the whole word is read
pub read_whole : (alphabet : ℕ) (word : List ℕ) (i value : ℕ) → length word ≤ i → HasRead alphabet word i value
    → (list_all (is_symbol_digit alphabet) word ≡ true) × (value ≡ number_of alphabet (map (λ byte. byte - 48) word))
read_whole alphabet word i value all so_far =
    let whole : take i word ≡ word = take_all i word all in
    (rw (← whole) so_far.digits, rw (← whole) so_far.number)
