-- The register as two numbers.
use Rattle.std.proofs.Common.{◌≡◌, ◌≢◌, set, below_more, get_or-set_same, get_or-set_other, ℕ, zero, suc, ◌+◌, ◌-◌, ◌*◌, ◌/◌, ◌%◌, ◌^◌, ◌<◌, ◌≤◌, List, [], ◌∷◌, ◌++◌, length, take, drop, replicate, refl, sym, ◌∙◌, ap, ap₂, arith, subst, get_or, length-append, append_assoc}
use Rattle.std.specs.Prelude.{All, bit_xor}
use Rattle.std.specs.Int.{bytes_high_first, w128, to_be_bytes}
use Rattle.std.proofs.lemmas.List.{drop-drop, drop-append-le, take_more, take_all, take-append-drop, get_or-drop, length-drop}
use Rattle.gf256.specs.Field.{IsElement, plus, times, power, alpha}
use Rattle.gf256.specs.declared.Gf.{Gf}
use Rattle.gf256.specs.Linear.{values, scaled}
use Rattle.gf256.proofs.Lists.{get_or-scaled}
use Rattle.std.proofs.lemmas.List.Elements.{All-append}
use Rattle.rs_code.proofs.Patterns.{all_of}
use Rattle.rs_code.proofs.Locators.{at-sum_of}
use Rattle.rs_code.proofs.Roots.{at_zeros}
use Rattle.gf256.proofs.FieldLaws.{times_cancel_left, times_comm, times_assoc, times-lt, power-lt, alpha-ne-zero, plus_comm, plus-lt, plus-zero, zero-plus, zero-times, times-zero, plus-times, power-add}
use Rattle.rs_code.specs.Word.{weighted_sum}
use Rattle.rs_code.specs.Polynomial.{sum_of, IsBelowDegree}
use Rattle.rs_code.specs.inside.Register.{register, IsGenerator, AreRows, IsRest, row_place, narrow_step, wide_step, wide_step_behind}
use Rattle.rs_code.proofs.Moments.{AreZero}
use Rattle.rs_code.proofs.PointTables.{halves}
use Rattle.rs_code.proofs.Steps.{values-take, values-drop, bit_xor-plus, weighted_sum-AreZero, zeros_replicate}
use Rattle.rs_code.proofs.Encoding.{fed, weighted_sum-append, weighted_sum-fed, remainder_more}
use Rattle.rs_code.proofs.Bytes.{length-bytes, bytes-zero, bytes-xor, bytes-shl, bytes-byte, sum_of-push, Elements-bytes}

together : (n m i : ℕ) → n + m ≡ 32 → n * i + m * i ≡ 32 * i
together n m i e = let sum : (n + m) * i ≡ n * i + m * i = omega arith in sym sum ∙ ap (λ k. k * i) e

pub all_zero : (xs : List ℕ) → ((k : ℕ) → get_or xs k 0 ≡ 0) → AreZero xs
all_zero [] zeros = tt
all_zero (x ∷ xs) zeros = (zeros 0, all_zero xs (λ k. zeros (suc k)))

-- ---- the generator

-- zeros behind the generator are a power of x times it
pub padded_generator : (t : ℕ) (g : List ℕ) → t ≤ 16 → length g ≡ 32 → IsBelowDegree (2 * t) g
    → ((i : ℕ) → i < 2 * t → weighted_sum (take (2 * t) g) i ≡ power alpha (2 * t * i))
    → IsGenerator t g
padded_generator t g small full behind roots = record {
  full = full;
  behind = behind;
  roots = λ i h.
      let n : ℕ = 2 * t in
      let rest : List ℕ = drop n g in
      let rest_long : length rest ≡ 32 - n = length-drop n g ∙ ap (λ m. m - n) full in
      let whole : n * i + length rest * i ≡ 32 * i = together n (length rest) i (omega (arith, rest_long, small)) in
      ap (λ xs. weighted_sum xs i) (sym (take-append-drop n g))
      ∙ weighted_sum-append (take n g) rest i
      ∙ ap₂ (λ u v. plus (times u (power alpha (length rest * i))) v) (roots i h)
      (weighted_sum-AreZero rest i (all_zero rest (λ k. get_or-drop n g k 0 ∙ behind (n + k) (omega arith))))
      ∙ plus-zero (times (power alpha (n * i)) (power alpha (length rest * i)))
      ∙ sym (power-add alpha (n * i) (length rest * i)) ∙ ap (power alpha) whole;
}

-- ---- a symbol is fed

pub sum_of-append : (a b c d : List ℕ) → length a ≡ length c → sum_of (a ++ b) (c ++ d) ≡ sum_of a c ++ sum_of b d
sum_of-append [] b [] d same = refl
sum_of-append [] b (y ∷ c) d same = absurd (omega (arith, same))
sum_of-append (x ∷ a) b [] d same = absurd (omega (arith, same))
sum_of-append (x ∷ a) b (y ∷ c) d same = ap (λ r. plus x y ∷ r) (sum_of-append a b c d (omega (arith, same)))

pub sum_of-zeros : (n : ℕ) (xs : List ℕ) → length xs ≡ n → sum_of xs (replicate n 0) ≡ xs
sum_of-zeros zero [] long = refl
sum_of-zeros zero (x ∷ xs) long = absurd (omega (arith, long))
sum_of-zeros (suc n) [] long = absurd (omega (arith, long))
sum_of-zeros (suc n) (x ∷ xs) long = ap₂ (λ y ys. y ∷ ys) (plus-zero x) (sum_of-zeros n xs (omega (arith, long)))

pub zero_list : (xs : List ℕ) → ((k : ℕ) → get_or xs k 0 ≡ 0) → xs ≡ replicate (length xs) 0
zero_list [] zeros = refl
zero_list (x ∷ xs) zeros = ap₂ (λ y ys. y ∷ ys) (zeros 0) (zero_list xs (λ k. zeros (suc k)))

-- a number one byte up, and another added
shifted_up : (n m : ℕ) → bytes_high_first 16 (bit_xor ((n * 2 ^ 8) % 2 ^ 128) m) ≡ sum_of (bytes_high_first 15 n ++ 0 ∷ []) (bytes_high_first 16 m)
shifted_up n m = bytes-xor 16 ((n * 2 ^ 8) % 2 ^ 128) m ∙ ap (λ bs. sum_of bs (bytes_high_first 16 m)) (bytes-shl n)

-- a number one byte up, and a byte behind it
pub byte_in : (n b : ℕ) → b < 256 → bytes_high_first 16 (bit_xor ((n * 2 ^ 8) % 2 ^ 128) b) ≡ bytes_high_first 15 n ++ b ∷ []
byte_in n b small =
    shifted_up n b
    ∙ ap (sum_of (bytes_high_first 15 n ++ 0 ∷ [])) (bytes-byte b small)
    ∙ sum_of-push (bytes_high_first 15 n) (bytes_high_first 15 0) 0 b (length-bytes 15 n ∙ sym (length-bytes 15 0))
    ∙ ap₂ (λ bs c. bs ++ c ∷ [])
    (ap (sum_of (bytes_high_first 15 n)) (bytes-zero 15) ∙ sum_of-zeros 15 (bytes_high_first 15 n) (length-bytes 15 n)) (zero-plus b)

take_whole : (g : List ℕ) → length g ≡ 32 → take 32 g ≡ g
take_whole g full = take_all 32 g (omega (arith, full))

pub narrow_fed : (h row f : ℕ) (g : List ℕ) → length g ≡ 32 → register row 0 ≡ scaled f g
    → register (bit_xor ((h * 2 ^ 8) % 2 ^ 128) row) 0 ≡ fed f g (register h 0)
narrow_fed h row f g full is_row =
    let front : List ℕ = bytes_high_first 15 h ++ 0 ∷ [] in
    let zeros : List ℕ = bytes_high_first 16 0 in
    let long : length front ≡ length (bytes_high_first 16 row) = refl in
    ap (λ bs. bs ++ zeros) (shifted_up h row)
    ∙ ap (λ bs. sum_of front (bytes_high_first 16 row) ++ bs) (sym (sum_of-zeros 16 zeros refl))
    ∙ sym (sum_of-append front zeros (bytes_high_first 16 row) zeros long)
    ∙ ap (sum_of (front ++ zeros)) (is_row ∙ ap (scaled f) (sym (take_whole g full)))

pub wide_fed : (h l row behind f : ℕ) (g : List ℕ) → length g ≡ 32 → register row behind ≡ scaled f g
    → register (bit_xor (bit_xor ((h * 2 ^ 8) % 2 ^ 128) (l / 2 ^ 120 % 256)) row) (bit_xor ((l * 2 ^ 8) % 2 ^ 128) behind) ≡ fed f g (register h l)
wide_fed h l row behind f g full is_row =
    let c : ℕ = l / 2 ^ 120 % 256 in
    let front : List ℕ = bytes_high_first 15 h ++ c ∷ [] in
    let back : List ℕ = bytes_high_first 15 l ++ 0 ∷ [] in
    ap₂ (λ a b. a ++ b)
    (bytes-xor 16 (bit_xor ((h * 2 ^ 8) % 2 ^ 128) c) row ∙ ap (λ bs. sum_of bs (bytes_high_first 16 row)) (byte_in h c (omega arith)))
    (shifted_up l behind)
    ∙ sym (sum_of-append front back (bytes_high_first 16 row) (bytes_high_first 16 behind) refl)
    ∙ ap (sum_of (front ++ back)) (is_row ∙ ap (scaled f) (sym (take_whole g full)))

-- where the second half is 0, so is the second number
pub narrow_list : (high low : ℕ) (xs : List ℕ) → IsBelowDegree 16 xs → register high low ≡ xs → register high 0 ≡ xs
narrow_list high low xs behind is =
    ap (λ bs. bytes_high_first 16 high ++ bs) (sym none) ∙ is
  where
    none : bytes_high_first 16 low ≡ bytes_high_first 16 0
    none =
        zero_list (bytes_high_first 16 low)
        (λ k. get_or-drop 16 (register high low) k 0 ∙ ap (λ ys. get_or ys (16 + k) 0) is ∙ behind (16 + k) (omega arith))

-- up to t = 8 the second number of a row is 0
pub narrow_row : (t high low f : ℕ) (g : List ℕ) → t ≤ 8 → IsBelowDegree (2 * t) g → register high low ≡ scaled f g → register high 0 ≡ scaled f g
narrow_row t high low f g small behind is_row =
    narrow_list high low (scaled f g)
    (λ k past. get_or-scaled f g k ∙ ap (times f) (behind k (omega (arith, small, past))) ∙ times-zero f) is_row

pub at_push : (xs : List ℕ) (k : ℕ) → get_or (xs ++ 0 ∷ []) k 0 ≡ get_or xs k 0
at_push [] zero = refl
at_push [] (suc k) = refl
at_push (x ∷ xs) zero = refl
at_push (x ∷ xs) (suc k) = at_push xs k

pub all_register : (h l : ℕ) → All IsElement (register h l)
all_register h l = All-append IsElement (bytes_high_first 16 h) (bytes_high_first 16 l) (all_of (bytes_high_first 16 h) (Elements-bytes 16 h)) (all_of (bytes_high_first 16 l) (Elements-bytes 16 l))

pub rest_none : (t : ℕ) (symbols : List ℕ) → IsRest t (take 0 symbols) (register 0 0)
rest_none t symbols = record {
  full = refl;
  elements = all_register 0 0;
  behind = λ k h. at_zeros (register 0 0) k (zeros_replicate 32);
  sums = λ i h. weighted_sum-AreZero (register 0 0) i (zeros_replicate 32) ∙ sym (zero-times (power alpha (32 * i)));
}

-- registers of 0 side by side
pub rest_none_at : (t : ℕ) (symbols : List ℕ) (v : ℕ) → IsRest t (take 0 symbols) (register (get_or (replicate 16 0) v 0) 0)
rest_none_at t symbols v =
    subst (λ n. IsRest t (take 0 symbols) (register n 0)) (sym (at_zeros (replicate 16 0) v (zeros_replicate 16))) (rest_none t symbols)

pub rest_none_both : (t : ℕ) (symbols : List ℕ) (v : ℕ) → IsRest t (take 0 symbols) (register (get_or (replicate 16 0) v 0) (get_or (replicate 16 0) v 0))
rest_none_both t symbols v =
    subst (λ n. IsRest t (take 0 symbols) (register n n)) (sym (at_zeros (replicate 16 0) v (zeros_replicate 16))) (rest_none t symbols)

-- a further symbol
pub rest_more : (t : ℕ) (g symbols before : List ℕ) (k h l : ℕ) → IsGenerator t g → IsRest t (take k symbols) before → k < length symbols
    → IsElement (get_or symbols k 0)
    → register h l ≡ fed (plus (get_or symbols k 0) (get_or before 0 0)) g before
    → IsRest t (take (k + 1) symbols) (register h l)
rest_more t g symbols before k h l generates rest within symbol_in is_fed =
    let symbol : ℕ = get_or symbols k 0 in
    let f : ℕ = plus symbol (get_or before 0 0) in
    let some : 1 ≤ length before = omega (arith, rest.full) in
    let enough : length before ≤ length g = omega (arith, rest.full, generates.full) in
    record {
      full = refl;
      elements = all_register h l;
      behind = λ j past.
          ap (λ xs. get_or xs j 0) is_fed
          ∙ at-sum_of (drop 1 before ++ 0 ∷ []) (scaled f (take (length before) g)) j
          ∙ ap₂ (λ u v. plus u v)
          (at_push (drop 1 before) j ∙ get_or-drop 1 before j 0 ∙ rest.behind (1 + j) (omega (arith, past)))
          (get_or-scaled f (take (length before) g) j
          ∙ ap (times f) (ap (λ xs. get_or xs j 0) (take_all (length before) g (omega (arith, rest.full, generates.full))) ∙ generates.behind j past)
          ∙ times-zero f)
          ∙ plus-zero 0;
      sums = λ i below.
          remainder_more symbols (register h l) before 32 k i within symbol_in (rest.sums i below)
          (ap (λ xs. weighted_sum xs i) is_fed
          ∙ subst (λ n. weighted_sum (fed f g before) i ≡ plus (times (weighted_sum before i) (power alpha i)) (times symbol (power alpha (n * i)))) rest.full
          (weighted_sum-fed symbol g before i some enough
          (ap (λ xs. weighted_sum xs i) (take_all (length before) g (omega (arith, rest.full, generates.full)))
          ∙ generates.roots i below ∙ ap (λ n. power alpha (n * i)) (sym rest.full))));
    }

-- the place of the row is below 256, and is the symbol that leaves the register, added to the one that comes
pub place_is : (n symbol : ℕ) → IsElement symbol → (row_place n symbol < 256) × (row_place n symbol ≡ plus symbol (n / 2 ^ 120 % 256))
place_is n symbol symbol_in =
    let top : ℕ = n / 2 ^ 120 % 256 in
    let small : top < 256 = omega arith in (
      subst (λ v. v < 256) (sym (bit_xor-plus top symbol)) (plus-lt top symbol small symbol_in),
      bit_xor-plus top symbol ∙ plus_comm top symbol,
    )

pub narrow_more : (t : ℕ) (high low symbols : List ℕ) (k n symbol : ℕ) → t ≤ 8 → AreRows t high low → k < length symbols
    → symbol ≡ get_or symbols k 0 → IsElement (get_or symbols k 0) → IsRest t (take k symbols) (register n 0)
    → IsRest t (take (k + 1) symbols) (register (narrow_step high n symbol) 0)
narrow_more t high low symbols k n symbol small rows within symbol_is symbol_in before =
    let g : List ℕ = rows.generator in
    let f : ℕ = row_place n symbol in
    let place = place_is n symbol (subst IsElement (sym symbol_is) symbol_in) in
    rest_more t g symbols (register n 0) k (narrow_step high n symbol) 0 rows.is_generator before within symbol_in
    (narrow_fed n (get_or high f 0) f g rows.is_generator.full
    (narrow_row t (get_or high f 0) (get_or low f 0) f g small rows.is_generator.behind (rows.rows f place.0))
    ∙ ap (λ v. fed v g (register n 0)) (place.1 ∙ ap (λ s. plus s (n / 2 ^ 120 % 256)) symbol_is))

pub wide_more : (t : ℕ) (high low symbols : List ℕ) (k n m symbol : ℕ) → AreRows t high low → k < length symbols
    → symbol ≡ get_or symbols k 0 → IsElement (get_or symbols k 0) → IsRest t (take k symbols) (register n m)
    → IsRest t (take (k + 1) symbols) (register (wide_step high n m symbol) (wide_step_behind low n m symbol))
wide_more t high low symbols k n m symbol rows within symbol_is symbol_in before =
    let g : List ℕ = rows.generator in
    let f : ℕ = row_place n symbol in
    let place = place_is n symbol (subst IsElement (sym symbol_is) symbol_in) in
    rest_more t g symbols (register n m) k (wide_step high n m symbol) (wide_step_behind low n m symbol) rows.is_generator before within symbol_in
    (wide_fed n m (get_or high f 0) (get_or low f 0) f g rows.is_generator.full (rows.rows f place.0)
    ∙ ap (λ v. fed v g (register n m)) (place.1 ∙ ap (λ s. plus s (n / 2 ^ 120 % 256)) symbol_is))

-- ---- the check symbols

weighted_sum-lt : (word : List ℕ) (i : ℕ) → IsElement (weighted_sum word i)
weighted_sum-lt [] i = omega arith
weighted_sum-lt (symbol ∷ rest) i =
    plus-lt (times symbol (power alpha (length rest * i))) (weighted_sum rest i) (times-lt symbol (power alpha (length rest * i))) (weighted_sum-lt rest i)

-- without the zeros behind them, the check symbols have the values of the symbols times x^(2 t)
pub check_sums : (t : ℕ) (symbols rest : List ℕ) → t ≤ 16 → IsRest t symbols rest → (i : ℕ) → i < 2 * t
    → weighted_sum (take (2 * t) rest) i ≡ times (weighted_sum symbols i) (power alpha (2 * t * i))
check_sums t symbols rest small is_rest i h =
    let n : ℕ = 2 * t in
    let back : List ℕ = drop n rest in
    let back_long : length back ≡ 32 - n = length-drop n rest ∙ ap (λ m. m - n) is_rest.full in
    let P : ℕ = power alpha (length back * i) in
    let front : times (weighted_sum (take n rest) i) P ≡ weighted_sum rest i =
    sym (plus-zero (times (weighted_sum (take n rest) i) P))
    ∙ ap (plus (times (weighted_sum (take n rest) i) P))
    (sym (weighted_sum-AreZero back i (all_zero back (λ k. get_or-drop n rest k 0 ∙ is_rest.behind (n + k) (omega arith)))))
    ∙ sym (weighted_sum-append (take n rest) back i) ∙ ap (λ xs. weighted_sum xs i) (take-append-drop n rest) in
    let whole : power alpha (32 * i) ≡ times (power alpha (n * i)) P =
    ap (power alpha) (sym (together n (length back) i (omega (arith, back_long, small)))) ∙ power-add alpha (n * i) (length back * i) in
    times_cancel_left P (weighted_sum (take n rest) i) (times (weighted_sum symbols i) (power alpha (n * i)))
    (power-lt alpha (length back * i)) (alpha-ne-zero (length back * i)) (weighted_sum-lt (take n rest) i)
    (times-lt (weighted_sum symbols i) (power alpha (n * i)))
    (times_comm P (weighted_sum (take n rest) i) ∙ front ∙ is_rest.sums i h ∙ ap (times (weighted_sum symbols i)) whole
    ∙ sym (times_assoc (weighted_sum symbols i) (power alpha (n * i)) P)
    ∙ times_comm (times (weighted_sum symbols i) (power alpha (n * i))) P)

-- ---- the table

-- a further symbol is packed behind the others
pub packed_more : (symbols : List ℕ) (k n s : ℕ) → k < length symbols → k < 16 → s ≡ get_or symbols k 0 → s < 256
    → bytes_high_first 16 n ≡ drop k (replicate 16 0 ++ take k symbols)
    → bytes_high_first 16 (bit_xor ((n * 2 ^ 8) % 2 ^ 128) s) ≡ drop (k + 1) (replicate 16 0 ++ take (k + 1) symbols)
packed_more symbols k n s within few symbol_is small before =
    let so_far : List ℕ = replicate 16 0 ++ take k symbols in
    let long : k + 1 ≤ length so_far = omega (arith, few, length-append (replicate 16 0) (take k symbols)) in
    byte_in n s small
    ∙ ap (λ bs. drop 1 bs ++ s ∷ []) before
    ∙ ap (λ bs. bs ++ s ∷ []) (drop-drop 1 k so_far)
    ∙ sym (drop-append-le (k + 1) so_far (s ∷ []) long)
    ∙ ap (drop (k + 1))
    (append_assoc (replicate 16 0) (take k symbols) (s ∷ [])
    ∙ ap (λ bs. replicate 16 0 ++ bs) (ap (λ v. take k symbols ++ v ∷ []) symbol_is ∙ sym (take_more symbols k 0 within)))

-- the two halves of a row
pub packed_row : (row : List Gf) (high low : ℕ) → length row ≡ 32 → to_be_bytes w128 high ≡ values (take 16 row)
    → to_be_bytes w128 low ≡ values (take 16 (drop 16 row))
    → register high low ≡ values row
packed_row row high low full front back =
    ap₂ (λ a b. a ++ b) (front ∙ values-take 16 row)
    (back ∙ ap values (take_all 16 (drop 16 row) (omega (arith, full, length-drop 16 row))) ∙ values-drop 16 row)
    ∙ take-append-drop 16 (values row)

-- the sum of two multiples
sum_of-scaled : (x y : ℕ) (g : List ℕ) → sum_of (scaled x g) (scaled y g) ≡ scaled (plus x y) g
sum_of-scaled x y [] = refl
sum_of-scaled x y (v ∷ g) = ap₂ (λ w ws. w ∷ ws) (sym (plus-times x y v)) (sum_of-scaled x y g)

-- a row is the sum of those of the two halves of its factor
pub row_of_halves : (f high low upper_high upper_low : ℕ) (g : List ℕ) → f < 256 → register high low ≡ scaled (1 * (f % 16)) g
    → register upper_high upper_low ≡ scaled (16 * (f / 16)) g
    → register (bit_xor high upper_high) (bit_xor low upper_low) ≡ scaled f g
row_of_halves f high low upper_high upper_low g small lower upper =
    ap₂ (λ a b. a ++ b) (bytes-xor 16 high upper_high) (bytes-xor 16 low upper_low)
    ∙ sym (sum_of-append (bytes_high_first 16 high) (bytes_high_first 16 low) (bytes_high_first 16 upper_high) (bytes_high_first 16 upper_low) refl)
    ∙ ap₂ sum_of lower upper ∙ sum_of-scaled (1 * (f % 16)) (16 * (f / 16)) g ∙ ap (λ v. scaled v g) (halves f small)

-- a further row of the table
pub rows_more : (high low : List ℕ) (row : ℕ → List ℕ) (f first second : ℕ) → f < length high → f < length low
    → ((k : ℕ) → k < f → register (get_or high k 0) (get_or low k 0) ≡ row k) → register first second ≡ row f
    → (k : ℕ) → k < f + 1 → register (get_or (set high f first) k 0) (get_or (set low f second) k 0) ≡ row k
rows_more high low row f first second in_high in_low before here =
    below_more _ _
    (λ k h. let ne : k ≢ f = omega arith in
    ap₂ register (get_or-set_other high f k first 0 ne) (get_or-set_other low f k second 0 ne) ∙ before k h)
    (ap₂ register (get_or-set_same high f first 0 in_high) (get_or-set_same low f second 0 in_low) ∙ here)
