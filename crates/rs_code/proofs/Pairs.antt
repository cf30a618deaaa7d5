-- Two symbols fed to the register at once.
use Rattle.std.proofs.Common.{◌≡◌, ◌∙◌, ℕ, zero, suc, ◌+◌, ◌*◌, ◌/◌, ◌%◌, ◌^◌, ◌<◌, ◌≤◌, List, [], ◌∷◌, ◌++◌, length, drop, take, refl, sym, ap, ap₂, arith, subst, get_or, length-append}
use Rattle.std.specs.Prelude.{bit_xor}
use Rattle.std.specs.Int.{bytes_high_first}
use Rattle.std.proofs.lemmas.List.{take_all, get_or-drop, length-drop, length-map, ext_get_or}
use Rattle.gf256.specs.Field.{IsElement, plus, times}
use Rattle.gf256.specs.Linear.{scaled}
use Rattle.gf256.proofs.Lists.{get_or-scaled}
use Rattle.gf256.proofs.FieldLaws.{plus_comm, plus_assoc, plus-lt, zero-plus, times-zero, plus-times}
use Rattle.rs_code.specs.Polynomial.{sum_of, IsBelowDegree}
use Rattle.rs_code.specs.inside.Register.{register, AreRows, AreFarRows, IsRest, row_place, narrow_step, wide_step, wide_step_behind}
use Rattle.rs_code.proofs.Words.{length-sum_of}
use Rattle.rs_code.proofs.Locators.{at-sum_of}
use Rattle.rs_code.proofs.Steps.{bit_xor-plus}
use Rattle.rs_code.proofs.Encoding.{fed, length-fed}
use Rattle.rs_code.proofs.Bytes.{bytes-last, length-bytes, bytes-zero, bytes-xor, bytes-shl}
use Rattle.rs_code.proofs.Registers.{sum_of-append, sum_of-zeros, at_push, place_is, narrow_list, narrow_row, narrow_fed, wide_fed, rest_more, narrow_more, wide_more}

-- ---- the bytes

-- two bytes up, the top ones lost
bytes-shl_two : (n : ℕ) → bytes_high_first 16 ((n * 2 ^ 16) % 2 ^ 128) ≡ bytes_high_first 14 n ++ 0 ∷ 0 ∷ []
bytes-shl_two n =
    let m : ℕ = (n * 2 ^ 8) % 2 ^ 128 in
    let same : (n * 2 ^ 16) % 2 ^ 128 ≡ (m * 2 ^ 8) % 2 ^ 128 = omega arith in
    ap (bytes_high_first 16) same ∙ bytes-shl m ∙ ap (λ bs. drop 1 bs ++ 0 ∷ []) (bytes-shl n)

two_up : (n m : ℕ) → bytes_high_first 16 (bit_xor ((n * 2 ^ 16) % 2 ^ 128) m) ≡ sum_of (bytes_high_first 14 n ++ 0 ∷ 0 ∷ []) (bytes_high_first 16 m)
two_up n m = bytes-xor 16 ((n * 2 ^ 16) % 2 ^ 128) m ∙ ap (λ bs. sum_of bs (bytes_high_first 16 m)) (bytes-shl_two n)

-- two bytes alone
bytes-two : (b : ℕ) → b < 65536 → bytes_high_first 16 b ≡ bytes_high_first 14 0 ++ b / 256 ∷ b % 256 ∷ []
bytes-two b small =
    let none : b / 256 / 256 ≡ 0 = omega (arith, small) in
    let all : b / 256 % 256 ≡ b / 256 = omega (arith, small) in
    bytes-last 15 b
    ∙ ap (λ bs. bs ++ b % 256 ∷ []) (bytes-last 14 (b / 256) ∙ ap₂ (λ v c. bytes_high_first 14 v ++ c ∷ []) none all)

-- a number two bytes up, and two bytes behind it
two_in : (n b : ℕ) → b < 65536 → bytes_high_first 16 (bit_xor ((n * 2 ^ 16) % 2 ^ 128) b) ≡ bytes_high_first 14 n ++ b / 256 ∷ b % 256 ∷ []
two_in n b small =
    two_up n b
    ∙ ap (sum_of (bytes_high_first 14 n ++ 0 ∷ 0 ∷ [])) (bytes-two b small)
    ∙ sum_of-append (bytes_high_first 14 n) (0 ∷ 0 ∷ []) (bytes_high_first 14 0) (b / 256 ∷ b % 256 ∷ []) refl
    ∙ ap₂ (λ bs cs. bs ++ cs)
    (ap (sum_of (bytes_high_first 14 n)) (bytes-zero 14) ∙ sum_of-zeros 14 (bytes_high_first 14 n) (length-bytes 14 n))
    (ap₂ (λ x y. x ∷ y ∷ []) (zero-plus (b / 256)) (zero-plus (b % 256)))

-- the register two places on, with two rows added
abbrev pub moved : List ℕ → List ℕ → List ℕ → List ℕ
moved symbols far near = sum_of (sum_of (drop 2 symbols ++ 0 ∷ 0 ∷ []) far) near

narrow_moved : (n far near : ℕ)
    → register (bit_xor (bit_xor ((n * 2 ^ 16) % 2 ^ 128) far) near) 0 ≡ moved (register n 0) (register far 0) (register near 0)
narrow_moved n far near =
    let front : List ℕ = bytes_high_first 14 n ++ 0 ∷ 0 ∷ [] in
    let zeros : List ℕ = bytes_high_first 16 0 in
    let F : List ℕ = bytes_high_first 16 far in
    let N : List ℕ = bytes_high_first 16 near in
    ap (λ bs. bs ++ zeros) (bytes-xor 16 (bit_xor ((n * 2 ^ 16) % 2 ^ 128) far) near ∙ ap (λ bs. sum_of bs N) (two_up n far))
    ∙ ap (λ bs. sum_of (sum_of front F) N ++ bs) (sym (ap (λ bs. sum_of bs zeros) (sum_of-zeros 16 zeros refl) ∙ sum_of-zeros 16 zeros refl))
    ∙ sym (sum_of-append (sum_of front F) (sum_of zeros zeros) N zeros refl)
    ∙ ap (λ bs. sum_of bs (N ++ zeros)) (sym (sum_of-append front zeros F zeros refl))

wide_moved : (n m far near far_low near_low : ℕ) → m < 2 ^ 128
    → register (bit_xor (bit_xor (bit_xor ((n * 2 ^ 16) % 2 ^ 128) (m / 2 ^ 112)) far) near) (bit_xor (bit_xor ((m * 2 ^ 16) % 2 ^ 128) far_low) near_low)
    ≡ moved (register n m) (register far far_low) (register near near_low)
wide_moved n m far near far_low near_low m_in =
    let c : ℕ = m / 2 ^ 112 in
    let front : List ℕ = bytes_high_first 14 n ++ c / 256 ∷ c % 256 ∷ [] in
    let back : List ℕ = bytes_high_first 14 m ++ 0 ∷ 0 ∷ [] in
    let F : List ℕ = bytes_high_first 16 far in
    let N : List ℕ = bytes_high_first 16 near in
    let FL : List ℕ = bytes_high_first 16 far_low in
    let NL : List ℕ = bytes_high_first 16 near_low in
    let top : c / 256 ≡ m / 2 ^ 120 % 256 = omega (arith, m_in) in
    ap₂ (λ a b. a ++ b)
    (bytes-xor 16 (bit_xor (bit_xor ((n * 2 ^ 16) % 2 ^ 128) c) far) near
    ∙ ap (λ bs. sum_of bs N) (bytes-xor 16 (bit_xor ((n * 2 ^ 16) % 2 ^ 128) c) far ∙ ap (λ bs. sum_of bs F) (two_in n c (omega (arith, m_in)))))
    (bytes-xor 16 (bit_xor ((m * 2 ^ 16) % 2 ^ 128) far_low) near_low ∙ ap (λ bs. sum_of bs NL) (two_up m far_low))
    ∙ sym (sum_of-append (sum_of front F) (sum_of back FL) N NL refl)
    ∙ ap (λ bs. sum_of bs (N ++ NL)) (sym (sum_of-append front back F FL refl))
    ∙ ap (λ v. sum_of (sum_of ((bytes_high_first 14 n ++ v ∷ c % 256 ∷ []) ++ back) (F ++ FL)) (N ++ NL)) top

-- ---- the symbols

at_fed : (f : ℕ) (g symbols : List ℕ) (k : ℕ) → length symbols ≡ length g
    → get_or (fed f g symbols) k 0 ≡ plus (get_or symbols (1 + k) 0) (times f (get_or g k 0))
at_fed f g symbols k same =
    at-sum_of (drop 1 symbols ++ 0 ∷ []) (scaled f (take (length symbols) g)) k
    ∙ ap₂ (λ u v. plus u v) (at_push (drop 1 symbols) k ∙ get_or-drop 1 symbols k 0)
    (get_or-scaled f (take (length symbols) g) k
    ∙ ap (λ xs. times f (get_or xs k 0)) (take_all (length symbols) g (omega (arith, same))))

regrouped : (u v w s G : ℕ) → plus (plus u (plus v (times w G))) (times s G) ≡ plus (plus u v) (times (plus s w) G)
regrouped u v w s G =
    ap (λ a. plus a (times s G)) (sym (plus_assoc u v (times w G)))
    ∙ plus_assoc (plus u v) (times w G) (times s G)
    ∙ ap (plus (plus u v)) (plus_comm (times w G) (times s G) ∙ sym (plus-times s w G))

at_two_zeros : (xs : List ℕ) (k : ℕ) → get_or (xs ++ 0 ∷ 0 ∷ []) k 0 ≡ get_or xs k 0
at_two_zeros [] k = at_push (0 ∷ []) k ∙ at_push [] k
at_two_zeros (x ∷ xs) zero = refl
at_two_zeros (x ∷ xs) (suc k) = at_two_zeros xs k

-- what a row comes to behind which 0 is fed
abbrev pub far_row : ℕ → List ℕ → List ℕ
far_row f g = fed (get_or (scaled f g) 0 0) g (scaled f g)

-- two symbols one after the other
pair_fed : (f b : ℕ) (g symbols : List ℕ) → length g ≡ 32 → length symbols ≡ 32
    → moved symbols (far_row f g) (scaled (plus b (get_or symbols 1 0)) g) ≡ fed (plus b (get_or (fed f g symbols) 0 0)) g (fed f g symbols)
pair_fed f b g symbols full long =
    let multiple : List ℕ = scaled f g in
    let once : List ℕ = fed f g symbols in
    let s : ℕ = plus b (get_or symbols 1 0) in
    let w : ℕ = times f (get_or g 0 0) in
    let far : List ℕ = far_row f g in
    let rest : List ℕ = drop 2 symbols ++ 0 ∷ 0 ∷ [] in
    let multiple_long : length multiple ≡ 32 = length-map g (times f) ∙ full in
    let near_long : length (scaled s g) ≡ 32 = length-map g (times s) ∙ full in
    let once_long : length once ≡ 32 = length-fed f g symbols (omega (arith, long)) (omega (arith, long, full)) ∙ long in
    let far_long : length far ≡ 32 =
    length-fed (get_or multiple 0 0) g multiple (omega (arith, multiple_long)) (omega (arith, multiple_long, full)) ∙ multiple_long in
    let rest_long : length rest ≡ 32 = length-append (drop 2 symbols) (0 ∷ 0 ∷ []) ∙ omega (arith, length-drop 2 symbols, long) in
    let both_long : length (sum_of rest far) ≡ 32 = length-sum_of rest far (rest_long ∙ sym far_long) ∙ rest_long in
    let left_long : length (moved symbols far (scaled s g)) ≡ 32 =
    length-sum_of (sum_of rest far) (scaled s g) (both_long ∙ sym near_long) ∙ both_long in
    let right_long : length (fed (plus b (get_or once 0 0)) g once) ≡ 32 =
    length-fed (plus b (get_or once 0 0)) g once (omega (arith, once_long)) (omega (arith, once_long, full)) ∙ once_long in
    let head : plus b (get_or once 0 0) ≡ plus s w =
    ap (plus b) (at_fed f g symbols 0 (long ∙ sym full)) ∙ sym (plus_assoc b (get_or symbols 1 0) w) in
    ext_get_or 0 (moved symbols far (scaled s g)) (fed (plus b (get_or once 0 0)) g once) (left_long ∙ sym right_long)
    (λ k _.
    let v : ℕ = times f (get_or g (1 + k) 0) in
    let next : 1 + (1 + k) ≡ 2 + k = omega arith in
    at-sum_of (sum_of rest far) (scaled s g) k
    ∙ ap₂ (λ x y. plus x y)
    (at-sum_of rest far k
    ∙ ap₂ (λ x y. plus x y) (at_two_zeros (drop 2 symbols) k ∙ get_or-drop 2 symbols k 0)
    (at_fed (get_or multiple 0 0) g multiple k (multiple_long ∙ sym full)
    ∙ ap₂ (λ x y. plus x (times y (get_or g k 0))) (get_or-scaled f g (1 + k)) (get_or-scaled f g 0)))
    (get_or-scaled s g k)
    ∙ regrouped (get_or symbols (2 + k) 0) v w s (get_or g k 0)
    ∙ sym (at_fed (plus b (get_or once 0 0)) g once k (once_long ∙ sym full)
    ∙ ap₂ (λ x y. plus x (times y (get_or g k 0)))
    (at_fed f g symbols (1 + k) (long ∙ sym full) ∙ ap (λ j. plus (get_or symbols j 0) v) next) head))

-- the rows behind which 0 was fed
far_rows_are : (t : ℕ) (high low far_high far_low : List ℕ) (f : ℕ) (rows : AreRows t high low) → AreFarRows high low far_high far_low → f < 256
    → register (get_or far_high f 0) (get_or far_low f 0) ≡ far_row f rows.generator
far_rows_are t high low far_high far_low f rows far within =
    let g : List ℕ = rows.generator in
    let n : ℕ = get_or high f 0 in
    let m : ℕ = get_or low f 0 in
    let p : ℕ = row_place n 0 in
    let place = place_is n 0 (omega arith) in
    ap₂ register (far.front f within) (far.back f within)
    ∙ wide_fed n m (get_or high p 0) (get_or low p 0) p g rows.is_generator.full (rows.rows p place.0)
    ∙ ap (λ v. fed v g (register n m)) (place.1 ∙ zero-plus (n / 2 ^ 120 % 256))
    ∙ ap (λ xs. fed (get_or xs 0 0) g xs) (rows.rows f within)

far_row_behind : (t f : ℕ) (g : List ℕ) → t ≤ 8 → length g ≡ 32 → IsBelowDegree (2 * t) g → IsBelowDegree 16 (far_row f g)
far_row_behind t f g small full behind k past =
    at_fed (get_or (scaled f g) 0 0) g (scaled f g) k (length-map g (times f))
    ∙ ap₂ (λ u v. plus u (times (get_or (scaled f g) 0 0) v))
    (get_or-scaled f g (1 + k) ∙ ap (times f) (behind (1 + k) (omega (arith, small, past))) ∙ times-zero f)
    (behind k (omega (arith, small, past)))
    ∙ zero-plus (times (get_or (scaled f g) 0 0) 0) ∙ times-zero (get_or (scaled f g) 0 0)

-- a place in the table from a byte of the register
byte_place : (top symbol : ℕ) → top < 256 → IsElement symbol → (bit_xor top symbol < 256) × (bit_xor top symbol ≡ plus symbol top)
byte_place top symbol small symbol_in = (
  subst (λ v. v < 256) (sym (bit_xor-plus top symbol)) (plus-lt top symbol small symbol_in),
  bit_xor-plus top symbol ∙ plus_comm top symbol,
)

pub narrow_pair_more : (t : ℕ) (high low far_high far_low symbols : List ℕ) (k j n far near : ℕ) → t ≤ 8 → AreRows t high low
    → AreFarRows high low far_high far_low → j ≡ k + 1 + 1 → k + 1 < length symbols → IsElement (get_or symbols k 0) → IsElement (get_or symbols (k + 1) 0)
    → far ≡ row_place n (get_or symbols k 0) → near ≡ bit_xor (n / 2 ^ 112 % 256) (get_or symbols (k + 1) 0)
    → IsRest t (take k symbols) (register n 0)
    → IsRest t (take j symbols) (register (bit_xor (bit_xor ((n * 2 ^ 16) % 2 ^ 128) (get_or far_high far 0)) (get_or high near 0)) 0)
narrow_pair_more t high low far_high far_low symbols k j n far near small rows far_rows next within a_in b_in far_is near_is before =
    let g : List ℕ = rows.generator in
    let full : length g ≡ 32 = rows.is_generator.full in
    let behind : IsBelowDegree (2 * t) g = rows.is_generator.behind in
    let a : ℕ = get_or symbols k 0 in
    let b : ℕ = get_or symbols (k + 1) 0 in
    let f : ℕ = row_place n a in
    let q : ℕ = bit_xor (n / 2 ^ 112 % 256) b in
    let f_place = place_is n a a_in in
    let q_place = byte_place (n / 2 ^ 112 % 256) b (omega arith) b_in in
    let first : IsRest t (take (k + 1) symbols) (register (narrow_step high n a) 0) =
    narrow_more t high low symbols k n a small rows (omega (arith, within)) refl a_in before in
    let once : register (narrow_step high n a) 0 ≡ fed f g (register n 0) =
    narrow_fed n (get_or high f 0) f g full (narrow_row t (get_or high f 0) (get_or low f 0) f g small behind (rows.rows f f_place.0)) in
    subst (λ i. IsRest t (take i symbols) (register (bit_xor (bit_xor ((n * 2 ^ 16) % 2 ^ 128) (get_or far_high far 0)) (get_or high near 0)) 0)) (sym next)
    (rest_more t g symbols (register (narrow_step high n a) 0) (k + 1)
    (bit_xor (bit_xor ((n * 2 ^ 16) % 2 ^ 128) (get_or far_high far 0)) (get_or high near 0)) 0 rows.is_generator first within b_in
    (narrow_moved n (get_or far_high far 0) (get_or high near 0)
    ∙ ap₂ (moved (register n 0))
    (ap (λ i. register (get_or far_high i 0) 0) far_is
    ∙ narrow_list (get_or far_high f 0) (get_or far_low f 0) (far_row f g) (far_row_behind t f g small full behind)
    (far_rows_are t high low far_high far_low f rows far_rows f_place.0))
    (ap (λ i. register (get_or high i 0) 0) near_is
    ∙ narrow_row t (get_or high q 0) (get_or low q 0) q g small behind (rows.rows q q_place.0) ∙ ap (λ v. scaled v g) q_place.1)
    ∙ pair_fed f b g (register n 0) full refl
    ∙ ap (λ xs. fed (plus b (get_or xs 0 0)) g xs) (sym once)))

pub wide_pair_more : (t : ℕ) (high low far_high far_low symbols : List ℕ) (k j n m far near : ℕ) → m < 2 ^ 128 → AreRows t high low
    → AreFarRows high low far_high far_low → j ≡ k + 1 + 1 → k + 1 < length symbols → IsElement (get_or symbols k 0) → IsElement (get_or symbols (k + 1) 0)
    → far ≡ row_place n (get_or symbols k 0) → near ≡ bit_xor (n / 2 ^ 112 % 256) (get_or symbols (k + 1) 0)
    → IsRest t (take k symbols) (register n m)
    → IsRest t (take j symbols) (register
    (bit_xor (bit_xor (bit_xor ((n * 2 ^ 16) % 2 ^ 128) (m / 2 ^ 112)) (get_or far_high far 0)) (get_or high near 0))
    (bit_xor (bit_xor ((m * 2 ^ 16) % 2 ^ 128) (get_or far_low far 0)) (get_or low near 0)))
wide_pair_more t high low far_high far_low symbols k j n m far near m_in rows far_rows next within a_in b_in far_is near_is before =
    let up : ℕ = bit_xor (bit_xor (bit_xor ((n * 2 ^ 16) % 2 ^ 128) (m / 2 ^ 112)) (get_or far_high far 0)) (get_or high near 0) in
    let down : ℕ = bit_xor (bit_xor ((m * 2 ^ 16) % 2 ^ 128) (get_or far_low far 0)) (get_or low near 0) in
    let g : List ℕ = rows.generator in
    let full : length g ≡ 32 = rows.is_generator.full in
    let a : ℕ = get_or symbols k 0 in
    let b : ℕ = get_or symbols (k + 1) 0 in
    let f : ℕ = row_place n a in
    let q : ℕ = bit_xor (n / 2 ^ 112 % 256) b in
    let f_place = place_is n a a_in in
    let q_place = byte_place (n / 2 ^ 112 % 256) b (omega arith) b_in in
    let first : IsRest t (take (k + 1) symbols) (register (wide_step high n m a) (wide_step_behind low n m a)) =
    wide_more t high low symbols k n m a rows (omega (arith, within)) refl a_in before in
    let once : register (wide_step high n m a) (wide_step_behind low n m a) ≡ fed f g (register n m) =
    wide_fed n m (get_or high f 0) (get_or low f 0) f g full (rows.rows f f_place.0) in
    subst (λ i. IsRest t (take i symbols) (register up down)) (sym next)
    (rest_more t g symbols (register (wide_step high n m a) (wide_step_behind low n m a)) (k + 1) up down rows.is_generator first within b_in
    (wide_moved n m (get_or far_high far 0) (get_or high near 0) (get_or far_low far 0) (get_or low near 0) m_in
    ∙ ap₂ (moved (register n m))
    (ap (λ i. register (get_or far_high i 0) (get_or far_low i 0)) far_is ∙ far_rows_are t high low far_high far_low f rows far_rows f_place.0)
    (ap (λ i. register (get_or high i 0) (get_or low i 0)) near_is ∙ rows.rows q q_place.0 ∙ ap (λ v. scaled v g) q_place.1)
    ∙ pair_fed f b g (register n m) full refl
    ∙ ap (λ xs. fed (plus b (get_or xs 0 0)) g xs) (sym once)))

-- ---- a last symbol by itself

pub narrow_last : (t : ℕ) (high low symbols : List ℕ) (k n symbol place : ℕ) → t ≤ 8 → AreRows t high low → length symbols ≡ k + 1
    → symbol ≡ get_or symbols k 0 → IsElement (get_or symbols k 0) → place ≡ row_place n symbol → IsRest t (take k symbols) (register n 0)
    → IsRest t symbols (register (bit_xor ((n * 2 ^ 8) % 2 ^ 128) (get_or high place 0)) 0)
narrow_last t high low symbols k n symbol place small rows long symbol_is symbol_in place_is before =
    subst (λ p. IsRest t symbols (register (bit_xor ((n * 2 ^ 8) % 2 ^ 128) (get_or high p 0)) 0)) (sym place_is)
    (subst (λ xs. IsRest t xs (register (narrow_step high n symbol) 0)) (take_all (k + 1) symbols (omega (arith, long)))
    (narrow_more t high low symbols k n symbol small rows (omega (arith, long)) symbol_is symbol_in before))

pub wide_last : (t : ℕ) (high low symbols : List ℕ) (k n m symbol place carry : ℕ) → AreRows t high low → length symbols ≡ k + 1
    → symbol ≡ get_or symbols k 0 → IsElement (get_or symbols k 0) → place ≡ row_place n symbol → carry ≡ m / 2 ^ 120 % 256
    → IsRest t (take k symbols) (register n m)
    → IsRest t symbols (register (bit_xor (bit_xor ((n * 2 ^ 8) % 2 ^ 128) carry) (get_or high place 0)) (bit_xor ((m * 2 ^ 8) % 2 ^ 128) (get_or low place 0)))
wide_last t high low symbols k n m symbol place carry rows long symbol_is symbol_in place_is carry_is before =
    subst (λ p. IsRest t symbols (register (bit_xor (bit_xor ((n * 2 ^ 8) % 2 ^ 128) carry) (get_or high p 0)) (bit_xor ((m * 2 ^ 8) % 2 ^ 128) (get_or low p 0))))
    (sym place_is)
    (subst (λ b. IsRest t symbols (register (bit_xor (bit_xor ((n * 2 ^ 8) % 2 ^ 128) b) (get_or high (row_place n symbol) 0)) (wide_step_behind low n m symbol)))
    (sym carry_is)
    (subst (λ xs. IsRest t xs (register (wide_step high n m symbol) (wide_step_behind low n m symbol))) (take_all (k + 1) symbols (omega (arith, long)))
    (wide_more t high low symbols k n m symbol rows (omega (arith, long)) symbol_is symbol_in before)))
