-- The values of a polynomial as sums of the values of monomials, and at the points farther on.
use Rattle.std.proofs.Common.{◌≡◌, ◌∙◌, ℕ, zero, suc, add-one, ◌+◌, ◌-◌, ◌*◌, ◌/◌, ◌%◌, ◌<◌, ◌≤◌, List, [], ◌∷◌, ◌++◌, length, take, drop, refl, sym, ap, ap₂, arith, get_or, length-append, set, subst, ⊎_elim}
use Rattle.std.specs.Prelude.{bit_xor}
use Rattle.std.proofs.lemmas.Nat.{xor_shr, xor_mod}
use Rattle.std.proofs.lemmas.Bool.{cases_lt}
use Rattle.std.proofs.lemmas.List.{take_more, take_all, get_or-take, get_or-drop, get_or_append_left, get_or-append_right, length-take-le, length-drop}
use Rattle.gf256.specs.Field.{IsElement, plus, times, power, alpha}
use Rattle.gf256.proofs.FieldLaws.{plus_assoc, plus_comm, plus-zero, zero-plus, times_assoc, times_left_comm, times-zero, times-one, one-times, times-plus, plus-times, power-zero, power-suc, power-mul, power-add, times-lt}
use Rattle.rs_code.specs.Word.{weighted_sum}
use Rattle.rs_code.specs.Polynomial.{value_at, sum_of}
use Rattle.rs_code.specs.inside.PointTables.{IsMonomial, AreMonomials}
use Rattle.gf256.specs.declared.Gf.{Gf}
use Rattle.gf256.specs.Linear.{values}
use Rattle.gf256.proofs.Lists.{values-set, length-values}
use Rattle.rs_code.proofs.Locators.{at-sum_of, value_at-lt}
use Rattle.rs_code.proofs.Moments.{Elements}
use Rattle.rs_code.proofs.Steps.{bit_xor-plus, written_more}

-- the two halves of a byte
pub halves : (c : ℕ) → c < 256 → plus (1 * (c % 16)) (16 * (c / 16)) ≡ c
halves c small =
    let a : ℕ = 1 * (c % 16) in
    let b : ℕ = 16 * (c / 16) in
    let upper : bit_xor a b / 16 ≡ c / 16 =
    xor_shr a b 4 ∙ ap₂ bit_xor (let e : a / 16 ≡ 0 = omega arith in e) (let e : b / 16 ≡ c / 16 = omega arith in e)
    ∙ bit_xor-plus 0 (c / 16) ∙ zero-plus (c / 16) in
    let lower : bit_xor a b % 16 ≡ c % 16 =
    xor_mod a b 4 ∙ ap₂ bit_xor (let e : a % 16 ≡ c % 16 = omega arith in e) (let e : b % 16 ≡ 0 = omega arith in e)
    ∙ bit_xor-plus (c % 16) 0 ∙ plus-zero (c % 16) in
    sym (bit_xor-plus a b) ∙ omega (arith, upper, lower)

pub monomial_of_halves : (c degree : ℕ) (a b : List ℕ) → c < 256 → IsMonomial (1 * (c % 16)) degree a → IsMonomial (16 * (c / 16)) degree b
    → IsMonomial c degree (sum_of a b)
monomial_of_halves c degree a b small lower upper j h =
    let x : ℕ = power (power alpha j) degree in
    at-sum_of a b j ∙ ap₂ plus (lower j h) (upper j h) ∙ sym (plus-times (1 * (c % 16)) (16 * (c / 16)) x) ∙ ap (λ v. times v x) (halves c small)

-- ---- a further monomial

value_at-push : (p : List ℕ) (c x : ℕ) → IsElement c → value_at (p ++ c ∷ []) x ≡ plus (value_at p x) (times c (power x (length p)))
value_at-push [] c x c_in =
    ap (plus c) (times-zero x) ∙ plus-zero c ∙ sym (zero-plus (times c (power x 0)) ∙ ap (times c) (power-zero x) ∙ times-one c c_in)
value_at-push (a ∷ p) c x c_in =
    let v : ℕ = value_at p x in
    let m : ℕ = times c (power x (length p)) in
    ap (λ u. plus a (times x u)) (value_at-push p c x c_in)
    ∙ ap (plus a) (times-plus x v m ∙ ap (plus (times x v)) (times_left_comm x c (power x (length p)) ∙ ap (times c) (sym (power-suc x (length p)))))
    ∙ sym (plus_assoc a (times x v) (times c (power x (suc (length p)))))

-- the first term alone
pub constant_values : (c x : ℕ) (p : List ℕ) → value_at (c ∷ take 0 p) x ≡ c
constant_values c x p = ap (plus c) (times-zero x) ∙ plus-zero c

pub tabled_more : (c : ℕ) (p : List ℕ) (k : ℕ) (sums m : List ℕ) → k < length p → IsElement (get_or p k 0)
    → ((j : ℕ) → j < 16 → get_or sums j 0 ≡ value_at (c ∷ take k p) (power alpha j))
    → IsMonomial (get_or p k 0) (k + 1) m
    → (j : ℕ) → j < 16 → get_or (sum_of sums m) j 0 ≡ value_at (c ∷ take (k + 1) p) (power alpha j)
tabled_more c p k sums m within c_in before monomial j h =
    let x : ℕ = power alpha j in
    let next : ℕ = get_or p k 0 in
    let long : length (c ∷ take k p) ≡ k + 1 = ap suc (length-take-le k p (omega (arith, within))) ∙ omega arith in
    at-sum_of sums m j
    ∙ ap₂ plus (before j h) (monomial j h ∙ ap (λ n. times next (power x n)) (sym long))
    ∙ sym (value_at-push (c ∷ take k p) next x c_in)
    ∙ ap (λ q. value_at (c ∷ q) x) (sym (take_more p k 0 within))

-- ---- the points farther on

-- the coefficients times the powers of y: the value at x becomes that at y x
stretched_times : (q p : List ℕ) (c x y : ℕ) → length q ≡ length p → Elements p
    → ((k : ℕ) → k < length p → get_or q k 0 ≡ times c (times (get_or p k 0) (power y k)))
    → value_at q x ≡ times c (value_at p (times y x))
stretched_times [] [] c x y same p_in are = sym (times-zero c)
stretched_times [] (a ∷ p) c x y same p_in are = absurd (omega (arith, same))
stretched_times (b ∷ q) [] c x y same p_in are = absurd (omega (arith, same))
stretched_times (b ∷ q) (a ∷ p) c x y same p_in are =
    let v : ℕ = value_at p (times y x) in
    let first : b ≡ times c a = are 0 (omega arith) ∙ ap (times c) (ap (times a) (power-zero y) ∙ times-one a p_in.0) in
    let further : (k : ℕ) → k < length p → get_or q k 0 ≡ times (times c y) (times (get_or p k 0) (power y k)) =
    λ k h. are (suc k) (omega (arith, h))
    ∙ ap (times c) (ap (times (get_or p k 0)) (power-suc y k) ∙ times_left_comm (get_or p k 0) y (power y k))
    ∙ sym (times_assoc c y (times (get_or p k 0) (power y k))) in
    ap₂ plus first
    (ap (times x) (stretched_times q p (times c y) x y (omega (arith, same)) p_in.1 further)
    ∙ times_left_comm x (times c y) v ∙ times_assoc c y (times x v)
    ∙ ap (times c) (sym (times_assoc y x v)))
    ∙ sym (times-plus c a (times (times y x) v))

pub value_at-stretched : (q p : List ℕ) (x y : ℕ) → length q ≡ length p → Elements p
    → ((k : ℕ) → k < length p → get_or q k 0 ≡ times (get_or p k 0) (power y k))
    → value_at q x ≡ value_at p (times y x)
value_at-stretched q p x y same p_in are =
    stretched_times q p 1 x y same p_in (λ k h. are k h ∙ sym (one-times (times (get_or p k 0) (power y k)) (times-lt (get_or p k 0) (power y k))))
    ∙ one-times (value_at p (times y x)) (value_at-lt p (times y x) p_in)

-- the next sixteen points
pub next_points : (row j : ℕ) → times (power alpha (16 * row)) (power alpha j) ≡ power alpha (16 * row + j)
next_points row j = sym (power-add alpha (16 * row) j)

take_front : {X : Type 0} (p q : List X) → take (length p) (p ++ q) ≡ p
take_front [] q = refl
take_front (a ∷ p) q = ap (λ xs. a ∷ xs) (take_front p q)

-- a copy at the front of an array
pub front_copied : {X : Type 0} (copy p zeros : List X) → copy ≡ p → length p ≤ length zeros
    → (take (length p) (copy ++ drop (length p) zeros) ≡ p) × (length (copy ++ drop (length p) zeros) ≡ length zeros)
front_copied copy p zeros same fits =
    rw (same) (
      take_front p (drop (length p) zeros),
      length-append p (drop (length p) zeros) ∙ ap (λ n. length p + n) (length-drop (length p) zeros) ∙ omega (arith, fits),
    )

pub stretched_none : (p : List ℕ) (x : ℕ) → IsElement x → value_at p x ≡ value_at p (times (power alpha (16 * 0)) x)
stretched_none p x x_in = ap (value_at p) (sym (ap (λ y. times y x) (power-zero alpha) ∙ one-times x x_in))

pub stretched_more : (now next polynomial : List ℕ) (row : ℕ) → length next ≡ length now → length now ≤ 32 → Elements now
    → ((k : ℕ) → k < length now → get_or next k 0 ≡ times (get_or now k 0) (power (power alpha 16) k))
    → ((x : ℕ) → IsElement x → value_at now x ≡ value_at polynomial (times (power alpha (16 * row)) x))
    → (x : ℕ) → IsElement x → value_at next x ≡ value_at polynomial (times (power alpha (16 * (row + 1))) x)
stretched_more now next polynomial row same short now_in are before x x_in =
    let step : power alpha (16 * (row + 1)) ≡ times (power alpha (16 * row)) (power alpha 16) =
    (let e : 16 * (row + 1) ≡ 16 * row + 16 = omega arith in ap (power alpha) e) ∙ power-add alpha (16 * row) 16 in
    value_at-stretched next now x (power alpha 16) same now_in are
    ∙ before (times (power alpha 16) x) (times-lt (power alpha 16) x)
    ∙ ap (value_at polynomial) (sym (times_assoc (power alpha (16 * row)) (power alpha 16) x) ∙ ap (λ y. times y x) (sym step))

-- the constant term stays, and each further term is led on
pub stretched_terms : (c y d : ℕ) (now next : List ℕ) → IsElement c
    → ((k : ℕ) → k < d → get_or next k 0 ≡ times (get_or now k 0) (power y (k + 1)))
    → (k : ℕ) → k < suc d → get_or (c ∷ take d next) k 0 ≡ times (get_or (c ∷ take d now) k 0) (power y k)
stretched_terms c y d now next c_in are zero h = sym (ap (times c) (power-zero y) ∙ times-one c c_in)
stretched_terms c y d now next c_in are (suc k) h =
    get_or-take d next k 0 (omega (arith, h)) ∙ are k (omega (arith, h))
    ∙ ap₂ times (sym (get_or-take d now k 0 (omega (arith, h)))) (ap (power y) (add-one k))

-- the constant term and the others
pub constant_and_terms : (polynomial : List Gf) → 1 ≤ length polynomial → get_or (values polynomial) 0 0 ∷ values (drop 1 polynomial) ≡ values polynomial
constant_and_terms [] some = absurd (omega (arith, some))
constant_and_terms (c ∷ polynomial) some = refl

-- ---- the tables

-- a further block is put into a list
pub block_put : {X : Type 0} (xs block behind : List X) (d : X) (Is : ℕ → X → Type 0) (a n : ℕ) → n ≡ a + length block → a ≤ length xs
    → ((j : ℕ) → j < a → Is j (get_or xs j d)) → ((j : ℕ) → j < length block → Is (a + j) (get_or block j d))
    → (j : ℕ) → j < n → Is j (get_or (take a xs ++ (block ++ behind)) j d)
block_put xs block behind d Is a n end within before here j h =
    let front : length (take a xs) ≡ a = length-take-le a xs within in
    ⊎_elim
    (λ (below : j < a).
    subst (Is j) (sym (get_or_append_left (take a xs) (block ++ behind) d j (omega (arith, front, below)) ∙ get_or-take a xs j d below)) (before j below))
    (λ (past : a ≤ j).
    let inside : j - a < length block = omega (arith, h, end, past) in
    let place : a + (j - a) ≡ j = omega (arith, past) in
    subst (Is j) (sym (get_or-append_right (take a xs) (block ++ behind) a j d front past ∙ get_or_append_left block behind d (j - a) inside))
    (subst (λ i. Is i (get_or block (j - a) d)) place (here (j - a) inside)))
    (cases_lt j a)

-- the row of a degree and a coefficient
pub row_of_table : (factor : ℕ) (table : List ℕ) (place h at k : ℕ) → AreMonomials factor table → place < 16 → h < 16
    → at ≡ 256 * place + 16 * h → k ≡ 16 → IsMonomial (factor * h) (place + 1) (take k (drop at table))
row_of_table factor table place h at k are place_in h_in at_is k_is j j_in =
    let n : ℕ = at + j in
    let row : n % 256 / 16 ≡ h = omega (arith, at_is, place_in, h_in, j_in) in
    let column : n % 16 ≡ j = omega (arith, at_is, place_in, h_in, j_in) in
    let degree : n / 256 ≡ place = omega (arith, at_is, place_in, h_in, j_in) in
    get_or-take k (drop at table) j 0 (omega (arith, j_in, k_is)) ∙ get_or-drop at table j 0
    ∙ are n (omega (arith, at_is, place_in, h_in, j_in))
    ∙ ap₂ times (ap (λ i. factor * i) row) (ap₂ (λ y d. power (power alpha y) (d + 1)) column degree)

pub values_written : (elements : List Gf) (F : ℕ → ℕ) (i : ℕ) (element : Gf) → i < length elements
    → ((k : ℕ) → k < i → get_or (values elements) k 0 ≡ F k) → element.value ≡ F i
    → (k : ℕ) → k < i + 1 → get_or (values (set elements i element)) k 0 ≡ F k
values_written elements F i element within before here k h =
    ap (λ xs. get_or xs k 0) (values-set elements i element)
    ∙ written_more (values elements) F i element.value (omega (arith, within, length-values elements)) before here k h

-- (alpha^degree)^j = (alpha^j)^degree
pub powers_exchange : (degree j : ℕ) → power (power alpha degree) j ≡ power (power alpha j) degree
powers_exchange degree j =
    sym (power-mul alpha degree j) ∙ (let e : degree * j ≡ j * degree = omega arith in ap (power alpha) e) ∙ power-mul alpha j degree

-- ---- words as polynomials

-- the polynomial whose coefficients are the symbols from the last to the first
pub value_at-reversed : (word q : List ℕ) (i : ℕ) → length q ≡ length word → Elements word
    → ((k : ℕ) → k < length word → get_or q k 0 ≡ get_or word (length word - 1 - k) 0)
    → value_at q (power alpha i) ≡ weighted_sum word i
value_at-reversed [] [] i same word_in are = refl
value_at-reversed [] (c ∷ q) i same word_in are = absurd (omega (arith, same))
value_at-reversed (symbol ∷ word) q i same word_in are =
    let n : ℕ = length word in
    let x : ℕ = power alpha i in
    let front : List ℕ = take n q in
    let long : length front ≡ n = length-take-le n q (omega (arith, same)) in
    let last : get_or q n 0 ≡ symbol =
    are n (omega arith) ∙ ap (λ k. get_or (symbol ∷ word) k 0) (let e : suc n - 1 - n ≡ 0 = omega arith in e) in
    let before : (k : ℕ) → k < n → get_or front k 0 ≡ get_or word (n - 1 - k) 0 =
    λ k h. get_or-take n q k 0 h ∙ are k (omega (arith, h))
    ∙ ap (λ j. get_or (symbol ∷ word) j 0) (let e : suc n - 1 - k ≡ suc (n - 1 - k) = omega (arith, h) in e) in
    let power_is : power x n ≡ power alpha (n * i) =
    sym (power-mul alpha i n) ∙ (let e : i * n ≡ n * i = omega arith in ap (power alpha) e) in
    ap (λ p. value_at p x) (sym (take_all (n + 1) q (omega (arith, same))) ∙ take_more q n 0 (omega (arith, same)) ∙ ap (λ c. front ++ c ∷ []) last)
    ∙ value_at-push front symbol x word_in.0
    ∙ ap₂ plus (value_at-reversed word front i long word_in.1 before) (ap (times symbol) (ap (power x) long ∙ power_is))
    ∙ plus_comm (weighted_sum word i) (times symbol (power alpha (n * i)))
