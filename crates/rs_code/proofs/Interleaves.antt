-- Interleaves as lists of their own.
use Rattle.std.proofs.Common.{◌≡◌, ℕ, ◌+◌, ◌-◌, ◌*◌, ◌/◌, ◌%◌, ◌<◌, ◌≤◌, List, refl, ◌++◌, length, take, drop, sym, ◌∙◌, ap, ap₂, arith, subst, get_or, ⊎_elim, length-append, length-take}
use Rattle.std.specs.Prelude.{All}
use Rattle.std.proofs.lemmas.Bool.{cases_lt}
use Rattle.std.proofs.lemmas.List.{get_or_append_left, get_or-append_right, get_or-take, get_or-drop, length-take-le, length-drop, take-append-drop, get_or_past}
use Rattle.std.proofs.lemmas.List.FromFn.{length-map-range_with_len, get_or-map-range_with_len}
use Rattle.std.proofs.lemmas.List.Elements.{All-from_get_or, All-take}
use Rattle.std.proofs.lemmas.Grind.{same_number_lists}
use Rattle.std.proofs.lemmas.Nat.{div-add-mod', mul-add-lt, div-mul-add, row_fits}
use Rattle.std.proofs.Math.Nat.{div-mul-le_self, mul-sub, mul_comm}
use Rattle.gf256.specs.Field.{IsElement, times, power, alpha}
use Rattle.rs_code.specs.Word.{weighted_sum, IsReedSolomonWord}
use Rattle.rs_code.specs.Interleave.{interleave}
use Rattle.rs_code.specs.inside.Register.{IsRest}
use Rattle.rs_code.proofs.Encoding.{completed_word, weighted_sum-append}
use Rattle.gf256.proofs.FieldLaws.{same_from_plus}
use Rattle.rs_code.proofs.Remainders.{remainder_is_single}
use Rattle.std.specs.Prelude.{◌↔◌}
use Rattle.rs_code.proofs.Registers.{check_sums}

pub length-interleave : (many v : ℕ) (xs : List ℕ) → length (interleave many v xs) ≡ length xs / many
length-interleave many v xs = length-map-range_with_len (λ s. get_or xs (s * many + v) 0) 0 (length xs / many)

pub at-interleave : (many v : ℕ) (xs : List ℕ) (s : ℕ) → s < length xs / many → get_or (interleave many v xs) s 0 ≡ get_or xs (s * many + v) 0
at-interleave many v xs s within =
    get_or-map-range_with_len (λ s. get_or xs (s * many + v) 0) 0 (length xs / many) s s 0 within (omega arith)

pub interleave-elements : (many v : ℕ) (xs : List ℕ) → ((i : ℕ) → IsElement (get_or xs i 0)) → All IsElement (interleave many v xs)
interleave-elements many v xs xs_in =
    All-from_get_or IsElement (interleave many v xs) 0
    (λ s h. subst IsElement (sym (at-interleave many v xs s (omega (arith, h, length-interleave many v xs)))) (xs_in (s * many + v)))

-- whole rows one behind the other
pub interleave-append : (many v n m : ℕ) (xs ys : List ℕ) → v < many → length xs ≡ n * many → length ys ≡ m * many
    → interleave many v (xs ++ ys) ≡ interleave many v xs ++ interleave many v ys
interleave-append many v n m xs ys inside xs_long ys_long =
    let some : 0 < many = omega (arith, inside) in
    let xs_rows : length xs / many ≡ n = ap (λ l. l / many) (xs_long ∙ omega arith) ∙ div-mul-add n many 0 some in
    let ys_rows : length ys / many ≡ m = ap (λ l. l / many) (ys_long ∙ omega arith) ∙ div-mul-add m many 0 some in
    let all_rows : length (xs ++ ys) / many ≡ n + m =
    ap (λ l. l / many) (length-append xs ys ∙ ap₂ (λ a b. a + b) xs_long ys_long ∙ omega arith) ∙ div-mul-add (n + m) many 0 some in
    let left : length (interleave many v xs) ≡ n = length-interleave many v xs ∙ xs_rows in
    let right : length (interleave many v ys) ≡ m = length-interleave many v ys ∙ ys_rows in
    same_number_lists (interleave many v (xs ++ ys)) (interleave many v xs ++ interleave many v ys)
    (length-interleave many v (xs ++ ys) ∙ all_rows ∙ sym (length-append (interleave many v xs) (interleave many v ys) ∙ ap₂ (λ a b. a + b) left right))
    (λ k h.
    let k_in : k < n + m = omega (arith, h, length-interleave many v (xs ++ ys), all_rows) in
    at-interleave many v (xs ++ ys) k (omega (arith, k_in, all_rows))
    ∙ ⊎_elim
    (λ (first : k < n).
    get_or_append_left xs ys 0 (k * many + v) (omega (arith, xs_long, mul-add-lt k many v n first inside))
    ∙ sym (get_or_append_left (interleave many v xs) (interleave many v ys) 0 k (omega (arith, first, left))
    ∙ at-interleave many v xs k (omega (arith, first, xs_rows))))
    (λ (second : n ≤ k).
    let j : ℕ = k - n in
    let split : k * many + v ≡ n * many + (j * many + v) = rows_apart k n j many v (omega (arith, second)) in
    get_or-append_right xs ys (n * many) (k * many + v) 0 xs_long (omega (arith, split))
    ∙ ap (λ i. get_or ys i 0) (omega (arith, split))
    ∙ sym (get_or-append_right (interleave many v xs) (interleave many v ys) n k 0 left second
    ∙ at-interleave many v ys j (omega (arith, k_in, second, ys_rows))))
    (cases_lt k n))
  where
    rows_apart : (k n j many v : ℕ) → k ≡ n + j → k * many + v ≡ n * many + (j * many + v)
    rows_apart k n j many v e = ap (λ i. i * many + v) e ∙ (let sum : (n + j) * many + v ≡ n * many + (j * many + v) = omega arith in sum)

-- a whole row ends inside
pub row_inside : (length_of many s : ℕ) → s < length_of / many → s * many + many ≤ length_of
row_inside length_of many s h =
    let upper : s * many + many ≤ length_of / many * many = row_fits s many (length_of / many) many h (omega arith) in
    omega (arith, upper, div-mul-le_self length_of many)

-- the symbol of an interleave in a column
pub at-column : (symbols : List ℕ) (many s v : ℕ) → v < many → s < length symbols / many
    → let column = take (s * many + many - s * many) (drop (s * many) symbols) in
    (v < length column) × (get_or column v 0 ≡ get_or (interleave many v symbols) s 0)
at-column symbols many s v inside within =
    let wide : s * many + many - s * many ≡ many = omega arith in
    let behind : List ℕ = drop (s * many) symbols in
    let enough : many ≤ length behind = omega (arith, row_inside (length symbols) many s within, length-drop (s * many) symbols) in (
      omega (arith, wide, inside, length-take-le (s * many + many - s * many) behind (omega (arith, wide, enough))),
      get_or-take (s * many + many - s * many) behind v 0 (omega (arith, wide, inside)) ∙ get_or-drop (s * many) symbols v 0
          ∙ sym (at-interleave many v symbols s within),
    )

too_many : (n m many : ℕ) → 0 < many → 255 < n + m → 255 * many < n * many + m * many
too_many n m many some over =
    let sum : n * many + m * many ≡ (n + m) * many = omega arith in
    let lower : 255 * many + 0 < many * (n + m) = mul-add-lt 255 many 0 (n + m) over some in
    omega (arith, sum, lower)

rows_few : (n m many : ℕ) → 0 < many → n * many + m * many ≤ 255 * many → n + m ≤ 255
rows_few n m many some h =
    ⊎_elim (λ (over : 255 < n + m). absurd (omega (arith, h, too_many n m many some over))) (λ (fits : n + m ≤ 255). fits) (cases_lt 255 (n + m))

-- each interleave of the symbols with its check symbols is a word of the code
pub interleaved_word : (t many v n : ℕ) (symbols out rest : List ℕ) → t ≤ 16 → v < many → length symbols ≡ n * many → length out ≡ 2 * t * many
    → length symbols + length out ≤ 255 * many
    → ((i : ℕ) → IsElement (get_or symbols i 0)) → ((i : ℕ) → IsElement (get_or out i 0))
    → IsRest t (interleave many v symbols) rest
    → ((k : ℕ) → k < length out / many → get_or out (k * many + v) 0 ≡ get_or rest k 0)
    → IsReedSolomonWord t (interleave many v (symbols ++ out))
interleaved_word t many v n symbols out rest small inside symbols_long out_long short symbols_in out_in is_rest written =
    let some : 0 < many = omega (arith, inside) in
    let front : List ℕ = interleave many v symbols in
    let back : List ℕ = interleave many v out in
    let front_rows : length symbols / many ≡ n = ap (λ l. l / many) (symbols_long ∙ omega arith) ∙ div-mul-add n many 0 some in
    let back_rows : length out / many ≡ 2 * t = ap (λ l. l / many) (out_long ∙ omega arith) ∙ div-mul-add (2 * t) many 0 some in
    let front_long : length front ≡ n = length-interleave many v symbols ∙ front_rows in
    let back_long : length back ≡ 2 * t = length-interleave many v out ∙ back_rows in
    let few : n + 2 * t ≤ 255 = rows_few n (2 * t) many some (omega (arith, short, symbols_long, out_long)) in
    let checks : back ≡ take (2 * t) rest =
    same_number_lists back (take (2 * t) rest) (back_long ∙ sym (length-take-le (2 * t) rest (omega (arith, is_rest.full, small))))
    (λ k h.
    let k_in : k < 2 * t = omega (arith, h, back_long) in
    at-interleave many v out k (omega (arith, k_in, back_rows)) ∙ written k (omega (arith, k_in, back_rows)) ∙ sym (get_or-take (2 * t) rest k 0 k_in)) in
    subst (IsReedSolomonWord t) (sym (interleave-append many v n (2 * t) symbols out inside symbols_long out_long))
    (completed_word t front back (omega (arith, front_long, back_long, few)) (interleave-elements many v symbols symbols_in) (interleave-elements many v out out_in) back_long
    (λ i h. ap (λ xs. weighted_sum xs i) checks ∙ check_sums t front rest small is_rest i h))

-- the check symbols of a word are those that its front should have
checks_of_member : (t : ℕ) (front given rest : List ℕ) → t ≤ 16 → length given ≡ 2 * t → All IsElement given → IsRest t front rest
    → IsReedSolomonWord t (front ++ given) → given ≡ take (2 * t) rest
checks_of_member t front given rest small full given_in is_rest member =
    remainder_is_single t given given (take (2 * t) rest) (omega (arith, small))
    (record { full = full; elements = given_in; same_sums = λ i h. refl })
    (record {
      full = length-take-le (2 * t) rest (omega (arith, is_rest.full, small));
      elements = All-take IsElement (2 * t) rest is_rest.elements;
      same_sums = λ i h.
          check_sums t front rest small is_rest i h
          ∙ ap (λ n. times (weighted_sum front i) (power alpha (n * i))) (sym full)
          ∙ same_from_plus (times (weighted_sum front i) (power alpha (length given * i))) (weighted_sum given i)
          (sym (weighted_sum-append front given i) ∙ member.sums i h);
    })

-- each interleave is a word of the code exactly where its check symbols are those that its front should have
pub interleaved_member : (t many v : ℕ) (words front given rest : List ℕ) → t ≤ 16 → v < many → length words % many ≡ 0 → 2 * t * many ≤ length words
    → length words ≤ 255 * many → ((i : ℕ) → IsElement (get_or words i 0))
    → front ≡ take (length words - 2 * t * many) words → given ≡ drop (length words - 2 * t * many) words
    → IsRest t (interleave many v front) rest
    → IsReedSolomonWord t (interleave many v words) ↔ ((k : ℕ) → k < length given / many → get_or given (k * many + v) 0 ≡ get_or rest k 0)
interleaved_member t many v words front given rest small inside whole long short words_in front_is given_is is_rest =
    let some : 0 < many = omega (arith, inside) in
    let m : ℕ = length words - 2 * t * many in
    let all_rows : length words ≡ length words / many * many = sym (div-add-mod' (length words) many) ∙ omega (arith, whole) in
    let n : ℕ = length words / many - 2 * t in
    let given_long : length given ≡ 2 * t * many = ap (λ xs. length xs) given_is ∙ length-drop m words ∙ omega (arith, long) in
    let front_long : length front ≡ n * many =
    ap (λ xs. length xs) front_is ∙ length-take-le m words (omega arith) ∙ ap (λ l. l - 2 * t * many) all_rows ∙ sym (rows_left (length words / many) (2 * t) many) in
    let joined : front ++ given ≡ words = ap₂ (λ a b. a ++ b) front_is given_is ∙ take-append-drop m words in
    let front_in : (i : ℕ) → IsElement (get_or front i 0) = λ i. subst (λ xs. IsElement (get_or xs i 0)) (sym front_is) (element_taken m words i words_in) in
    let given_in : (i : ℕ) → IsElement (get_or given i 0) =
    λ i. subst (λ xs. IsElement (get_or xs i 0)) (sym given_is) (subst IsElement (sym (get_or-drop m words i 0)) (words_in (m + i))) in
    let given_rows : length given / many ≡ 2 * t = ap (λ l. l / many) (given_long ∙ omega arith) ∙ div-mul-add (2 * t) many 0 some in
    let back : List ℕ = interleave many v given in
    let back_long : length back ≡ 2 * t = length-interleave many v given ∙ given_rows in
    let apart : interleave many v words ≡ interleave many v front ++ back =
    ap (interleave many v) (sym joined) ∙ interleave-append many v n (2 * t) front given inside front_long given_long in (
      (λ member k h.
          let k_in : k < 2 * t = omega (arith, h, given_rows) in
          let checks : back ≡ take (2 * t) rest =
          checks_of_member t (interleave many v front) back rest small back_long (interleave-elements many v given given_in) is_rest
          (subst (IsReedSolomonWord t) apart member) in
          sym (at-interleave many v given k h) ∙ ap (λ xs. get_or xs k 0) checks ∙ get_or-take (2 * t) rest k 0 k_in),
      (λ written.
          subst (λ w. IsReedSolomonWord t (interleave many v w)) joined
          (interleaved_word t many v n front given rest small inside front_long given_long
          (omega (arith, short, ap (λ xs. length xs) joined, length-append front given)) front_in given_in is_rest written)),
    )
  where
    rows_left : (a b many : ℕ) → (a - b) * many ≡ a * many - b * many
    rows_left a b many = mul_comm (a - b) many ∙ mul-sub many a b ∙ ap₂ (λ x y. x - y) (mul_comm many a) (mul_comm many b)

    element_taken : (m : ℕ) (xs : List ℕ) (i : ℕ) → ((i : ℕ) → IsElement (get_or xs i 0)) → IsElement (get_or (take m xs) i 0)
    element_taken m xs i xs_in =
        ⊎_elim
        (λ (below : i < m). subst IsElement (sym (get_or-take m xs i 0 below)) (xs_in i))
        (λ (past : m ≤ i). subst IsElement (sym (get_or_past (take m xs) i 0 (omega (arith, past, length-take m xs)))) (omega arith))
        (cases_lt i m)
