-- The remainder by the generator polynomial tells the words of the code.
use Rattle.std.proofs.Common.{◌-◌, replicate, refl, ⊎_elim, ◌≡◌, ℕ, ◌+◌, ◌*◌, ◌<◌, ◌≤◌, List, ◌++◌, length, take, drop, sym, ◌∙◌, ap, ap₂, arith, subst, get_or}
use Rattle.std.specs.Prelude.{All}
use Rattle.std.proofs.lemmas.List.{length-take-le, length-drop, take_at, take-append-drop, get_or-append_right, get_or-drop, get_or-take}
use Rattle.std.proofs.lemmas.Bool.{cases_lt}
use Rattle.std.specs.Prelude.{◌↔◌}
use Rattle.std.proofs.lemmas.List.Elements.{All-take, All-drop}
use Rattle.gf256.specs.Field.{IsElement, plus, times, power, alpha}
use Rattle.gf256.proofs.FieldLaws.{plus_self}
use Rattle.rs_code.specs.Word.{weighted_sum, IsReedSolomonWord, IsNear}
use Rattle.rs_code.specs.Polynomial.{sum_of, IsBelowDegree}
use Rattle.rs_code.specs.Remainder.{IsRemainder, RemainderTellsMembers, RemainderIsSingle}
use Rattle.rs_code.specs.inside.Register.{IsRest}
use Rattle.rs_code.proofs.Words.{elements_of, word_vanishes, same_from_sum, length-sum_of, weighted_sum-sum_of, Elements-sum_of}
use Rattle.rs_code.proofs.Roots.{at_zeros}
use Rattle.rs_code.proofs.Steps.{zeros_of_replicate, weight-le, weighted_sum-AreZero}
use Rattle.rs_code.proofs.Encoding.{weighted_sum-append}
use Rattle.rs_code.proofs.Patterns.{all_of, differences-same}
use Rattle.rs_code.proofs.Registers.{all_zero, zero_list, check_sums}

pub remainder_tells_members : RemainderTellsMembers
remainder_tells_members t word rest few short word_in remainder = (
  (λ member k. at_zeros rest k
      (word_vanishes (2 * t) rest (omega (arith, remainder.full, few)) (elements_of rest remainder.elements)
      (omega (arith, weight-le rest, remainder.full))
      (λ i h. remainder.same_sums i h ∙ member.sums i h))),
  (λ zeros. record {
    short = short;
    elements = word_in;
    sums = λ i h. sym (remainder.same_sums i h) ∙ weighted_sum-AreZero rest i (all_zero rest zeros);
  }),
)

pub remainder_is_single : RemainderIsSingle
remainder_is_single t word u v few u_is v_is =
    let same : length u ≡ length v = u_is.full ∙ sym v_is.full in
    same_from_sum u v same
    (word_vanishes (2 * t) (sum_of u v) (omega (arith, length-sum_of u v same, u_is.full, few))
    (Elements-sum_of u v (elements_of u u_is.elements) (elements_of v v_is.elements))
    (omega (arith, weight-le (sum_of u v), length-sum_of u v same, u_is.full))
    (λ i h. weighted_sum-sum_of u v same i ∙ ap₂ (λ a b. plus a b) (u_is.same_sums i h) (v_is.same_sums i h) ∙ plus_self (weighted_sum word i)))

-- the check symbols that the front of a word should have, added to those that it has
pub remainder_of_checks : (t : ℕ) (front given rest : List ℕ) → t ≤ 16 → length given ≡ 2 * t → All IsElement given → IsRest t front rest
    → IsRemainder t (front ++ given) (sum_of (take (2 * t) rest) given)
remainder_of_checks t front given rest small full given_in is_rest =
    let checks : List ℕ = take (2 * t) rest in
    let long : length checks ≡ 2 * t = length-take-le (2 * t) rest (omega (arith, is_rest.full, small)) in
    let same : length checks ≡ length given = long ∙ sym full in
    record {
      full = length-sum_of checks given same ∙ long;
      elements = all_of (sum_of checks given) (Elements-sum_of checks given (elements_of checks (All-take IsElement (2 * t) rest is_rest.elements)) (elements_of given given_in));
      same_sums = λ i h.
          weighted_sum-sum_of checks given same i
          ∙ ap (λ u. plus u (weighted_sum given i)) (check_sums t front rest small is_rest i h ∙ ap (λ n. times (weighted_sum front i) (power alpha (n * i))) (sym full))
          ∙ sym (weighted_sum-append front given i);
    }

-- a remainder with zeros behind it is 0 exactly where the word is one of the code
pub member_is_zero : (t : ℕ) (word rest : List ℕ) → t ≤ 16 → length word ≤ 255 → All IsElement word → length rest ≡ 32
    → IsRemainder t word (take (2 * t) rest) → IsBelowDegree (2 * t) rest
    → (IsReedSolomonWord t word ↔ (rest ≡ replicate 32 0))
member_is_zero t word rest small short word_in full remainder behind =
    let tells = remainder_tells_members t word (take (2 * t) rest) (omega (arith, small)) short word_in remainder in (
      (λ member.
          zero_list rest
          (λ k. ⊎_elim
          (λ (below : k < 2 * t). sym (get_or-take (2 * t) rest k 0 below) ∙ tells.0 member k)
          (λ (past : 2 * t ≤ k). behind k past)
          (cases_lt k (2 * t)))
          ∙ ap (λ n. replicate n 0) full),
      (λ zeros. tells.1 (λ k.
          ap (λ xs. get_or (take (2 * t) xs) k 0) zeros ∙ at_zeros (take (2 * t) (replicate 32 0)) k (zeros_of_replicate (2 * t) 32))),
    )

pub near_if_member : (t : ℕ) (word : List ℕ) → IsReedSolomonWord t word → IsNear t word word
near_if_member t word member = record { code_word = member; same_length = refl; close = omega (arith, differences-same word) }

-- the remainder in the first places of the register
pub remainder_kept : (t : ℕ) (word front given rest added : List ℕ) → t ≤ 16 → 2 * t ≤ length word → All IsElement word
    → front ≡ take (length word - 2 * t) word → given ≡ drop (length word - 2 * t) word → IsRest t front rest
    → added ≡ sum_of (take (2 * t) rest) given
    → IsRemainder t word (take (2 * t) (added ++ drop (2 * t) rest)) × IsBelowDegree (2 * t) (added ++ drop (2 * t) rest)
remainder_kept t word front given rest added small enough word_in front_is given_is is_rest added_is =
    let n : ℕ = 2 * t in
    let m : ℕ = length word - n in
    let given_long : length given ≡ n = ap (λ xs. length xs) given_is ∙ length-drop m word ∙ omega (arith, enough) in
    let checks_long : length (take n rest) ≡ n = length-take-le n rest (omega (arith, is_rest.full, small)) in
    let long : length added ≡ n = ap (λ xs. length xs) added_is ∙ length-sum_of (take n rest) given (checks_long ∙ sym given_long) ∙ checks_long in
    let whole : front ++ given ≡ word = ap₂ (λ a b. a ++ b) front_is given_is ∙ take-append-drop m word in (
      subst (IsRemainder t word) (sym (take_at added (drop n rest) n long ∙ added_is))
          (subst (λ w. IsRemainder t w (sum_of (take n rest) given)) whole
          (remainder_of_checks t front given rest small given_long (subst (All IsElement) (sym given_is) (All-drop IsElement m word word_in)) is_rest)),
      (λ k past.
          get_or-append_right added (drop n rest) n k 0 long past ∙ get_or-drop n rest (k - n) 0
          ∙ is_rest.behind (n + (k - n)) (omega arith)),
    )
