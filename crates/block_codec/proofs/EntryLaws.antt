-- How the entries of a table are made, one after the other.
use Rattle.std.proofs.Common.{◌≡◌, ℕ, ◌+◌, ◌*◌, ◌/◌, ◌%◌, ◌<◌, List, [], ◌∷◌, ◌++◌, length, take, get_or, ap, ◌∙◌, subst, inl, inr, arith}
use Rattle.std.proofs.lemmas.List.{length_push, get_or_append_left, get_or_push}
use Rattle.std.proofs.lemmas.Nat.{mul-add-lt, div-mul-add, mod-mul-add}
use Rattle.std.proofs.lemmas.Bool.{cases_lt}
use Rattle.code_spec.specs.Code.{CodeData, IsCode, IsState}
use Rattle.block_codec.specs.inside.Digits.{PutsDigits}
use Rattle.block_codec.specs.inside.Tables.{IsEntry, IsTable}

-- a lane that the words were put into is their entry
pub entry_put : (c : CodeData) (state next size to : ℕ) (words old lane : List ℕ) → PutsDigits c state words 0 old lane next → to ≡ size * next → IsEntry c words size state lane to
entry_put c state next size to words old lane puts to_is =
    let count : c.q * length words ≡ 0 + c.q * length words = omega arith in
    record {
      digits = ap (λ (n : ℕ). take n lane) count ∙ puts.digits;
      leads = to_is ∙ ap (λ (n : ℕ). size * n) puts.leads;
      inside = subst (λ (n : ℕ). IsState c n) puts.leads puts.inside;
    }

-- the entries of the first places
pub record HasEntries (c : CodeData) (words_of : ℕ → List ℕ) (size : ℕ) (lanes : List (List ℕ)) (next : List ℕ) (count : ℕ) : Type 0 where
  pub lanes_len : length lanes ≡ count
  pub next_len : length next ≡ count
  pub entry : (k : ℕ) → k < count → IsEntry c (words_of (k % size)) size (k / size) (get_or lanes k []) (get_or next k 0)

pub entries_none : (c : CodeData) (words_of : ℕ → List ℕ) (size : ℕ) (lanes : List (List ℕ)) (next : List ℕ) → lanes ≡ [] → next ≡ [] → HasEntries c words_of size lanes next 0
entries_none c words_of size lanes next no_lanes no_next = record {
  lanes_len = ap length no_lanes;
  next_len = ap length no_next;
  entry = λ k below. absurd (omega arith);
}

-- one entry more
pub entries_more :
    (c : CodeData) (words_of : ℕ → List ℕ) (size : ℕ) (lanes more_lanes : List (List ℕ)) (next more_next : List ℕ) (count : ℕ) (lane : List ℕ) (to : ℕ)
    → HasEntries c words_of size lanes next count → IsEntry c (words_of (count % size)) size (count / size) lane to
    → more_lanes ≡ lanes ++ lane ∷ [] → more_next ≡ next ++ to ∷ [] → HasEntries c words_of size more_lanes more_next (count + 1)
entries_more c words_of size lanes more_lanes next more_next count lane to so_far entry lanes_are next_is = record {
  lanes_len = ap length lanes_are ∙ length_push lanes lane ∙ ap (λ (n : ℕ). n + 1) so_far.lanes_len;
  next_len = ap length next_is ∙ length_push next to ∙ ap (λ (n : ℕ). n + 1) so_far.next_len;
  entry = λ k below. elim (cases_lt k count) [
    | inl before ↦ (let lane_same : get_or more_lanes k [] ≡ get_or lanes k [] =
        ap (λ (ls : List (List ℕ)). get_or ls k []) lanes_are ∙ get_or_append_left lanes (lane ∷ []) [] k (omega (arith, so_far.lanes_len)) in
        let to_same : get_or more_next k 0 ≡ get_or next k 0 =
        ap (λ (ns : List ℕ). get_or ns k 0) next_is ∙ get_or_append_left next (to ∷ []) 0 k (omega (arith, so_far.next_len)) in
        rw (lane_same, to_same) (so_far.entry k before))
    | inr not_before ↦ (let last : count ≡ k = omega arith in
        let lane_same : get_or more_lanes k [] ≡ lane = ap (λ (ls : List (List ℕ)). get_or ls k []) lanes_are ∙ get_or_push lanes lane [] k (so_far.lanes_len ∙ last) in
        let to_same : get_or more_next k 0 ≡ to = ap (λ (ns : List ℕ). get_or ns k 0) next_is ∙ get_or_push next to 0 k (so_far.next_len ∙ last) in
        rw (lane_same, to_same) (subst (λ (n : ℕ). IsEntry c (words_of (n % size)) size (n / size) lane to) last entry))
  ];
}

-- all entries are the table
pub entries_all :
    (c : CodeData) (words_of : ℕ → List ℕ) (size : ℕ) (lanes : List (List ℕ)) (next : List ℕ) (count : ℕ) → IsCode c → count ≡ size * length c.rows
    → HasEntries c words_of size lanes next count → IsTable c words_of size lanes next
entries_all c words_of size lanes next count code all so_far = record {
  code = code;
  lanes_len = so_far.lanes_len ∙ all;
  next_len = so_far.next_len ∙ all;
  entry = λ state item inside below.
      let place : ℕ = size * state + item in
      let turned : place ≡ state * size + item = omega arith in
      let bound : state * size + item < size * length c.rows = mul-add-lt state size item (length c.rows) inside below in
      let row : place / size ≡ state = ap (λ (n : ℕ). n / size) turned ∙ div-mul-add state size item below in
      let column : place % size ≡ item = ap (λ (n : ℕ). n % size) turned ∙ mod-mul-add state size item below in
      let made : IsEntry c (words_of (place % size)) size (place / size) (get_or lanes place []) (get_or next place 0) = so_far.entry place (omega (arith, bound, turned, all)) in
      subst (λ (n : ℕ). IsEntry c (words_of n) size state (get_or lanes place []) (get_or next place 0)) column
      (subst (λ (n : ℕ). IsEntry c (words_of (place % size)) size n (get_or lanes place []) (get_or next place 0)) row made);
}
