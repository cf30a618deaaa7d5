-- Digits that are put one part behind the other.
use Rattle.std.proofs.Common.{◌≡◌, ℕ, ◌+◌, ◌*◌, ◌<◌, ◌≤◌, List, [], ◌∷◌, ◌++◌, length, take, get_or, set, refl, sym, ap, ◌∙◌, arith, append_assoc}
use Rattle.std.proofs.Math.Nat.{mul-le-mul_left}
use Rattle.std.proofs.lemmas.List.{map-append, append-nil, length-append, length-map, take_more, take_more_set}
use Rattle.symbol_base.specs.declared.Block.{Block}
use Rattle.symbol_base.specs.Block.{symbols_of}
use Rattle.code_spec.specs.Code.{CodeData, IsState}
use Rattle.code_spec.specs.Output.{row_at, state_after, output, flat}
use Rattle.code_spec.proofs.OutputLaws.{output_from-append, state_after-append, flat-append, length-flat, length-output_from}
use Rattle.block_codec.specs.inside.Digits.{digits_of, digits_from, PutsDigits}

-- words behind words have their digits behind theirs, from the state that these lead to
pub digits_from-append : (c : CodeData) (state : ℕ) (xs ys : List ℕ) → digits_from c state (xs ++ ys) ≡ digits_from c state xs ++ digits_from c (state_after c.rows state xs) ys
unfolding digits_from
digits_from-append c state xs ys =
    ap (λ (blocks : List Block). digits_of (flat c blocks)) (output_from-append c.rows state xs ys)
    ∙ ap digits_of (flat-append c (output c state xs) (output c (state_after c.rows state xs) ys))
    ∙ map-append (λ symbol. 48 + symbol) (flat c (output c state xs)) (flat c (output c (state_after c.rows state xs) ys))

-- q digits for each word
pub length-digits_from : (c : CodeData) (state : ℕ) (words : List ℕ) → length (digits_from c state words) ≡ c.q * length words
unfolding digits_from
length-digits_from c state words =
    length-map (flat c (output c state words)) (λ symbol. 48 + symbol) ∙ length-flat c (output c state words) ∙ ap (λ (n : ℕ). c.q * n) (length-output_from c.rows state words)

-- one digit more of a word
pub digit_more : (room old word : List ℕ) (at k symbol : ℕ) → at + k < length room → k < length word → symbol ≡ get_or word k 0 → take (at + k) room ≡ take at old ++ digits_of (take k word)
    → take (at + (k + 1)) (set room (at + k) (48 + symbol)) ≡ take at old ++ digits_of (take (k + 1) word)
digit_more room old word at k symbol inside within same so_far =
    let next : at + (k + 1) ≡ at + k + 1 = omega arith in
    ap (λ (n : ℕ). take n (set room (at + k) (48 + symbol))) next
    ∙ take_more_set room (at + k) (48 + symbol) inside
    ∙ ap (λ (ds : List ℕ). ds ++ (48 + symbol) ∷ []) so_far
    ∙ append_assoc (take at old) (digits_of (take k word)) ((48 + symbol) ∷ [])
    ∙ ap (λ (ds : List ℕ). take at old ++ ds)
    (sym (map-append (λ symbol. 48 + symbol) (take k word) (symbol ∷ []))
    ∙ ap (λ (s : ℕ). digits_of (take k word ++ s ∷ [])) same
    ∙ ap digits_of (sym (take_more word k 0 within)))

-- one word puts the digits of its block
pub puts_one : (c : CodeData) (state word at next : ℕ) (old new : List ℕ) → c.constraint.alphabet ≡ 2
    → take (at + c.q) new ≡ take at old ++ digits_of (symbols_of 2 c.q (row_at c.rows state word).block.value)
    → next ≡ (row_at c.rows state word).to → IsState c next → length new ≡ length old → PutsDigits c state (word ∷ []) at old new next
unfolding digits_from
puts_one c state word at next old new two put leads inside len =
    let block = (row_at c.rows state word).block.value in
    let one : at + c.q * length (word ∷ []) ≡ at + c.q = omega arith in
    record {
      digits = ap (λ (n : ℕ). take n new) one ∙ put
          ∙ ap (λ (n : ℕ). take at old ++ digits_of (symbols_of n c.q block)) (sym two)
          ∙ ap (λ (ss : List ℕ). take at old ++ digits_of ss) (sym (append-nil (symbols_of c.constraint.alphabet c.q block)));
      leads = leads;
      inside = inside;
      len = len;
    }

-- no words put nothing
pub puts_none : (c : CodeData) (state at : ℕ) (room : List ℕ) → IsState c state → PutsDigits c state [] at room room state
unfolding digits_from
puts_none c state at room inside = record {
  digits = ap (λ (n : ℕ). take n room) (omega arith) ∙ sym (append-nil (take at room));
  leads = refl;
  inside = inside;
  len = refl;
}

-- words behind words
pub puts_then : (c : CodeData) (state via next at there : ℕ) (xs ys all old mid new : List ℕ) → xs ++ ys ≡ all → there ≡ at + c.q * length xs
    → PutsDigits c state xs at old mid via → PutsDigits c via ys there mid new next → PutsDigits c state all at old new next
puts_then c state via next at there xs ys all old mid new whole there_is first second =
    let more : c.q * (length xs + length ys) ≡ c.q * length xs + c.q * length ys = grind arith in
    let count : length all ≡ length xs + length ys = ap length (sym whole) ∙ length-append xs ys in
    let end : at + c.q * length all ≡ there + c.q * length ys = ap (λ (n : ℕ). at + c.q * n) count ∙ omega (arith, more, there_is) in
    let before : take there mid ≡ take at old ++ digits_from c state xs = ap (λ (n : ℕ). take n mid) there_is ∙ first.digits in
    record {
      digits = ap (λ (n : ℕ). take n new) end ∙ second.digits ∙ ap (λ (ds : List ℕ). ds ++ digits_from c via ys) before
          ∙ append_assoc (take at old) (digits_from c state xs) (digits_from c via ys)
          ∙ ap (λ (ds : List ℕ). take at old ++ ds)
          (ap (λ (s : ℕ). digits_from c state xs ++ digits_from c s ys) first.leads ∙ sym (digits_from-append c state xs ys) ∙ ap (λ (ws : List ℕ). digits_from c state ws) whole);
      leads = second.leads ∙ ap (λ (s : ℕ). state_after c.rows s ys) first.leads ∙ sym (state_after-append c.rows state xs ys) ∙ ap (λ (ws : List ℕ). state_after c.rows state ws) whole;
      inside = second.inside;
      len = second.len ∙ first.len;
    }

-- there is room for the next of so many words
pub room_for_next : (q at from done all room : ℕ) → at ≡ from + q * done → done < all → from + q * all ≤ room → at + q ≤ room
room_for_next q at from done all room here inside fits =
    let more : q * (done + 1) ≤ q * all = mul-le-mul_left q (omega arith) in
    let one : q * (done + 1) ≡ q * done + q = grind arith in
    omega (arith, more, one, here, fits)
