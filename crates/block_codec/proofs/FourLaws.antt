-- The table of the answers to four windows in a row, and the answers to eight windows by two of its entries.
use Rattle.std.proofs.Common.{◌≡◌, ℕ, ◌+◌, ◌-◌, ◌*◌, ◌/◌, ◌%◌, ◌<◌, ◌≤◌, ◌^◌, ⊎_elim, List, [], ◌∷◌, ◌++◌, length, get_or, drop, sym, ap, ◌∙◌, subst, arith}
use Rattle.std.proofs.lemmas.Bool.{cases_lt}
use Rattle.std.proofs.lemmas.List.{length-append, get_or_append_left, get_or_push, drop-append-le}
use Rattle.symbol_base.specs.declared.Block.{Block}
use Rattle.symbol_base.specs.Block.{symbols_of}
use Rattle.symbol_base.proofs.BlockLemmas.{power_positive}
use Rattle.code_spec.specs.Code.{CodeData}
use Rattle.code_spec.specs.Decoder.{window_length, AreDecoded}
use Rattle.block_codec.specs.inside.Answers.{blocks_in}
use Rattle.block_codec.specs.inside.Fours.{IsFour, IsFourTable}
use Rattle.block_codec.proofs.AnswerLaws.{power_of_power, length-blocks_in}
use Rattle.block_codec.proofs.GroupLaws.{symbols_of-joined, blocks_in-append, blocks_in-mod, drop_front, decoded_joined}

-- ---- the table, entry by entry

-- the first entries are made
pub record MadeFours (c : CodeData) (count : ℕ) (table : List ℕ) : Type 0 where
  pub entries : length table ≡ count
  pub four : (here : ℕ) → here < count → IsFour c here (get_or table here 0)

pub fours_none : (c : CodeData) → MadeFours c 0 []
fours_none c = record { entries = omega arith; four = λ here inside. absurd (omega (arith, inside)) }

pub fours_more : (c : CodeData) (table more : List ℕ) (count entry : ℕ) → more ≡ table ++ entry ∷ [] → IsFour c count entry → MadeFours c count table → MadeFours c (count + 1) more
fours_more c table more count entry is answer before = record {
  entries = omega (arith, ap (λ (list : List ℕ). length list) is, length-append table (entry ∷ []), before.entries);
  four =
      λ here inside.
      subst (λ (list : List ℕ). IsFour c here (get_or list here 0)) (sym is)
      (⊎_elim
      (λ (early : here < count).
      subst (λ n. IsFour c here n) (sym (get_or_append_left table (entry ∷ []) 0 here (omega (arith, early, before.entries)))) (before.four here early))
      (λ (late : count ≤ here).
      let last : count ≡ here = omega (arith, late, inside) in
      subst (λ n. IsFour c n (get_or (table ++ entry ∷ []) n 0)) last (subst (λ n. IsFour c count n) (sym (get_or_push table entry 0 count before.entries)) answer))
      (cases_lt here count));
}

pub fours_all : (c : CodeData) (table : List ℕ) (count : ℕ) → count ≡ 2 ^ (c.q * (window_length c + 3)) → MadeFours c count table → IsFourTable c table
fours_all c table count all made = record { entries = made.entries ∙ all; four = λ here inside. made.four here (omega (arith, inside, made.entries)) }

-- ---- eight windows

-- the words of the first four windows, and behind them those of the others
pub fours_joined : (c : CodeData) (here early late high low number : ℕ)
    → early ≡ here / 2 ^ (c.q * 4) % 2 ^ (c.q * (window_length c + 3)) → late ≡ here % 2 ^ (c.q * (window_length c + 3))
    → IsFour c early high → IsFour c late low → number ≡ high * 2 ^ (c.p * 4) + low
    → AreDecoded c (blocks_in c.q (window_length c + 7) here) (symbols_of (2 ^ c.p) 8 number)
fours_joined c here early late high low number early_is late_is first second is =
    let n = window_length c in
    let a = 2 ^ c.p in
    let came = blocks_in c.q (n + 3) (here / 2 ^ (c.q * 4)) in
    let more = blocks_in c.q 4 here in
    let len : length came ≡ n + 3 = length-blocks_in c.q (n + 3) (here / 2 ^ (c.q * 4)) in
    let front = blocks_in c.q 4 (here / 2 ^ (c.q * (n + 3))) in
    let sum : n + 7 ≡ n + 3 + 4 = omega arith in
    let turned : n + 7 ≡ 4 + (n + 3) = omega arith in
    let whole : blocks_in c.q (n + 7) here ≡ came ++ more = ap (λ k. blocks_in c.q k here) sum ∙ blocks_in-append c.q (n + 3) 4 here in
    let cut : blocks_in c.q (n + 7) here ≡ front ++ blocks_in c.q (n + 3) here = ap (λ k. blocks_in c.q k here) turned ∙ blocks_in-append c.q 4 (n + 3) here in
    let start : length came + 1 - n ≡ 4 = omega (arith, len) in
    let short : 4 ≤ length came = omega (arith, len) in
    let behind : blocks_in c.q (n + 3) here ≡ drop (length came + 1 - n) came ++ more =
    sym (drop_front 4 front (blocks_in c.q (n + 3) here) (length-blocks_in c.q 4 (here / 2 ^ (c.q * (n + 3)))))
    ∙ ap (λ (bs : List Block). drop 4 bs) (sym cut ∙ whole)
    ∙ drop-append-le 4 came more short
    ∙ ap (λ k. drop k came ++ more) (sym start) in
    let before : AreDecoded c came (symbols_of a 4 high) =
    subst (λ (bs : List Block). AreDecoded c bs (symbols_of a 4 high)) (ap (λ k. blocks_in c.q (n + 3) k) early_is ∙ blocks_in-mod c.q (n + 3) (here / 2 ^ (c.q * 4))) first.words in
    let after : AreDecoded c (drop (length came + 1 - n) came ++ more) (symbols_of a 4 low) =
    subst (λ (bs : List Block). AreDecoded c bs (symbols_of a 4 low)) (ap (λ k. blocks_in c.q (n + 3) k) late_is ∙ blocks_in-mod c.q (n + 3) here ∙ behind) second.words in
    let weight : a ^ 4 ≡ 2 ^ (c.p * 4) = power_of_power c.p 4 in
    let digits : symbols_of a 4 high ++ symbols_of a 4 low ≡ symbols_of a 8 number =
    sym (symbols_of-joined a 4 4 high low (power_positive 2 c.p (omega arith)) (subst (λ w. low < w) (sym weight) second.below))
    ∙ ap (λ w. symbols_of a 8 (high * w + low)) weight ∙ ap (λ k. symbols_of a 8 k) (sym is) in
    subst (λ (bs : List Block). AreDecoded c bs (symbols_of a 8 number)) (sym whole)
    (subst (λ (ws : List ℕ). AreDecoded c (came ++ more) ws) digits (decoded_joined c came more (symbols_of a 4 high) (symbols_of a 4 low) (omega (arith, len)) before after))
