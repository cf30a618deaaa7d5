-- The readers read exactly the texts of their values.
use Rattle.std.proofs.Common.{◌≡◌, ℕ, ◌+◌, ◌-◌, ◌^◌, ◌<◌, ◌≤◌, true, false, cond, eqb, ltb, leb, List, [], ◌∷◌, ◌++◌, length, take, drop, map, get_or, Some, None, refl, sym, ap, ◌∙◌, subst, arith, append_assoc}
use Rattle.std.specs.Prelude.{◌&&◌, nat_eq}
use Rattle.std.specs.List.{prefix_len, list_all, starts_with, AllByRecursion}
use Rattle.std.specs.Str.{all_ascii_digits}
use Rattle.std.specs.Char.{is_ascii_digit}
use Rattle.std.specs.Fmt.{decimal}
use Rattle.std.specs.Bool.{Decides}
use Rattle.std.proofs.lemmas.Bool.{and_parts, and_from, le-leb, leb-true, lt-ltb, ltb-true, eqb-true, eq-eqb}
use Rattle.std.proofs.lemmas.List.{take_at, drop_at, take-append-drop, length-append, length-take, length-map}
use Rattle.std.proofs.Math.Nat.{mod-eq_of_lt}
use Rattle.std.proofs.lemmas.List.Elements.{recursion_from_All, All-from_recursion}
use Rattle.std.proofs.lemmas.Fmt.{digits_decimal}
use Rattle.std.proofs.lemmas.Slice.Eq.{starts_is}
use Rattle.symbol_base.specs.Block.{number_of, symbols_of}
use Rattle.symbol_base.specs.Word.{IsOver}
use Rattle.symbol_base.proofs.BlockLemmas.{length-symbols_of, IsOver-symbols_of, number_of-symbols_of, symbols_of-number_of, number_of-lt}
use Rattle.text_reading.specs.Reading.{◌>>=◌, after_text, number_in, number_at, field_at, is_symbol_digit, block_at}
use Rattle.text_reading.specs.Reader.{Reads}
use Rattle.text_reading.proofs.Steps.{bind_some, guard_some, some_is}
use Rattle.text_reading.proofs.Numbers.{digits_are_numerals, number_in-decimal, number_in_spells}

same_byte : (a b : ℕ) → Decides (eqb a b) (a ≡ b)
same_byte a b = (eqb-true a b, eq-eqb a b)

-- what stands behind a text
pub after_text-append : (text rest : List ℕ) → after_text text (text ++ rest) ≡ Some rest
unfolding after_text
after_text-append text rest =
    let starts = starts_is same_byte (text ++ rest) text (starts_with nat_eq (text ++ rest) text) refl in
    rw (starts.1 rest refl, drop_at text rest (length text) refl) refl

pub after_text_takes : (text bytes rest : List ℕ) → after_text text bytes ≡ Some rest → bytes ≡ text ++ rest
unfolding after_text
after_text_takes text bytes rest e =
    let starts = starts_is same_byte bytes text (starts_with nat_eq bytes text) refl in
    let test = guard_some (starts_with nat_eq bytes text) (drop (length text) bytes) rest e in
    starts.0 test.0 ∙ ap (λ (behind : List ℕ). text ++ behind) test.1

-- digits end where another byte comes
prefix_len-digits : (text rest : List ℕ) → all_ascii_digits text ≡ true → is_ascii_digit (get_or rest 0 0) ≡ false → prefix_len is_ascii_digit (text ++ rest) ≡ length text
prefix_len-digits [] [] h stop = refl
prefix_len-digits [] (byte ∷ rest) h stop = rw stop refl
prefix_len-digits (digit ∷ text) rest h stop =
    let parts = and_parts (is_ascii_digit digit) (all_ascii_digits text) h in
    rw parts.0 (omega (arith, prefix_len-digits text rest parts.1 stop))

pub number_at-append : (n : ℕ) (rest : List ℕ) → n < 10 ^ 18 → is_ascii_digit (get_or rest 0 0) ≡ false → number_at (decimal n ++ rest) ≡ Some (n, rest)
unfolding number_at
number_at-append n rest small stop =
    let run : prefix_len is_ascii_digit (decimal n ++ rest) ≡ length (decimal n) = prefix_len-digits (decimal n) rest (digits_decimal digits_are_numerals n (omega arith)) stop in
    rw (run, take_at (decimal n) rest (length (decimal n)) refl, drop_at (decimal n) rest (length (decimal n)) refl, number_in-decimal n small) refl

pub number_at_takes : (bytes : List ℕ) (n : ℕ) (rest : List ℕ) → number_at bytes ≡ Some (n, rest) → (bytes ≡ decimal n ++ rest) × (n < 10 ^ 18)
unfolding number_at
number_at_takes bytes n rest e =
    let run = prefix_len is_ascii_digit bytes in
    let read = bind_some (number_in (take run bytes)) (λ number. Some (number, drop run bytes)) (n, rest) e in
    let spelled = number_in_spells (take run bytes) read.0 read.1 in
    let pair : (read.0, drop run bytes) ≡ (n, rest) = some_is _ _ read.2 in
    let number : read.0 ≡ n = ap (λ (x : ℕ × List ℕ). x.0) pair in
    let behind : drop run bytes ≡ rest = ap (λ (x : ℕ × List ℕ). x.1) pair in
    let small : read.0 < 10 ^ 18 = spelled.1 in
    let text : bytes ≡ decimal n ++ rest = sym (take-append-drop run bytes) ∙ rw (spelled.0, number, behind) refl in
    (text, subst (λ (value : ℕ). value < 10 ^ 18) number small)

-- two parts, one behind the other
pub joined : (bytes first text second after behind rest : List ℕ) → bytes ≡ first ++ after → after ≡ second ++ behind → first ≡ text → behind ≡ rest → bytes ≡ text ++ second ++ rest
joined bytes first text second after behind rest front back same ends = front ∙ rw (back, same, ends) (sym (append_assoc text second rest))

-- a number between two bounds that a byte other than a digit ends
pub field_reads : (end least most : ℕ) → is_ascii_digit end ≡ false → most < 10 ^ 18
    → Reads (field_at end least most) (λ n. decimal n ++ end ∷ []) (λ n. (least ≤ n) × (n ≤ most))
unfolding field_at
field_reads end least most stop small = record {
  again = λ n rest range.
      let read : number_at (decimal n ++ end ∷ rest) ≡ Some (n, end ∷ rest) = number_at-append n (end ∷ rest) (omega arith) stop in
      let ended : after_text (end ∷ []) (end ∷ rest) ≡ Some rest = after_text-append (end ∷ []) rest in
      let inside : (leb least n && leb n most) ≡ true = and_from _ _ (le-leb _ _ range.0) (le-leb _ _ range.1) in
      rw (append_assoc, read, ended, inside) refl;
  takes = λ bytes n rest e.
      let read = bind_some (number_at bytes) (λ x. after_text (end ∷ []) x.1 >>= λ behind. cond (leb least x.0 && leb x.0 most) (Some (x.0, behind)) None) (n, rest) e in
      let ended = bind_some (after_text (end ∷ []) read.0.1) (λ behind. cond (leb least read.0.0 && leb read.0.0 most) (Some (read.0.0, behind)) None) (n, rest) read.2 in
      let inside = guard_some (leb least read.0.0 && leb read.0.0 most) (read.0.0, ended.0) (n, rest) ended.2 in
      let number : read.0.0 ≡ n = ap (λ (x : ℕ × List ℕ). x.0) inside.1 in
      let behind : ended.0 ≡ rest = ap (λ (x : ℕ × List ℕ). x.1) inside.1 in
      let bounds = and_parts (leb least read.0.0) (leb read.0.0 most) inside.0 in
      let low : least ≤ read.0.0 = leb-true _ _ bounds.0 in
      let high : read.0.0 ≤ most = leb-true _ _ bounds.1 in
      let spelled = number_at_takes bytes read.0.0 read.0.1 read.1 in
      let closed = after_text_takes (end ∷ []) read.0.1 ended.0 ended.1 in
      let text : bytes ≡ decimal n ++ end ∷ [] ++ rest = joined bytes (decimal read.0.0) (decimal n) (end ∷ []) read.0.1 ended.0 rest spelled.0 closed (ap (λ v. decimal v) number) behind in
      (text, (omega (arith, low, number), omega (arith, high, number)));
}

-- the digit of a symbol stands for the symbol, and that of no other byte does
symbol_digit : (alphabet symbol : ℕ) → symbol < alphabet → is_symbol_digit alphabet (48 + symbol) ≡ true
symbol_digit alphabet symbol below = and_from _ _ (le-leb 48 (48 + symbol) (omega arith)) (lt-ltb (48 + symbol - 48) alphabet (omega arith))

pub digits_of_word : (alphabet : ℕ) (word : List ℕ) → AllByRecursion (λ symbol. symbol < alphabet) word → list_all (is_symbol_digit alphabet) (map (λ symbol. 48 + symbol) word) ≡ true
digits_of_word alphabet [] over = refl
digits_of_word alphabet (symbol ∷ word) over = and_from _ _ (symbol_digit alphabet symbol over.0) (digits_of_word alphabet word over.1)

pub symbols_of_digits : (word : List ℕ) → map (λ byte. byte - 48) (map (λ symbol. 48 + symbol) word) ≡ word
symbols_of_digits [] = refl
symbols_of_digits (symbol ∷ word) =
    let same : (48 + symbol) - 48 ≡ symbol = omega arith in
    rw (same, symbols_of_digits word) refl

-- bytes that are digits of symbols are the digits of their symbols
pub digits_again : (alphabet : ℕ) (bytes : List ℕ) → list_all (is_symbol_digit alphabet) bytes ≡ true
    → (map (λ symbol. 48 + symbol) (map (λ byte. byte - 48) bytes) ≡ bytes) × AllByRecursion (λ symbol. symbol < alphabet) (map (λ byte. byte - 48) bytes)
digits_again alphabet [] h = (refl, tt)
digits_again alphabet (byte ∷ bytes) h =
    let parts = and_parts (is_symbol_digit alphabet byte) (list_all (is_symbol_digit alphabet) bytes) h in
    let range = and_parts (leb 48 byte) (ltb (byte - 48) alphabet) parts.0 in
    let low : 48 ≤ byte = leb-true _ _ range.0 in
    let below : byte - 48 < alphabet = ltb-true _ _ range.1 in
    let same : 48 + (byte - 48) ≡ byte = omega arith in
    let others = digits_again alphabet bytes parts.1 in
    (rw (same, others.0) refl, (below, others.1))

block_at-append : (alphabet q value : ℕ) (rest : List ℕ) → 2 ≤ alphabet → value < alphabet ^ q
    → block_at alphabet q (map (λ symbol. 48 + symbol) (symbols_of alphabet q value) ++ rest) ≡ Some (value, rest)
unfolding block_at
block_at-append alphabet q value rest two below =
    let word : List ℕ = symbols_of alphabet q value in
    let text : List ℕ = map (λ symbol. 48 + symbol) word in
    let q_long : length text ≡ q = length-map word (λ symbol. 48 + symbol) ∙ length-symbols_of alphabet q value in
    let enough : leb q (length (text ++ rest)) ≡ true = le-leb _ _ (omega (arith, length-append text rest, q_long)) in
    let front : take q (text ++ rest) ≡ text = take_at text rest q q_long in
    let behind : drop q (text ++ rest) ≡ rest = drop_at text rest q q_long in
    let over : AllByRecursion (λ symbol. symbol < alphabet) word = recursion_from_All (λ symbol. symbol < alphabet) word (IsOver-symbols_of alphabet q value (omega arith)) in
    let are_digits : list_all (is_symbol_digit alphabet) text ≡ true = digits_of_word alphabet word over in
    let number : number_of alphabet word ≡ value = number_of-symbols_of alphabet q value (omega arith) ∙ mod-eq_of_lt below in
    rw (enough, front, behind, are_digits, symbols_of_digits word, number) refl

length-symbols : (q : ℕ) (bytes : List ℕ) → q ≤ length bytes → length (map (λ byte. byte - 48) (take q bytes)) ≡ q
length-symbols q bytes enough = omega (arith, length-map (take q bytes) (λ byte. byte - 48), length-take q bytes)

positive : (alphabet : ℕ) → 2 ≤ alphabet → 1 ≤ alphabet
positive alphabet two = omega arith

block_at_takes : (alphabet q : ℕ) (bytes : List ℕ) (value : ℕ) (rest : List ℕ) → 2 ≤ alphabet → block_at alphabet q bytes ≡ Some (value, rest)
    → (bytes ≡ map (λ symbol. 48 + symbol) (symbols_of alphabet q value) ++ rest) × (value < alphabet ^ q)
unfolding block_at
block_at_takes alphabet q bytes value rest two e =
    let front : List ℕ = take q bytes in
    let word : List ℕ = map (λ byte. byte - 48) front in
    let read : ((leb q (length bytes) && list_all (is_symbol_digit alphabet) front) ≡ true) × ((number_of alphabet word, drop q bytes) ≡ (value, rest)) =
    guard_some (leb q (length bytes) && list_all (is_symbol_digit alphabet) front) (number_of alphabet word, drop q bytes) (value, rest) e in
    let tests = and_parts (leb q (length bytes)) (list_all (is_symbol_digit alphabet) front) read.0 in
    let enough : q ≤ length bytes = leb-true q (length bytes) tests.0 in
    let again = digits_again alphabet front tests.1 in
    let q_long : length word ≡ q = length-symbols q bytes enough in
    let over : IsOver alphabet word = All-from_recursion (λ symbol. symbol < alphabet) word again.1 in
    let number : number_of alphabet word ≡ value = ap (λ (x : ℕ × List ℕ). x.0) read.1 in
    let behind : drop q bytes ≡ rest = ap (λ (x : ℕ × List ℕ). x.1) read.1 in
    let spelled : symbols_of alphabet q value ≡ word =
    sym (subst (λ n. symbols_of alphabet n (number_of alphabet word) ≡ symbols_of alphabet q value) (sym q_long) (ap (λ v. symbols_of alphabet q v) number)) ∙ symbols_of-number_of alphabet word (positive alphabet two) over in
    let below : number_of alphabet word < alphabet ^ q = subst (λ n. number_of alphabet word < alphabet ^ n) q_long (number_of-lt alphabet word over) in
    (sym (take-append-drop q bytes) ∙ rw (behind, spelled, again.0) refl, subst (λ v. v < alphabet ^ q) number below)

-- the block of a word of q symbols
pub block_reads : (alphabet q : ℕ) → 2 ≤ alphabet → Reads (block_at alphabet q) (λ value. map (λ symbol. 48 + symbol) (symbols_of alphabet q value)) (λ value. value < alphabet ^ q)
block_reads alphabet q two = record {
  again = λ value rest below. block_at-append alphabet q value rest two below;
  takes = λ bytes value rest e. block_at_takes alphabet q bytes value rest two e;
}
