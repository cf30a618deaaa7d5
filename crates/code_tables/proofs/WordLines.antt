-- Forbidden words are read exactly where they ascend.
use Rattle.std.proofs.Common.{◌≡◌, ℕ, suc, ◌+◌, ◌-◌, ◌<◌, ◌≤◌, Bool, true, false, cond, leb, List, [], ◌∷◌, ◌++◌, length, take, drop, map, Option, Some, None, refl, sym, ap, ◌∙◌, subst, arith, append_assoc}
use Rattle.std.specs.Prelude.{◌&&◌, IfSome}
use Rattle.std.proofs.lemmas.Bool.{and_parts, and_from, le-leb, leb-true}
use Rattle.std.specs.List.{list_all}
use Rattle.std.proofs.lemmas.List.{take_at, drop_at, take-append-drop, length-take, length-map}
use Rattle.std.proofs.lemmas.List.Sums.{prefix_len-le-length}
use Rattle.std.proofs.lemmas.List.Elements.{recursion_from_All, All-from_recursion}
use Rattle.symbol_base.specs.Word.{IsBefore}
use Rattle.symbol_base.proofs.WordOrder.{before_from, before_to}
use Rattle.constraint_spec.specs.Ranges.{IsForbiddable}
use Rattle.code_text_spec.specs.CodeText.{digits}
use Rattle.code_text_spec.specs.LineRules.{Place, at_words, Keeps, keeps_word, IsEnd}
use Rattle.text_reading.specs.Reading.{after_text, is_symbol_digit}
use Rattle.text_reading.specs.Reader.{Reads}
use Rattle.text_reading.specs.LineReader.{one_line, ReadsLines, lines_along, HoldsAlong, after_all}
use Rattle.text_reading.proofs.Steps.{bind_some, guard_some}
use Rattle.text_reading.proofs.Readers.{after_text-append, after_text_takes, digits_of_word, symbols_of_digits, digits_again}
use Rattle.text_reading.proofs.LineReaders.{one_line_reads, parts_read}
use Rattle.code_tables.specs.inside.Reading.{follows, digit_count, digits_at, forbidden_at, forbidden_words_at}
use Rattle.code_tables.proofs.LineKinds.{IsNext, ends_at_row}

-- ---- the order of words

follows_from : (before : Option (List ℕ)) (w : List ℕ) → follows before w ≡ true → IfSome before (λ b. IsBefore b w)
follows_from None w e = tt
follows_from (Some b) w e = before_from b w e

follows_to : (before : Option (List ℕ)) (w : List ℕ) → IfSome before (λ b. IsBefore b w) → follows before w ≡ true
follows_to None w h = refl
follows_to (Some b) w h = before_to b w h

-- ---- the digits

digit_count-append : (text rest : List ℕ) → list_all (is_symbol_digit 2) text ≡ true → digit_count (text ++ 10 ∷ rest) ≡ length text
digit_count-append [] rest h = refl
digit_count-append (digit ∷ text) rest h =
    let parts = and_parts (is_symbol_digit 2 digit) (list_all (is_symbol_digit 2) text) h in
    rw parts.0 (omega (arith, digit_count-append text rest parts.1))

one_digit_more : (byte : ℕ) (bytes : List ℕ) (b : Bool) → is_symbol_digit 2 byte ≡ b → list_all (is_symbol_digit 2) (take (digit_count bytes) bytes) ≡ true
    → list_all (is_symbol_digit 2) (take (digit_count (byte ∷ bytes)) (byte ∷ bytes)) ≡ true
one_digit_more byte bytes true e all =
    let up : 1 + digit_count bytes ≡ suc (digit_count bytes) = omega arith in
    rw (e, up) (and_from (is_symbol_digit 2 byte) (list_all (is_symbol_digit 2) (take (digit_count bytes) bytes)) e all)
one_digit_more byte bytes false e all = rw e refl

digits_counted : (bytes : List ℕ) → list_all (is_symbol_digit 2) (take (digit_count bytes) bytes) ≡ true
digits_counted [] = refl
digits_counted (byte ∷ bytes) = one_digit_more byte bytes (is_symbol_digit 2 byte) refl (digits_counted bytes)

digits_again_at : (w rest : List ℕ) → IsForbiddable 2 w → digits_at ((digits w ++ 10 ∷ []) ++ rest) ≡ Some (w, rest)
unfolding digits_at
digits_again_at w rest is =
    let text : List ℕ = digits w in
    let all : list_all (is_symbol_digit 2) text ≡ true = digits_of_word 2 w (recursion_from_All (λ symbol. symbol < 2) w is.2) in
    let long : length text ≡ length w = length-map w (λ symbol. 48 + symbol) in
    let count : digit_count (text ++ 10 ∷ rest) ≡ length text = digit_count-append text rest all in
    let ended : after_text (10 ∷ []) (10 ∷ rest) ≡ Some rest = after_text-append (10 ∷ []) rest in
    let one : 1 ≤ length text = omega (arith, is.0, long) in
    let most : length text ≤ 32 = omega (arith, is.1, long) in
    let inside : (leb 1 (length text) && leb (length text) 32) ≡ true = and_from (leb 1 (length text)) (leb (length text) 32) (le-leb 1 (length text) one) (le-leb (length text) 32 most) in
    rw (append_assoc, count, take_at text (10 ∷ rest) (length text) refl, drop_at text (10 ∷ rest) (length text) refl, ended, inside, symbols_of_digits w) refl

digits_take : (bytes w rest : List ℕ) → digits_at bytes ≡ Some (w, rest) → (bytes ≡ (digits w ++ 10 ∷ []) ++ rest) × IsForbiddable 2 w
unfolding digits_at
digits_take bytes w rest e =
    let n : ℕ = digit_count bytes in
    let front : List ℕ = take n bytes in
    let value : List ℕ = map (λ byte. byte - 48) front in
    let one : (after : List ℕ) × (after_text (10 ∷ []) (drop n bytes) ≡ Some after) × (cond (leb 1 n && leb n 32) (Some (value, after)) None ≡ Some (w, rest)) =
    bind_some (after_text (10 ∷ []) (drop n bytes)) (λ after. cond (leb 1 n && leb n 32) (Some (value, after)) None) (w, rest) e in
    let test : ((leb 1 n && leb n 32) ≡ true) × ((value, one.0) ≡ (w, rest)) = guard_some (leb 1 n && leb n 32) (value, one.0) (w, rest) one.2 in
    let range : (leb 1 n ≡ true) × (leb n 32 ≡ true) = and_parts (leb 1 n) (leb n 32) test.0 in
    let again = digits_again 2 front (digits_counted bytes) in
    let few : n ≤ length bytes = prefix_len-le-length (is_symbol_digit 2) bytes in
    let long : length value ≡ n = omega (arith, length-map front (λ byte. byte - 48), length-take n bytes, few) in
    let text : bytes ≡ (digits value ++ 10 ∷ []) ++ one.0 =
    sym (take-append-drop n bytes) ∙ ap (λ (t : List ℕ). front ++ t) (after_text_takes (10 ∷ []) (drop n bytes) one.0 one.1) ∙ sym (append_assoc front (10 ∷ []) one.0) ∙ ap (λ (t : List ℕ). (t ++ 10 ∷ []) ++ one.0) (sym again.0) in
    let is : IsForbiddable 2 value = (omega (arith, long, leb-true 1 n range.0), omega (arith, long, leb-true n 32 range.1), All-from_recursion (λ symbol. symbol < 2) value again.1) in
    subst (λ (p : List ℕ × List ℕ). (bytes ≡ (digits p.0 ++ 10 ∷ []) ++ p.1) × IsForbiddable 2 p.0) test.1 (text, is)

-- ---- the words

abbrev pub IsNextWord : Option (List ℕ) → List ℕ → Type 0
IsNextWord = IsNext (IsForbiddable 2) IsBefore

word_again : (before : Option (List ℕ)) (w rest : List ℕ) → IsNextWord before w → forbidden_at before ((digits w ++ 10 ∷ []) ++ rest) ≡ Some (w, rest)
unfolding forbidden_at
word_again before w rest is = rw (digits_again_at w rest is.0, follows_to before w is.1) refl

word_takes : (before : Option (List ℕ)) (bytes w rest : List ℕ) → forbidden_at before bytes ≡ Some (w, rest) → (bytes ≡ (digits w ++ 10 ∷ []) ++ rest) × IsNextWord before w
unfolding forbidden_at
word_takes before bytes w rest e =
    let one : (x : List ℕ × List ℕ) × (digits_at bytes ≡ Some x) × (cond (follows before x.0) (Some x) None ≡ Some (w, rest)) =
    bind_some (digits_at bytes) (λ x. cond (follows before x.0) (Some x) None) (w, rest) e in
    let test = guard_some (follows before one.0.0) one.0 (w, rest) one.2 in
    let own = digits_take bytes one.0.0 one.0.1 one.1 in
    subst (λ (p : List ℕ × List ℕ). (bytes ≡ (digits p.0 ++ 10 ∷ []) ++ p.1) × IsNextWord before p.0) test.1 (own.0, (own.1, follows_from before one.0.0 test.0))

pub word_reads : (before : Option (List ℕ)) → Reads (forbidden_at before) (λ w. digits w ++ 10 ∷ []) (IsNextWord before)
word_reads before = record { again = word_again before; takes = word_takes before }

word_kept : (left : ℕ) (before : Option (List ℕ)) (text : List ℕ) (next : Place) → Keeps (at_words (suc left) before) text next → (w : List ℕ) × IsNextWord before w × (text ≡ digits w)
word_kept left before text next (keeps_word l b w is order) = (w, (is, order), refl)

abbrev pub words_lines : List (List ℕ) → List (List ℕ)
words_lines words = lines_along (λ before w. digits w ∷ []) (λ before w. Some w) None words

abbrev pub AreWords : ℕ → List (List ℕ) → Type 0
AreWords count words = (length words ≡ count) × HoldsAlong IsNextWord (λ before w. Some w) None words

pub words_read : (count : ℕ) → ReadsLines Keeps IsEnd (forbidden_words_at count) words_lines (AreWords count) (at_words count None) (λ words. at_words 0 (after_all (λ before w. Some w) None words))
unfolding forbidden_words_at
words_read count =
    parts_read Keeps IsEnd (λ before. one_line (forbidden_at before)) (λ before w. Some w) 1 (λ before w. digits w ∷ []) IsNextWord (λ left before. Unit {0}) at_words
    (λ left before inside. one_line_reads Keeps IsEnd (forbidden_at before) digits (IsNextWord before) (at_words (suc left) before) (λ w. at_words left (Some w)) (word_reads before)
    (λ w is. keeps_word left before w is.0 is.1) (word_kept left before) (ends_at_row (at_words (suc left) before)))
    (λ before w is. refl) (λ left before w inside is. tt) count None tt
