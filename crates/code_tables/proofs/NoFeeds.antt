-- No line that keeps its rule has a line feed in it, so the number of a wrong line counts line feeds.
use Rattle.std.proofs.Common.{◌≡◌, ℕ, ◌+◌, ◌^◌, ◌<◌, ◌≤◌, true, List, [], ◌∷◌, Option, Some, None, refl, arith}
use Rattle.std.specs.Prelude.{codes, IfSome}
use Rattle.std.specs.Fmt.{decimal}
use Rattle.std.specs.List.{list_all, AllByRecursion}
use Rattle.std.specs.Char.{is_ascii_digit}
use Rattle.std.specs.Str.{all_ascii_digits}
use Rattle.std.proofs.lemmas.Bool.{and_parts, and_from}
use Rattle.std.proofs.lemmas.Bool.Decides.{nat_tests}
use Rattle.std.proofs.lemmas.Fmt.{digits_decimal}
use Rattle.std.proofs.lemmas.List.Folds.{list_all-append}
use Rattle.symbol_base.specs.Block.{symbols_of}
use Rattle.code_spec.specs.declared.CodeRow.{CodeRow}
use Rattle.code_text_spec.specs.CodeText.{spaced, digits, limit, row_line}
use Rattle.code_text_spec.specs.LineRules.{Place, at_version, Keeps, keeps_version, keeps_alphabet, keeps_d, keeps_k, keeps_forbid, keeps_word, keeps_graph, keeps_edge, keeps_rate, keeps_window, keeps_states, keeps_row, keeps_last_row}
use Rattle.text_reading.specs.Lines.{Leads, none, more}
use Rattle.code_tables.specs.ReadCode.{no_feed, HasNoFeed}
use Rattle.text_reading.proofs.Numbers.{digits_are_numerals}
use Rattle.code_tables.proofs.GraphLines.{sizes_to, few_edges}
use Rattle.code_tables.proofs.TableLines.{words_are_few}
use Rattle.code_tables.proofs.OneWay.{IsGood, stays_good}

digit_no_feed : (byte : ℕ) → is_ascii_digit byte ≡ true → no_feed byte ≡ true
digit_no_feed byte h = grind (arith, nat_tests)

digits_no_feed : (text : List ℕ) → all_ascii_digits text ≡ true → HasNoFeed text
digits_no_feed [] h = refl
digits_no_feed (byte ∷ text) h =
    let parts = and_parts (is_ascii_digit byte) (all_ascii_digits text) h in
    and_from (no_feed byte) (list_all no_feed text) (digit_no_feed byte parts.0) (digits_no_feed text parts.1)

number_no_feed : (n : ℕ) → n < 2 ^ 64 → HasNoFeed (decimal n)
number_no_feed n fits = digits_no_feed (decimal n) (digits_decimal digits_are_numerals n fits)

symbol_no_feed : (symbol : ℕ) → no_feed (48 + symbol) ≡ true
symbol_no_feed symbol = grind (arith, nat_tests)

word_no_feed : (word : List ℕ) → HasNoFeed (digits word)
word_no_feed [] = refl
word_no_feed (symbol ∷ word) = and_from (no_feed (48 + symbol)) (list_all no_feed (digits word)) (symbol_no_feed symbol) (word_no_feed word)

joined : (left right : List ℕ) → HasNoFeed left → HasNoFeed right → HasNoFeed (spaced left right)
joined left right one two = rw (list_all-append no_feed left (32 ∷ right)) (and_from (list_all no_feed left) (list_all no_feed (32 ∷ right)) one two)

limit_no_feed : (d : ℕ) (k : Option ℕ) → IfSome k (λ k. (d ≤ k) × (k ≤ 100)) → HasNoFeed (limit k)
limit_no_feed d None range = refl
limit_no_feed d (Some k) range = number_no_feed k (omega (arith, range.1))

row_no_feed : (q state word : ℕ) (row : CodeRow) → state < 2 ^ 64 → word < 2 ^ 64 → row.to < 2 ^ 64 → HasNoFeed (row_line 2 q state word row)
row_no_feed q state word row small few to =
    joined (decimal state) (spaced (decimal word) (spaced (digits (symbols_of 2 q row.block.value)) (decimal row.to))) (number_no_feed state small)
    (joined (decimal word) (spaced (digits (symbols_of 2 q row.block.value)) (decimal row.to)) (number_no_feed word few)
    (joined (digits (symbols_of 2 q row.block.value)) (decimal row.to) (word_no_feed (symbols_of 2 q row.block.value)) (number_no_feed row.to to)))

kept_no_feed : (here : Place) (line : List ℕ) (next : Place) → IsGood here → Keeps here line next → HasNoFeed line
kept_no_feed here line next good keeps_version = refl
kept_no_feed here line next good keeps_alphabet = refl
kept_no_feed here line next good (keeps_d d most) = joined (codes "d") (decimal d) refl (number_no_feed d (omega (arith, most)))
kept_no_feed here line next good (keeps_k d k range) = joined (codes "k") (limit k) refl (limit_no_feed d k range)
kept_no_feed here line next good (keeps_forbid count most) = joined (codes "forbid") (decimal count) refl (number_no_feed count (omega (arith, most)))
kept_no_feed here line next good (keeps_word left before w is order) = word_no_feed w
kept_no_feed here line next good (keeps_graph before s e sizes) =
    let ranges = sizes_to s e sizes in
    let edges : e < 2 ^ 64 = omega (arith, ranges.1.1, few_edges s) in
    joined (codes "graph") (spaced (decimal s) (decimal e)) refl (joined (decimal s) (decimal e) (number_no_feed s (omega (arith, ranges.0.1))) (number_no_feed e edges))
kept_no_feed here line next good (keeps_edge s left before e from label to order) =
    joined (decimal e.from) (spaced (decimal e.label) (decimal e.to)) (number_no_feed e.from (omega (arith, from, good)))
    (joined (decimal e.label) (decimal e.to) (number_no_feed e.label (omega (arith, label))) (number_no_feed e.to (omega (arith, to, good))))
kept_no_feed here line next good (keeps_rate s before p q one eight least most) =
    joined (codes "rate") (spaced (decimal p) (decimal q)) refl (joined (decimal p) (decimal q) (number_no_feed p (omega (arith, eight))) (number_no_feed q (omega (arith, most))))
kept_no_feed here line next good (keeps_window p q past ahead few many) =
    joined (codes "window") (spaced (decimal past) (decimal ahead)) refl (joined (decimal past) (decimal ahead) (number_no_feed past (omega (arith, few))) (number_no_feed ahead (omega (arith, many))))
kept_no_feed here line next good (keeps_states p q count one few) = joined (codes "states") (decimal count) refl (number_no_feed count (omega (arith, few)))
kept_no_feed here line next good (keeps_row p q s state word r inside few block to) =
    row_no_feed q state word r (omega (arith, inside, good.1)) (omega (arith, few, words_are_few p good.0)) (omega (arith, to, good.1))
kept_no_feed here line next good (keeps_last_row p q s state word r inside last block to) =
    row_no_feed q state word r (omega (arith, inside, good.1)) (omega (arith, last, words_are_few p good.0)) (omega (arith, to, good.1))

lines_no_feed : (here there : Place) (lines : List (List ℕ)) → IsGood here → Leads Keeps here lines there → AllByRecursion HasNoFeed lines
lines_no_feed here there lines good (none e) = tt
lines_no_feed here there lines good (more e next last line later keeps leads) =
    (kept_no_feed e line next good keeps, lines_no_feed next last later (stays_good e line next good keeps) leads)

-- no line before a wrong line has a line feed in it
pub lines_have_no_feed : (there : Place) (lines : List (List ℕ)) → Leads Keeps at_version lines there → AllByRecursion HasNoFeed lines
lines_have_no_feed there lines leads = lines_no_feed at_version there lines tt leads
