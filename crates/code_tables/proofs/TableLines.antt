-- The lines from the rate on are read exactly where their rules are kept.
use Rattle.std.proofs.Common.{◌≡◌, ℕ, zero, suc, ◌+◌, ◌-◌, ◌^◌, ◌<◌, ◌≤◌, List, [], ◌∷◌, ◌++◌, length, Option, Some, refl, ap, ◌∙◌, subst, arith, append_assoc}
use Rattle.std.specs.Prelude.{codes}
use Rattle.std.specs.Fmt.{decimal}
use Rattle.std.proofs.Math.Nat.{pow-le-pow_right}
use Rattle.symbol_base.specs.Block.{symbols_of}
use Rattle.constraint_spec.specs.declared.GraphEdge.{GraphEdge}
use Rattle.code_spec.specs.declared.CodeRow.{CodeRow}
use Rattle.code_text_spec.specs.CodeText.{spaced, digits, row_line}
use Rattle.code_text_spec.specs.LineRules.{Place, at_edges, at_window, at_states, at_row, Keeps, keeps_rate, keeps_window, keeps_states, keeps_row, keeps_last_row, IsEnd, behind_last_row}
use Rattle.text_reading.specs.Reading.{field_at, block_at, behind, both}
use Rattle.text_reading.specs.Reader.{Reads}
use Rattle.text_reading.specs.LineReader.{one_line, both_lines, ReadsLines, lines_along, HoldsAlong, after_all}
use Rattle.text_reading.proofs.Steps.{bind_some, some_is}
use Rattle.text_reading.proofs.Readers.{field_reads, block_reads}
use Rattle.text_reading.proofs.Composed.{behind_reads, both_read}
use Rattle.text_reading.proofs.LineReaders.{one_line_reads, both_lines_read, parts_read}
use Rattle.code_tables.specs.inside.Reading.{rate_at, window_at, states_at, row_numbers_at, row_from, code_row_at, sizes_at, state_at, table_at}
use Rattle.code_tables.proofs.LineKinds.{reads_as, field_text, IsRange, ends_at_row}

-- ---- rate, window and states

abbrev pub two_numbers : List ℕ → ℕ × ℕ → List ℕ
two_numbers key pair = spaced key (spaced (decimal pair.0) (decimal pair.1))

-- a key and two numbers, the second in a range that the first decides
pub two_numbers_read : (key : List ℕ) (least most : ℕ) (low high : ℕ → ℕ) → most < 10 ^ 18 → ((n : ℕ) → high n < 10 ^ 18)
    → Reads (behind (key ++ 32 ∷ []) (both (field_at 32 least most) (λ a. field_at 10 (low a) (high a)))) (λ pair. two_numbers key pair ++ 10 ∷ []) (λ pair. IsRange least most pair.0 × IsRange (low pair.0) (high pair.0) pair.1)
two_numbers_read key least most low high small others =
    reads_as (behind (key ++ 32 ∷ []) (both (field_at 32 least most) (λ a. field_at 10 (low a) (high a)))) (λ pair. (key ++ 32 ∷ []) ++ (field_text 32 pair.0 ++ field_text 10 pair.1)) (λ pair. two_numbers key pair ++ 10 ∷ []) (λ pair. IsRange least most pair.0 × IsRange (low pair.0) (high pair.0) pair.1)
    (λ pair. simp append_assoc refl)
    (behind_reads (key ++ 32 ∷ []) (both (field_at 32 least most) (λ a. field_at 10 (low a) (high a))) (λ pair. field_text 32 pair.0 ++ field_text 10 pair.1) (λ pair. IsRange least most pair.0 × IsRange (low pair.0) (high pair.0) pair.1)
    (both_read (field_at 32 least most) (λ a. field_at 10 (low a) (high a)) (field_text 32) (λ a. field_text 10) (IsRange least most) (λ a. IsRange (low a) (high a))
    (field_reads 32 least most refl small) (λ a is. field_reads 10 (low a) (high a) refl (others a))))

abbrev pub IsRate : ℕ × ℕ → Type 0
IsRate rate = IsRange 1 8 rate.0 × IsRange rate.0 20 rate.1

abbrev pub IsWindow : ℕ × ℕ → Type 0
IsWindow window = IsRange 0 256 window.0 × IsRange 0 511 window.1

rate_kept : (states : ℕ) (before : Option GraphEdge) (text : List ℕ) (next : Place) → Keeps (at_edges states zero before) text next → (rate : ℕ × ℕ) × IsRate rate × (text ≡ two_numbers (codes "rate") rate)
rate_kept states before text next (keeps_rate s b p q one eight least most) = ((p, q), ((one, eight), (least, most)), refl)

window_kept : (p q : ℕ) (text : List ℕ) (next : Place) → Keeps (at_window p q) text next → (window : ℕ × ℕ) × IsWindow window × (text ≡ two_numbers (codes "window") window)
window_kept p q text next (keeps_window a b past ahead most many) = ((past, ahead), ((omega arith, most), (omega arith, many)), refl)

states_kept : (p q : ℕ) (text : List ℕ) (next : Place) → Keeps (at_states p q) text next → (count : ℕ) × IsRange 1 512 count × (text ≡ spaced (codes "states") (decimal count))
states_kept p q text next (keeps_states a b count one most) = (count, (one, most), refl)

pub rate_reads : Reads rate_at (λ rate. two_numbers (codes "rate") rate ++ 10 ∷ []) IsRate
unfolding rate_at
rate_reads = two_numbers_read (codes "rate") 1 8 (λ p. p) (λ p. 20) (omega arith) (λ p. omega arith)

pub window_reads : Reads window_at (λ window. two_numbers (codes "window") window ++ 10 ∷ []) IsWindow
unfolding window_at
window_reads = two_numbers_read (codes "window") 0 256 (λ past. 0) (λ past. 511) (omega arith) (λ past. omega arith)

pub states_read : Reads states_at (λ count. spaced (codes "states") (decimal count) ++ 10 ∷ []) (IsRange 1 512)
unfolding states_at
states_read = behind_reads (codes "states ") (field_at 10 1 512) (field_text 10) (IsRange 1 512) (field_reads 10 1 512 refl (omega arith))

rate_line_reads : (states : ℕ) (before : Option GraphEdge) → ReadsLines Keeps IsEnd (one_line rate_at) (λ rate. two_numbers (codes "rate") rate ∷ []) IsRate (at_edges states zero before) (λ rate. at_window rate.0 rate.1)
rate_line_reads states before =
    one_line_reads Keeps IsEnd rate_at (two_numbers (codes "rate")) IsRate (at_edges states zero before) (λ rate. at_window rate.0 rate.1) rate_reads
    (λ rate is. keeps_rate states before rate.0 rate.1 is.0.0 is.0.1 is.1.0 is.1.1) (rate_kept states before) (ends_at_row (at_edges states zero before))

window_line_reads : (p q : ℕ) → ReadsLines Keeps IsEnd (one_line window_at) (λ window. two_numbers (codes "window") window ∷ []) IsWindow (at_window p q) (λ window. at_states p q)
window_line_reads p q =
    one_line_reads Keeps IsEnd window_at (two_numbers (codes "window")) IsWindow (at_window p q) (λ window. at_states p q) window_reads
    (λ window is. keeps_window p q window.0 window.1 is.0.1 is.1.1) (window_kept p q) (ends_at_row (at_window p q))

states_line_reads : (p q : ℕ) → ReadsLines Keeps IsEnd (one_line states_at) (λ count. spaced (codes "states") (decimal count) ∷ []) (IsRange 1 512) (at_states p q) (λ count. at_row p q count 0 0)
states_line_reads p q =
    one_line_reads Keeps IsEnd states_at (λ count. spaced (codes "states") (decimal count)) (IsRange 1 512) (at_states p q) (λ count. at_row p q count 0 0) states_read
    (λ count is. keeps_states p q count is.0 is.1) (states_kept p q) (ends_at_row (at_states p q))

abbrev pub Sizes : Type 0
Sizes = (ℕ × ℕ) × ((ℕ × ℕ) × ℕ)

abbrev pub AreSizes : Sizes → Type 0
AreSizes sizes = IsRate sizes.0 × (IsWindow sizes.1.0 × IsRange 1 512 sizes.1.1)

abbrev pub sizes_lines : Sizes → List (List ℕ)
sizes_lines sizes = two_numbers (codes "rate") sizes.0 ∷ two_numbers (codes "window") sizes.1.0 ∷ spaced (codes "states") (decimal sizes.1.1) ∷ []

pub sizes_read : (states : ℕ) (before : Option GraphEdge) → ReadsLines Keeps IsEnd sizes_at sizes_lines AreSizes (at_edges states zero before) (λ sizes. at_row sizes.0.0 sizes.0.1 sizes.1.1 0 0)
unfolding sizes_at
sizes_read states before =
    both_lines_read Keeps IsEnd (one_line rate_at) 1 (λ rate. both_lines (one_line window_at) 1 (λ window. one_line states_at))
    (λ rate. two_numbers (codes "rate") rate ∷ []) (λ rate rest. two_numbers (codes "window") rest.0 ∷ spaced (codes "states") (decimal rest.1) ∷ []) IsRate (λ rate rest. IsWindow rest.0 × IsRange 1 512 rest.1)
    (at_edges states zero before) (λ rate. at_window rate.0 rate.1) (λ rate rest. at_row rate.0 rate.1 rest.1 0 0) (rate_line_reads states before) (λ rate is. refl) (λ rate is.
    both_lines_read Keeps IsEnd (one_line window_at) 1 (λ window. one_line states_at) (λ window. two_numbers (codes "window") window ∷ []) (λ window count. spaced (codes "states") (decimal count) ∷ []) IsWindow (λ window. IsRange 1 512)
    (at_window rate.0 rate.1) (λ window. at_states rate.0 rate.1) (λ window count. at_row rate.0 rate.1 count 0 0) (window_line_reads rate.0 rate.1) (λ window is. refl) (λ window is. states_line_reads rate.0 rate.1))

-- ---- rows

abbrev pub RowFields : Type 0
RowFields = ℕ × (ℕ × (ℕ × ℕ))

abbrev pub block_text : ℕ → ℕ → List ℕ
block_text q value = digits (symbols_of 2 q value)

abbrev pub IsBlock : ℕ → ℕ → Type 0
IsBlock q value = value < 2 ^ q

abbrev pub AreFields : ℕ → ℕ → ℕ → ℕ → RowFields → Type 0
AreFields q states state word x = IsRange state state x.0 × (IsRange word word x.1.0 × (IsBlock q x.1.1.0 × IsRange 0 (states - 1) x.1.1.1))

abbrev pub fields_text : ℕ → RowFields → List ℕ
fields_text q x = field_text 32 x.0 ++ (field_text 32 x.1.0 ++ (block_text q x.1.1.0 ++ (32 ∷ [] ++ field_text 10 x.1.1.1)))

fields_read : (q states state word : ℕ) → state < 10 ^ 18 → word < 10 ^ 18 → states < 10 ^ 18 → Reads (row_numbers_at q states state word) (fields_text q) (AreFields q states state word)
unfolding row_numbers_at
fields_read q states state word small few some =
    both_read (field_at 32 state state) (λ s. both (field_at 32 word word) (λ w. both (block_at 2 q) (λ block. behind (32 ∷ []) (field_at 10 0 (states - 1)))))
    (field_text 32) (λ s x. field_text 32 x.0 ++ (block_text q x.1.0 ++ (32 ∷ [] ++ field_text 10 x.1.1))) (IsRange state state) (λ s x. IsRange word word x.0 × (IsBlock q x.1.0 × IsRange 0 (states - 1) x.1.1))
    (field_reads 32 state state refl small) (λ s is.
    both_read (field_at 32 word word) (λ w. both (block_at 2 q) (λ block. behind (32 ∷ []) (field_at 10 0 (states - 1))))
    (field_text 32) (λ w x. block_text q x.0 ++ (32 ∷ [] ++ field_text 10 x.1)) (IsRange word word) (λ w x. IsBlock q x.0 × IsRange 0 (states - 1) x.1)
    (field_reads 32 word word refl few) (λ w is.
    both_read (block_at 2 q) (λ block. behind (32 ∷ []) (field_at 10 0 (states - 1))) (block_text q) (λ block to. 32 ∷ [] ++ field_text 10 to) (IsBlock q) (λ block to. IsRange 0 (states - 1) to)
    (block_reads 2 q (omega arith)) (λ block is.
    behind_reads (32 ∷ []) (field_at 10 0 (states - 1)) (field_text 10) (IsRange 0 (states - 1)) (field_reads 10 0 (states - 1) refl (omega arith)))))

abbrev pub IsRow : ℕ → ℕ → CodeRow → Type 0
IsRow q states row = IsBlock q row.block.value × (row.to < states)

-- the text of a row, and that of its fields
row_text : (q state word : ℕ) (row : CodeRow) → fields_text q (state, (word, (row.block.value, row.to))) ≡ row_line 2 q state word row ++ 10 ∷ []
row_text q state word row = simp append_assoc refl

row_again : (q states state word : ℕ) → state < 10 ^ 18 → word < 10 ^ 18 → states < 10 ^ 18 → (row : CodeRow) (rest : List ℕ) → IsRow q states row
    → code_row_at q states state word ((row_line 2 q state word row ++ 10 ∷ []) ++ rest) ≡ Some (row, rest)
unfolding code_row_at
row_again q states state word small few some row rest is =
    rw (← row_text q state word row, (fields_read q states state word small few some).again (state, (word, (row.block.value, row.to))) rest ((omega arith, omega arith), ((omega arith, omega arith), (is.0, (omega arith, omega (arith, is.1)))))) refl

row_takes : (q states state word : ℕ) → state < 10 ^ 18 → word < 10 ^ 18 → states < 10 ^ 18 → 1 ≤ states → (bytes : List ℕ) (row : CodeRow) (rest : List ℕ) → code_row_at q states state word bytes ≡ Some (row, rest)
    → (bytes ≡ (row_line 2 q state word row ++ 10 ∷ []) ++ rest) × IsRow q states row
unfolding code_row_at
row_takes q states state word small few some one_state bytes row rest e =
    let one : (x : RowFields × List ℕ) × (row_numbers_at q states state word bytes ≡ Some x) × (Some (row_from x.0, x.1) ≡ Some (row, rest)) =
    bind_some (row_numbers_at q states state word bytes) (λ x. Some (row_from x.0, x.1)) (row, rest) e in
    let x : RowFields × List ℕ = one.0 in
    let own = (fields_read q states state word small few some).takes bytes x.0 x.1 one.1 in
    let s : x.0.0 ≡ state = omega (arith, own.1.0.0, own.1.0.1) in
    let w : x.0.1.0 ≡ word = omega (arith, own.1.1.0.0, own.1.1.0.1) in
    let to : x.0.1.1.1 < states = omega (arith, own.1.1.1.1.1, one_state) in
    let text : fields_text q x.0 ≡ row_line 2 q state word (row_from x.0) ++ 10 ∷ [] =
    ap (λ (n : ℕ). field_text 32 n ++ (field_text 32 x.0.1.0 ++ (block_text q x.0.1.1.0 ++ (32 ∷ [] ++ field_text 10 x.0.1.1.1)))) s
    ∙ ap (λ (n : ℕ). field_text 32 state ++ (field_text 32 n ++ (block_text q x.0.1.1.0 ++ (32 ∷ [] ++ field_text 10 x.0.1.1.1)))) w
    ∙ row_text q state word (row_from x.0) in
    subst (λ (p : CodeRow × List ℕ). (bytes ≡ (row_line 2 q state word p.0 ++ 10 ∷ []) ++ p.1) × IsRow q states p.0) (some_is (row_from x.0, x.1) (row, rest) one.2)
    (own.0 ∙ ap (λ (t : List ℕ). t ++ x.1) text, (own.1.1.1.0, to))

pub row_reads : (q states state word : ℕ) → state < 10 ^ 18 → word < 10 ^ 18 → states < 10 ^ 18 → 1 ≤ states → Reads (code_row_at q states state word) (λ row. row_line 2 q state word row ++ 10 ∷ []) (IsRow q states)
row_reads q states state word small few some one_state = record { again = row_again q states state word small few some; takes = row_takes q states state word small few some one_state }

pub row_kept : (p q states state word : ℕ) (text : List ℕ) (next : Place) → Keeps (at_row p q states state word) text next → (row : CodeRow) × IsRow q states row × (text ≡ row_line 2 q state word row)
row_kept p q states state word text next (keeps_row a b c s w r inside few block to) = (r, (block, to), refl)
row_kept p q states state word text next (keeps_last_row a b c s w r inside last block to) = (r, (block, to), refl)

no_end_inside : (p q states state word : ℕ) → state < states → IsEnd (at_row p q states state word) → ⊥
no_end_inside p q states state word inside (behind_last_row a b c) = omega (arith, inside)

-- where the text stands before the rows of a state from a word on, of which so many are left
abbrev pub before_row : ℕ → ℕ → ℕ → ℕ → ℕ → ℕ → Place
before_row p q states state zero word = at_row p q states (state + 1) 0
before_row p q states state (suc left) word = at_row p q states state word

row_keeps : (p q states state left word : ℕ) (row : CodeRow) → state < states → word + suc left ≡ 2 ^ p → IsRow q states row → Keeps (at_row p q states state word) (row_line 2 q state word row) (before_row p q states state left (word + 1))
row_keeps p q states state zero word row inside count is = keeps_last_row p q states state word row inside (omega arith) is.0 is.1
row_keeps p q states state (suc left) word row inside count is = keeps_row p q states state word row inside (omega arith) is.0 is.1

pub words_are_few : (p : ℕ) → p ≤ 8 → 2 ^ p ≤ 256
words_are_few p eight = let most : 2 ^ p ≤ 2 ^ 8 = pow-le-pow_right (omega arith) eight in omega (arith, most)

some_words : (p : ℕ) → 1 ≤ 2 ^ p
some_words p = let from_0 : 0 ≤ p = omega arith in let least : 2 ^ 0 ≤ 2 ^ p = pow-le-pow_right (omega arith) from_0 in omega (arith, least)

before_some : (p q states state left word : ℕ) → 1 ≤ left → before_row p q states state left word ≡ at_row p q states state word
before_some p q states state zero word some = absurd (omega arith)
before_some p q states state (suc left) word some = refl

abbrev pub state_rows : ℕ → ℕ → List CodeRow → List (List ℕ)
state_rows q state rows = lines_along (λ word row. row_line 2 q state word row ∷ []) (λ word row. word + 1) 0 rows

abbrev pub IsRowsOfState : ℕ → ℕ → ℕ → List CodeRow → Type 0
IsRowsOfState p q states rows = (length rows ≡ 2 ^ p) × HoldsAlong (λ word. IsRow q states) (λ word row. word + 1) 0 rows

pub state_reads : (p q states state : ℕ) → p ≤ 8 → state < states → states ≤ 512 → ReadsLines Keeps IsEnd (state_at p q states state) (state_rows q state) (IsRowsOfState p q states) (at_row p q states state 0) (λ rows. at_row p q states (state + 1) 0)
unfolding state_at
state_reads p q states state eight inside some =
    subst (λ (from : Place). ReadsLines Keeps IsEnd (state_at p q states state) (state_rows q state) (IsRowsOfState p q states) from (λ rows. at_row p q states (state + 1) 0)) (before_some p q states state (2 ^ p) 0 (some_words p))
    (parts_read Keeps IsEnd (λ word. one_line (code_row_at q states state word)) (λ word row. word + 1) 1 (λ word row. row_line 2 q state word row ∷ []) (λ word. IsRow q states) (λ left word. word + left ≡ 2 ^ p) (before_row p q states state)
    (λ left word count.
    one_line_reads Keeps IsEnd (code_row_at q states state word) (row_line 2 q state word) (IsRow q states) (at_row p q states state word) (λ row. before_row p q states state left (word + 1))
    (row_reads q states state word (omega (arith, inside, some)) (omega (arith, count, words_are_few p eight)) (omega (arith, some)) (omega (arith, inside)))
    (λ row is. row_keeps p q states state left word row inside count is) (row_kept p q states state word) (no_end_inside p q states state word inside))
    (λ word row is. refl) (λ left word row count is. omega (arith, count)) (2 ^ p) 0 (omega arith))

length-state_rows : (q state word : ℕ) (rows : List CodeRow) → length (lines_along (λ word row. row_line 2 q state word row ∷ []) (λ word row. word + 1) word rows) ≡ length rows
length-state_rows q state word [] = refl
length-state_rows q state word (row ∷ rows) = ap suc (length-state_rows q state (word + 1) rows)

abbrev pub table_rows : ℕ → List (List CodeRow) → List (List ℕ)
table_rows q rows = lines_along (state_rows q) (λ state rows. state + 1) 0 rows

abbrev pub IsTable : ℕ → ℕ → ℕ → List (List CodeRow) → Type 0
IsTable p q states rows = (length rows ≡ states) × HoldsAlong (λ state. IsRowsOfState p q states) (λ state rows. state + 1) 0 rows

-- the state behind so many others
pub after_states : (state : ℕ) (rows : List (List CodeRow)) → after_all (λ state rows. state + 1) state rows ≡ state + length rows
after_states state [] = omega arith
after_states state (row ∷ rows) = after_states (state + 1) rows ∙ omega arith

pub table_reads : (p q states : ℕ) → p ≤ 8 → states ≤ 512 → ReadsLines Keeps IsEnd (table_at p q states) (table_rows q) (IsTable p q states) (at_row p q states 0 0) (λ rows. at_row p q states (after_all (λ state rows. state + 1) 0 rows) 0)
unfolding table_at
table_reads p q states eight some =
    parts_read Keeps IsEnd (state_at p q states) (λ state rows. state + 1) (2 ^ p) (state_rows q) (λ state. IsRowsOfState p q states) (λ left state. state + left ≡ states) (λ left state. at_row p q states state 0)
    (λ left state count. state_reads p q states state eight (omega (arith, count)) some)
    (λ state rows is. length-state_rows q state 0 rows ∙ is.0) (λ left state rows count is. omega (arith, count)) states 0 (omega arith)
