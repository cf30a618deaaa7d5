-- The text of a code, written line by line.
use Rattle.std.proofs.Common.{◌≡◌, ℕ, ◌+◌, ◌<◌, ◌≤◌, List, [], ◌∷◌, ◌++◌, length, take, drop, get_or, map, sym, ap, ◌∙◌, arith, append_assoc}
use Rattle.std.specs.Prelude.{codes}
use Rattle.std.specs.Fmt.{decimal}
use Rattle.std.specs.Global.{Vec}
use Rattle.std.proofs.lemmas.List.{take_more, take_all, map_push, drop_more, get_or-map, length-map}
use Rattle.symbol_base.specs.Block.{symbols_of}
use Rattle.symbol_base.proofs.BlockLemmas.{length-symbols_of}
use Rattle.constraint_spec.specs.Constraint.{ConstraintData}
use Rattle.code_spec.specs.declared.CodeRow.{CodeRow}
use Rattle.code_spec.specs.Code.{CodeData}
use Rattle.code_text_spec.specs.CodeText.{spaced, digits, constraint_lines, state_lines, table_lines, text_of, code_text}
use Rattle.text_reading.proofs.LineSteps.{text_of-append}
use Rattle.code_text_spec.proofs.Lines.{constraint_in_front}

-- one more digit of a word
pub next_digit : (front word now : List ℕ) (at symbol : ℕ) → at < length word → symbol ≡ get_or word at 0 → now ≡ front ++ digits (take at word)
    → now ++ (48 + symbol) ∷ [] ≡ front ++ digits (take (at + 1) word)
next_digit front word now at symbol inside same so_far =
    let digit : List ℕ = (48 + symbol) ∷ [] in
    let more : digits (take (at + 1) word) ≡ digits (take at word) ++ digit =
    ap digits (take_more word at 0 inside) ∙ map_push (λ symbol. 48 + symbol) (take at word) (get_or word at 0)
    ∙ ap (λ (s : ℕ). digits (take at word) ++ (48 + s) ∷ []) (sym same) in
    ap (λ (text : List ℕ). text ++ digit) so_far ∙ append_assoc front (digits (take at word)) digit ∙ ap (λ (back : List ℕ). front ++ back) (sym more)

-- all digits of a block
pub all_digits : (front : List ℕ) (alphabet q value at : ℕ) → q ≤ at → front ++ digits (take at (symbols_of alphabet q value)) ≡ front ++ digits (symbols_of alphabet q value)
all_digits front alphabet q value at over =
    ap (λ (word : List ℕ). front ++ digits word) (take_all at (symbols_of alphabet q value) (omega (arith, length-symbols_of alphabet q value)))

-- one more state of a table
pub next_state : (c : CodeData) (now after all : List ℕ) (state : ℕ) (rows : List CodeRow) (others : List (List CodeRow))
    → now ++ text_of (table_lines c state (rows ∷ others)) ≡ all → after ≡ now ++ text_of (state_lines c state 0 rows)
    → after ++ text_of (table_lines c (state + 1) others) ≡ all
next_state c now after all state rows others so_far written =
    ap (λ (text : List ℕ). text ++ text_of (table_lines c (state + 1) others)) written
    ∙ append_assoc now (text_of (state_lines c state 0 rows)) (text_of (table_lines c (state + 1) others))
    ∙ ap (λ (back : List ℕ). now ++ back) (sym (text_of-append (state_lines c state 0 rows) (table_lines c (state + 1) others)))
    ∙ so_far

-- the rows of a table from a state on
pub rows_from : (table : List (Vec CodeRow)) (state : ℕ) (rows : Vec CodeRow) → state < length table → rows ≡ get_or table state rows
    → drop state (map (λ rows. rows.items) table) ≡ rows.items ∷ drop (state + 1) (map (λ rows. rows.items) table)
rows_from table state rows inside at =
    drop_more (map (λ rows. rows.items) table) state rows.items (omega (arith, length-map table (λ (rows : Vec CodeRow). rows.items)))
    ∙ ap (λ (here : List CodeRow). here ∷ drop (state + 1) (map (λ rows. rows.items) table)) (get_or-map (λ (rows : Vec CodeRow). rows.items) table state rows rows.items inside ∙ ap (λ (rows : Vec CodeRow). rows.items) (sym at))

-- the parts of a code's text, one behind the other
pub parts_spell_code : (c : CodeData) (constraint : ConstraintData) (table : List (List CodeRow)) (first head sizes whole : List ℕ) → constraint ≡ c.constraint → table ≡ c.rows → first ≡ codes "modcode 1" ++ 10 ∷ []
    → head ≡ first ++ text_of (constraint_lines constraint)
    → sizes ≡ head ++ text_of (spaced (codes "rate") (spaced (decimal c.p) (decimal c.q)) ∷ spaced (codes "window") (spaced (decimal c.past) (decimal c.ahead)) ∷ spaced (codes "states") (decimal (length c.rows)) ∷ [])
    → whole ≡ sizes ++ text_of (table_lines c 0 table) → whole ≡ code_text c
parts_spell_code c constraint table first head sizes whole same rows_same first_is head_is sizes_is whole_is =
    let middle : List (List ℕ) = spaced (codes "rate") (spaced (decimal c.p) (decimal c.q)) ∷ spaced (codes "window") (spaced (decimal c.past) (decimal c.ahead)) ∷ spaced (codes "states") (decimal (length c.rows)) ∷ [] in
    let head_text : head ≡ text_of (codes "modcode 1" ∷ constraint_lines c.constraint) = head_is ∙ ap (λ (d : ConstraintData). first ++ text_of (constraint_lines d)) same ∙ ap (λ (f : List ℕ). f ++ text_of (constraint_lines c.constraint)) first_is in
    whole_is ∙ ap (λ (t : List (List CodeRow)). sizes ++ text_of (table_lines c 0 t)) rows_same ∙ ap (λ (s : List ℕ). s ++ text_of (table_lines c 0 c.rows)) (sizes_is ∙ ap (λ (h : List ℕ). h ++ text_of middle) head_text)
    ∙ append_assoc (text_of (codes "modcode 1" ∷ constraint_lines c.constraint)) (text_of middle) (text_of (table_lines c 0 c.rows))
    ∙ ap (λ (back : List ℕ). text_of (codes "modcode 1" ∷ constraint_lines c.constraint) ++ back) (sym (text_of-append middle (table_lines c 0 c.rows)))
    ∙ sym (constraint_in_front c)
