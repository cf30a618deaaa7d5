-- The lines of a code file: its two parts, and how many they are.
use Rattle.std.proofs.Common.{◌≡◌, ℕ, ◌+◌, ◌*◌, ◌^◌, List, [], ◌∷◌, ◌++◌, length, map, refl, ◌∙◌, arith}
use Rattle.std.specs.Prelude.{All, codes}
use Rattle.std.specs.Fmt.{decimal}
use Rattle.std.proofs.lemmas.List.{length-append, length-map}
use Rattle.std.proofs.lemmas.List.Elements.{All-head, All-tail}
use Rattle.text_reading.proofs.LineSteps.{text_of-append}
use Rattle.code_spec.specs.declared.CodeRow.{CodeRow}
use Rattle.constraint_spec.specs.Constraint.{ConstraintData}
use Rattle.code_spec.specs.Code.{CodeData, IsCode, IsStateOf}
use Rattle.code_text_spec.specs.CodeText.{spaced, digits, limit, edge_line, constraint_lines, state_lines, table_lines, code_lines, text_of, code_text}

-- the constraint's lines, and the others behind them
pub constraint_in_front : (c : CodeData) → code_text c
    ≡ text_of (codes "modcode 1" ∷ constraint_lines c.constraint)
    ++ text_of (spaced (codes "rate") (spaced (decimal c.p) (decimal c.q)) ∷ spaced (codes "window") (spaced (decimal c.past) (decimal c.ahead)) ∷ spaced (codes "states") (decimal (length c.rows)) ∷ table_lines c 0 c.rows)
constraint_in_front c =
    text_of-append (codes "modcode 1" ∷ constraint_lines c.constraint)
    (spaced (codes "rate") (spaced (decimal c.p) (decimal c.q)) ∷ spaced (codes "window") (spaced (decimal c.past) (decimal c.ahead)) ∷ spaced (codes "states") (decimal (length c.rows)) ∷ table_lines c 0 c.rows)

-- four items, some, one more, and some
length-of_parts : {A : Type 0} (a b c d e : A) (xs ys : List A) → length ((a ∷ b ∷ c ∷ d ∷ []) ++ xs ++ e ∷ [] ++ ys) ≡ 5 + length xs + length ys
length-of_parts a b c d e xs ys = omega (arith, length-append (xs ++ e ∷ []) ys, length-append xs (e ∷ []))

-- five lines, and one for each forbidden word and each edge
length-constraint_lines : (c : ConstraintData) → length (constraint_lines c) ≡ 5 + length c.forbid + length c.edges
length-constraint_lines c =
    length-of_parts (spaced (codes "alphabet") (decimal c.alphabet)) (spaced (codes "d") (decimal c.d)) (spaced (codes "k") (limit c.k)) (spaced (codes "forbid") (decimal (length c.forbid)))
    (spaced (codes "graph") (spaced (decimal c.states) (decimal (length c.edges)))) (map digits c.forbid) (map edge_line c.edges)
    ∙ omega (arith, length-map c.forbid digits, length-map c.edges edge_line)

-- a line for each row of a state
length-state_lines : (c : CodeData) (state word : ℕ) (rows : List CodeRow) → length (state_lines c state word rows) ≡ length rows
length-state_lines c state word [] = refl
length-state_lines c state word (row ∷ rows) = omega (arith, length-state_lines c state (word + 1) rows)

-- a line for each row of each state
length-table_lines : (c : CodeData) (state : ℕ) (rows : List (List CodeRow)) → All (IsStateOf c) rows → length (table_lines c state rows) ≡ length rows * 2 ^ c.p
length-table_lines c state [] full = omega arith
length-table_lines c state (rows ∷ others) full =
    let here : IsStateOf c rows = All-head (IsStateOf c) rows others full in
    omega (arith, length-append (state_lines c state 0 rows) (table_lines c (state + 1) others), length-state_lines c state 0 rows, here.0, length-table_lines c (state + 1) others (All-tail (IsStateOf c) rows others full))

pub length-code_lines : (c : CodeData) → IsCode c → length (code_lines c) ≡ 9 + length c.constraint.forbid + length c.constraint.edges + length c.rows * 2 ^ c.p
length-code_lines c code =
    let behind = spaced (codes "rate") (spaced (decimal c.p) (decimal c.q)) ∷ spaced (codes "window") (spaced (decimal c.past) (decimal c.ahead)) ∷ spaced (codes "states") (decimal (length c.rows)) ∷ table_lines c 0 c.rows in
    omega (arith, length-append (constraint_lines c.constraint) behind, length-constraint_lines c.constraint, length-table_lines c 0 c.rows code.rows)
