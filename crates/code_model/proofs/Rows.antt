-- The rows of a state, by its place in the table.
use Rattle.std.proofs.Common.{◌≡◌, ℕ, ◌<◌, ◌^◌, List, [], length, get_or, map, sym, ap, ◌∙◌, arith}
use Rattle.std.specs.Global.{Vec}
use Rattle.std.specs.Vec.{vec_len}
use Rattle.std.proofs.lemmas.List.{get_or-map, length-map}
use Rattle.std.proofs.lemmas.List.Elements.{All-get_or}
use Rattle.code_spec.specs.declared.CodeRow.{CodeRow}
use Rattle.code_spec.specs.Code.{CodeData, IsCode, IsStateOf}

-- a state's Vec has a row for each data word
pub rows_of_state : (c : CodeData) (table : List (Vec CodeRow)) (state word : ℕ) (found : Vec CodeRow) → c.rows ≡ map (λ rows. rows.items) table → IsCode c
    → state < length c.rows → found ≡ get_or table state found → word < 2 ^ c.p → word < vec_len found
rows_of_state c table state word found same code inside at below =
    let place : state < length table = omega (arith, length-map table (λ (rows : Vec CodeRow). rows.items), ap (λ (rows : List (List CodeRow)). length rows) same) in
    let rows : get_or c.rows state [] ≡ found.items =
    ap (λ (rows : List (List CodeRow)). get_or rows state []) same ∙ get_or-map (λ (rows : Vec CodeRow). rows.items) table state found [] place ∙ ap (λ (rows : Vec CodeRow). rows.items) (sym at) in
    let count : length found.items ≡ 2 ^ c.p = sym (ap (λ (rows : List CodeRow). length rows) rows) ∙ (All-get_or (IsStateOf c) c.rows state [] inside code.rows).0 in
    let long : vec_len found ≡ length found.items = found.ok.0 in
    omega (arith, below, count, long)
