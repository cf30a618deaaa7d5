-- What a code writes for data words that follow one another.
use Rattle.std.proofs.Common.{◌≡◌, ℕ, ◌*◌, ◌^◌, ◌<◌, get_or, List, [], ◌∷◌, ◌++◌, length, refl, sym, ap, ◌∙◌, arith, append_assoc}
use Rattle.std.proofs.lemmas.List.{length-append, append-nil}
use Rattle.std.proofs.lemmas.List.Elements.{All-get_or}
use Rattle.std.proofs.lemmas.List.Concat.{flat_map-append}
use Rattle.symbol_base.specs.declared.Block.{Block}
use Rattle.symbol_base.specs.Block.{symbols_of}
use Rattle.symbol_base.proofs.BlockLemmas.{length-symbols_of}
use Rattle.code_spec.specs.declared.CodeRow.{CodeRow}
use Rattle.code_spec.specs.Code.{CodeData, IsCode, IsRowOf, IsStateOf}
use Rattle.code_spec.specs.Output.{row_at, output_from, state_after, output, flat, Writes}

-- the second part is written from the state that the first leads to
pub output_from-append : (rows : List (List CodeRow)) (state : ℕ) (xs ys : List ℕ)
    → output_from rows state (xs ++ ys) ≡ output_from rows state xs ++ output_from rows (state_after rows state xs) ys
output_from-append rows state [] ys = refl
output_from-append rows state (x ∷ xs) ys =
    ap (λ (blocks : List Block). (row_at rows state x).block ∷ blocks) (output_from-append rows (row_at rows state x).to xs ys)

pub state_after-append : (rows : List (List CodeRow)) (state : ℕ) (xs ys : List ℕ)
    → state_after rows state (xs ++ ys) ≡ state_after rows (state_after rows state xs) ys
state_after-append rows state [] ys = refl
state_after-append rows state (x ∷ xs) ys = state_after-append rows (row_at rows state x).to xs ys

-- a block for each word
pub length-output_from : (rows : List (List CodeRow)) (state : ℕ) (words : List ℕ)
    → length (output_from rows state words) ≡ length words
length-output_from rows state [] = refl
length-output_from rows state (word ∷ words) = omega (arith, length-output_from rows (row_at rows state word).to words)

pub flat-append : (c : CodeData) (xs ys : List Block) → flat c (xs ++ ys) ≡ flat c xs ++ flat c ys
flat-append c xs ys = flat_map-append (λ block. symbols_of c.constraint.alphabet c.q block.value) xs ys

-- q symbols for each block
pub length-flat : (c : CodeData) (blocks : List Block) → length (flat c blocks) ≡ c.q * length blocks
length-flat c [] = omega arith
length-flat c (block ∷ blocks) =
    omega (arith, length-append (symbols_of c.constraint.alphabet c.q block.value) (flat c blocks), length-symbols_of c.constraint.alphabet c.q block.value, length-flat c blocks)

-- no words write nothing
pub writes_none : (c : CodeData) (state : ℕ) (old : List ℕ) → Writes c state [] old old state
writes_none c state old = record { symbols = sym (append-nil old); leads = refl }

-- one word writes its block
pub writes_one : (c : CodeData) (state word : ℕ) (old new : List ℕ) (next : ℕ) → new ≡ old ++ symbols_of c.constraint.alphabet c.q (row_at c.rows state word).block.value → next ≡ (row_at c.rows state word).to
    → Writes c state (word ∷ []) old new next
writes_one c state word old new next written leads =
    record { symbols = written ∙ ap (λ (symbols : List ℕ). old ++ symbols) (sym (append-nil (symbols_of c.constraint.alphabet c.q (row_at c.rows state word).block.value))); leads = leads }

-- words behind words are written behind them
pub writes-append : (c : CodeData) (state : ℕ) (xs ys old middle new : List ℕ) (via next : ℕ) → Writes c state xs old middle via → Writes c via ys middle new next → Writes c state (xs ++ ys) old new next
writes-append c state xs ys old middle new via next first second =
    let blocks = output_from-append c.rows state xs ys in
    let from_via : output c via ys ≡ output c (state_after c.rows state xs) ys = ap (λ (s : ℕ). output c s ys) first.leads in
    let symbols : flat c (output c state (xs ++ ys)) ≡ flat c (output c state xs) ++ flat c (output c via ys) =
    ap (λ (bs : List Block). flat c bs) blocks ∙ flat-append c (output c state xs) (output c (state_after c.rows state xs) ys) ∙ ap (λ (bs : List Block). flat c (output c state xs) ++ flat c bs) (sym from_via) in
    record {
      symbols = second.symbols ∙ ap (λ (front : List ℕ). front ++ flat c (output c via ys)) first.symbols ∙ append_assoc old (flat c (output c state xs)) (flat c (output c via ys)) ∙ ap (λ (symbols : List ℕ). old ++ symbols) (sym symbols);
      leads = second.leads ∙ ap (λ (s : ℕ). state_after c.rows s ys) first.leads ∙ sym (state_after-append c.rows state xs ys);
    }

-- each row of a code is in range
pub row_in_range : (c : CodeData) (state word : ℕ) → IsCode c → state < length c.rows → word < 2 ^ c.p → IsRowOf c (row_at c.rows state word)
row_in_range c state word code inside below =
    let rows : IsStateOf c (get_or c.rows state []) = All-get_or (IsStateOf c) c.rows state [] inside code.rows in
    let place : word < length (get_or c.rows state []) = omega (arith, below, rows.0) in
    All-get_or (IsRowOf c) (get_or c.rows state []) word (record { block = record { value = 0 }; to = 0 }) place rows.1
