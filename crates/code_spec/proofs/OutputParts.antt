-- Parts of what a code writes: each is what it writes for a part of the data words.
use Rattle.std.proofs.Common.{◌≡◌, ℕ, zero, suc, List, [], ◌∷◌, take, drop, refl, ap}
use Rattle.symbol_base.specs.declared.Block.{Block}
use Rattle.code_spec.specs.declared.CodeRow.{CodeRow}
use Rattle.code_spec.specs.Output.{row_at, output_from, state_after}

pub output_from-take : (rows : List (List CodeRow)) (state : ℕ) (words : List ℕ) (n : ℕ)
    → take n (output_from rows state words) ≡ output_from rows state (take n words)
output_from-take rows state words zero = refl
output_from-take rows state [] (suc n) = refl
output_from-take rows state (word ∷ words) (suc n) =
    ap (λ (blocks : List Block). (row_at rows state word).block ∷ blocks) (output_from-take rows (row_at rows state word).to words n)

pub output_from-drop : (rows : List (List CodeRow)) (state : ℕ) (words : List ℕ) (n : ℕ)
    → drop n (output_from rows state words) ≡ output_from rows (state_after rows state (take n words)) (drop n words)
output_from-drop rows state words zero = refl
output_from-drop rows state [] (suc n) = refl
output_from-drop rows state (word ∷ words) (suc n) = output_from-drop rows (row_at rows state word).to words n
