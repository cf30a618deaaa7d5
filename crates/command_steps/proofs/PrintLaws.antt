-- A text that is put to a sink in pieces.
use Rattle.std.proofs.Common.{◌≡◌, ℕ, ◌+◌, ◌-◌, ◌<◌, ◌≤◌, List, ◌++◌, length, take, drop, Option, Some, None, ap, ◌∙◌, append_assoc, arith}
use Rattle.std.specs.Prelude.{option_map}
use Rattle.std.proofs.lemmas.List.{length-drop, take_rest}
use Rattle.shelf_io.proofs.ShelfLemmas.{take-step}

put_behind : (front piece whole : List ℕ) (old mid new : Option (List ℕ)) → front ++ piece ≡ whole → mid ≡ option_map (λ text. text ++ front) old → new ≡ option_map (λ text. text ++ piece) mid → new ≡ option_map (λ text. text ++ whole) old
put_behind front piece whole None mid new joined before after = after ∙ ap (option_map (λ (text : List ℕ). text ++ piece)) before
put_behind front piece whole (Some text) mid new joined before after =
    after ∙ ap (option_map (λ (text : List ℕ). text ++ piece)) before ∙ ap (λ (t : List ℕ). Some t) (append_assoc text front piece ∙ ap (λ (t : List ℕ). text ++ t) joined)

-- the next k bytes are printed behind the first ones, and at least one
pub print_step : (bytes : List ℕ) (at k : ℕ) (old mid new : Option (List ℕ)) → at < length bytes
    → k ≤ length (take (length bytes - at) (drop at bytes)) → (0 < length (take (length bytes - at) (drop at bytes)) → 0 < k)
    → mid ≡ option_map (λ text. text ++ take at bytes) old
    → new ≡ option_map (λ text. text ++ take k (take (length bytes - at) (drop at bytes))) mid
    → (0 < k) × (at + k ≤ length bytes) × (new ≡ option_map (λ text. text ++ take (at + k) bytes) old)
print_step bytes at k old mid new more bound progress before after =
    let size : length (take (length bytes - at) (drop at bytes)) ≡ length bytes - at = ap length (take_rest bytes at) ∙ length-drop at bytes in
    let some : 0 < k = progress (omega arith) in
    let within : k ≤ length bytes - at = omega arith in
    (some, omega arith, put_behind (take at bytes) (take k (take (length bytes - at) (drop at bytes))) (take (at + k) bytes) old mid new (take-step bytes at k within) before after)
