-- What the decoder's answers keep: there is one for each window, and what was written is read again.
use Rattle.std.proofs.Common.{◌≡◌, ℕ, ◌+◌, ◌-◌, ◌<◌, ◌≤◌, ◌^◌, ◌⊎◌, inl, inr, ⊎_elim, List, ◌++◌, length, take, drop, get_or, replicate, sym, ap, ap₂, ◌∙◌, subst, arith, append_assoc}
use Rattle.std.proofs.Math.Seq.{take-append_seam, drop-append_seam}
use Rattle.std.proofs.Math.ListN.{get_or-eq_default}
use Rattle.std.proofs.lemmas.Bool.{cases_lt}
use Rattle.std.proofs.lemmas.List.{drop-take, drop-drop, take-take, ext_get_or, get_or-take, get_or-drop, length-take, length-drop, length-append, length-replicate}
use Rattle.std.proofs.lemmas.List.Elements.{All-take, All-drop}
use Rattle.symbol_base.specs.declared.Block.{Block}
use Rattle.symbol_base.proofs.BlockLemmas.{power_positive}
use Rattle.code_spec.specs.Code.{CodeData, IsCode, IsState, IsDataWord, IsDataWords}
use Rattle.code_spec.specs.Output.{state_after, output}
use Rattle.code_spec.specs.Checked.{IsCheckedCode}
use Rattle.code_spec.specs.Decoder.{window_length, IsFound, IsDecoded, window_at, AreDecoded, DifferAt, inner_words}
use Rattle.code_spec.specs.Walks.{IsWalkOf}
use Rattle.code_spec.specs.PlainText.{file_words, data_words}
use Rattle.code_spec.proofs.OutputLaws.{length-output_from}
use Rattle.code_spec.proofs.DataWords.{data_words_below}
use Rattle.code_spec.proofs.OutputParts.{output_from-take, output_from-drop}
use Rattle.code_spec.proofs.StepLaws.{after_inside}

-- as many words as blocks
pub found_count : (c : CodeData) (window : List Block) (word : ℕ) (found : IsFound c window word) → length found.words ≡ length window
found_count c window word found = sym (length-output_from c.rows found.state found.words) ∙ ap (λ (blocks : List Block). length blocks) found.writes

-- the words that a window can have are one
pub found_single : (c : CodeData) (window : List Block) (u v : ℕ) → IsCheckedCode c → length window ≡ window_length c → IsFound c window u → IsFound c window v → u ≡ v
found_single c window u v checked long one other =
    sym one.here
    ∙ checked.window one.state other.state one.words other.words one.inside other.inside one.below other.below (found_count c window u one ∙ long) (found_count c window v other ∙ long)
    (one.writes ∙ sym other.writes)
    ∙ other.here

-- the answers to a window are one
pub decoded_single : (c : CodeData) (window : List Block) (u v : ℕ) → IsCheckedCode c → length window ≡ window_length c → IsDecoded c window u → IsDecoded c window v → u ≡ v
decoded_single c window u v checked long (inl one) (inl other) = found_single c window u v checked long one other
decoded_single c window u v checked long (inl one) (inr none) = absurd (none.1 u one)
decoded_single c window u v checked long (inr none) (inl other) = absurd (none.1 v other)
decoded_single c window u v checked long (inr none) (inr others) = none.0 ∙ sym others.0

pub window_count : (c : CodeData) (blocks : List Block) (at : ℕ) → at < length blocks - (c.past + c.ahead) → length (window_at c blocks at) ≡ window_length c
window_count c blocks at inside = omega (arith, inside, length-take (window_length c) (drop at blocks), length-drop at blocks)

-- a block of a window, by its place among all
window_block : (c : CodeData) (blocks : List Block) (at place : ℕ) (other : Block) → place < window_length c
    → get_or (window_at c blocks at) place other ≡ get_or blocks (at + place) other
window_block c blocks at place other inside = get_or-take (window_length c) (drop at blocks) place other inside ∙ get_or-drop at blocks place other

-- a window that does not hold the block that differs
pub window_same : (c : CodeData) (xs ys : List Block) (place at : ℕ) → DifferAt place xs ys → (place < at) ⊎ (at + (c.past + c.ahead) < place)
    → window_at c xs at ≡ window_at c ys at
window_same c xs ys place at differ outside =
    let count : length (window_at c xs at) ≡ length (window_at c ys at) =
    omega (arith, differ.count, length-take (window_length c) (drop at xs), length-drop at xs, length-take (window_length c) (drop at ys), length-drop at ys) in
    ext_get_or (record { value = 0 }) (window_at c xs at) (window_at c ys at) count
    (λ i inside.
    let within : i < window_length c = omega (arith, inside, length-take (window_length c) (drop at xs)) in
    let other : at + i ≡ place → ⊥ = λ e. ⊎_elim (λ (h : place < at). omega (arith, h, e)) (λ (h : at + (c.past + c.ahead) < place). omega (arith, h, e, within)) outside in
    window_block c xs at i (record { value = 0 }) within ∙ differ.same (at + i) (record { value = 0 }) other ∙ sym (window_block c ys at i (record { value = 0 }) within))

-- Blocks that differ in one place are decoded alike at all places that are more than ahead before it or more than past behind it:
-- the window at a place is that of the word past blocks behind the place.
pub decoded_alike : (c : CodeData) (xs ys : List Block) (us vs : List ℕ) (place at : ℕ) → IsCheckedCode c → DifferAt place xs ys → AreDecoded c xs us → AreDecoded c ys vs
    → (place < at) ⊎ (at + (c.past + c.ahead) < place) → get_or us at 0 ≡ get_or vs at 0
decoded_alike c xs ys us vs place at checked differ first second outside =
    let count : length us ≡ length vs = omega (arith, first.count, second.count, differ.count) in
    ⊎_elim
    (λ (inside : at < length us).
    let long = window_count c xs at (omega (arith, inside, first.count)) in
    let here : IsDecoded c (window_at c xs at) (get_or vs at 0) =
    subst (λ (window : List Block). IsDecoded c window (get_or vs at 0)) (sym (window_same c xs ys place at differ outside)) (second.each at (omega (arith, inside, count))) in
    decoded_single c (window_at c xs at) (get_or us at 0) (get_or vs at 0) checked long (first.each at inside) here)
    (λ (behind : length us ≤ at). get_or-eq_default us 0 behind ∙ sym (get_or-eq_default vs 0 (omega (arith, behind, count))))
    (cases_lt at (length us))

-- the window of what was written has the word that was written
pub found_written : (c : CodeData) (state : ℕ) (words : List ℕ) (at : ℕ) → IsCode c → IsState c state → IsDataWords c words
    → IsFound c (window_at c (output c state words) at) (get_or words (c.past + at) 0)
found_written c state words at code inside below =
    let place : at + c.past ≡ c.past + at = omega arith in
    let within : c.past < window_length c = omega arith in
    record {
      state = state_after c.rows state (take at words);
      words = take (window_length c) (drop at words);
      inside = after_inside c state (take at words) code inside (All-take (IsDataWord c) at words below);
      below = All-take (IsDataWord c) (window_length c) (drop at words) (All-drop (IsDataWord c) at words below);
      writes =
          sym (ap (λ (blocks : List Block). take (window_length c) blocks) (output_from-drop c.rows state words at)
          ∙ output_from-take c.rows (state_after c.rows state (take at words)) (drop at words) (window_length c));
      here = get_or-take (window_length c) (drop at words) c.past 0 within ∙ get_or-drop at words c.past 0 ∙ ap (λ (i : ℕ). get_or words i 0) place;
    }

-- what was written is decoded to the words that have past words before them and ahead words behind them
pub decoded_output : (c : CodeData) (state : ℕ) (words found : List ℕ) → IsCheckedCode c → IsState c state → IsDataWords c words → AreDecoded c (output c state words) found
    → found ≡ inner_words c words
decoded_output c state words found checked inside below decoded =
    let blocks : length (output c state words) ≡ length words = length-output_from c.rows state words in
    let count : length found ≡ length words - (c.past + c.ahead) = omega (arith, decoded.count, blocks) in
    let whole : length found ≡ length (take (length words - (c.past + c.ahead)) (drop c.past words)) =
    omega (arith, count, length-take (length words - (c.past + c.ahead)) (drop c.past words), length-drop c.past words) in
    ext_get_or 0 found (take (length words - (c.past + c.ahead)) (drop c.past words)) whole
    (λ i short.
    let fits : i < length words - (c.past + c.ahead) = omega (arith, short, count) in
    let long = window_count c (output c state words) i (omega (arith, short, decoded.count)) in
    decoded_single c (window_at c (output c state words) i) (get_or found i 0) (get_or words (c.past + i) 0) checked long (decoded.each i short)
    (inl (found_written c state words i checked.code inside below))
    ∙ sym (get_or-take (length words - (c.past + c.ahead)) (drop c.past words) i 0 fits ∙ get_or-drop c.past words i 0))

-- what a file's data words are written as is decoded to the file's words
pub decoded_data_words : (c : CodeData) (file found : List ℕ) → IsCheckedCode c → AreDecoded c (output c 0 (data_words c file)) found → found ≡ file_words c.p file
decoded_data_words c file found checked decoded =
    let words = file_words c.p file in
    let front : List ℕ = replicate c.past 0 in
    let back : List ℕ = replicate c.ahead 0 in
    let first : length front ≡ c.past = length-replicate {A = ℕ} c.past 0 in
    let count : length (data_words c file) - (c.past + c.ahead) ≡ length words =
    omega (arith, length-append (front ++ words) back, length-append front words, first, length-replicate {A = ℕ} c.ahead 0) in
    let behind : drop c.past (data_words c file) ≡ words ++ back =
    ap (λ (list : List ℕ). drop c.past list) (append_assoc front words back) ∙ subst (λ n. drop n (front ++ (words ++ back)) ≡ words ++ back) first (drop-append_seam front (words ++ back)) in
    decoded_output c 0 (data_words c file) found checked (omega (arith, checked.code.states.0)) (data_words_below c file) decoded
    ∙ ap₂ (λ n list. take n list) count behind
    ∙ take-append_seam words back

-- Any walk that writes the blocks answers all their windows, however it was found.
pub decoded_by_walk : (c : CodeData) (state next : ℕ) (words : List ℕ) (blocks : List Block) → IsCode c → IsState c state → IsWalkOf c state words blocks next
    → AreDecoded c blocks (inner_words c words)
decoded_by_walk c state next words blocks code inside walk =
    let written : length blocks ≡ length words = ap (λ (bs : List Block). length bs) (sym walk.writes) ∙ length-output_from c.rows state words in
    let count : length (inner_words c words) ≡ length words - (c.past + c.ahead) =
    omega (arith, length-take (length words - (c.past + c.ahead)) (drop c.past words), length-drop c.past words) in
    record {
      count = omega (arith, count, written);
      each =
          λ at short.
          let fits : at < length words - (c.past + c.ahead) = omega (arith, short, count) in
          let word : get_or (inner_words c words) at 0 ≡ get_or words (c.past + at) 0 =
          get_or-take (length words - (c.past + c.ahead)) (drop c.past words) at 0 fits ∙ get_or-drop c.past words at 0 in
          let found = found_written c state words at code inside walk.below in
          inl (subst (λ w. IsFound c (window_at c blocks at) w) (sym word) (subst (λ (bs : List Block). IsFound c (window_at c bs at) (get_or words (c.past + at) 0)) walk.writes found));
    }

-- a window of a part is one of the whole
pub window_of_part : (c : CodeData) (blocks : List Block) (from count at : ℕ) → at + window_length c ≤ count → window_at c (take count (drop from blocks)) at ≡ window_at c blocks (from + at)
window_of_part c blocks from count at fits =
    let n = window_length c in
    let rest : count ≡ at + (count - at) = omega (arith, fits) in
    let cut : drop at (take count (drop from blocks)) ≡ take (count - at) (drop (from + at) blocks) =
    ap (λ (m : ℕ). drop at (take m (drop from blocks))) rest ∙ drop-take at (count - at) (drop from blocks) ∙ ap (λ (bs : List Block). take (count - at) bs) (drop-drop at from blocks) in
    ap (λ (bs : List Block). take n bs) cut ∙ take-take n (count - at) (drop (from + at) blocks) (omega (arith, fits))

-- the decoder's answer is a data word
pub decoded_below : (c : CodeData) (window : List Block) (word : ℕ) → IsDecoded c window word → IsDataWord c word
decoded_below c window word (inl found) =
    let none : 0 < 2 ^ c.p = power_positive 2 c.p (omega arith) in
    subst (λ n. IsDataWord c n) found.here
    (⊎_elim
    (λ (inside : c.past < length found.words). found.below c.past 0 inside)
    (λ (behind : length found.words ≤ c.past). subst (λ n. IsDataWord c n) (sym (get_or-eq_default found.words 0 behind)) none)
    (cases_lt c.past (length found.words)))
decoded_below c window word (inr none) =
    subst (λ n. IsDataWord c n) (sym none.0) (power_positive 2 c.p (omega arith))
