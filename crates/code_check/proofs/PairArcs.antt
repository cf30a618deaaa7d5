-- The arcs of a pair of states, word by word of the first state.
use Rattle.std.proofs.Common.{◌≡◌, ℕ, ◌+◌, ◌*◌, ◌/◌, ◌%◌, ◌^◌, ◌<◌, ◌≤◌, ⊎_elim, List, [], ◌∷◌, ◌++◌, length, get_or, ap, sym, ◌∙◌, subst, arith}
use Rattle.std.proofs.lemmas.Nat.{div-mul-add, mod-mul-add, div-add-mod', mul-add-lt}
use Rattle.std.proofs.Math.Nat.{div-eq_of_lt-le, add-mul}
use Rattle.std.proofs.lemmas.Bool.{cases_lt, cases_eq}
use Rattle.symbol_base.specs.declared.Block.{Block}
use Rattle.code_spec.specs.declared.CodeRow.{CodeRow}
use Rattle.code_spec.specs.Code.{CodeData, IsCode, IsState, IsDataWord}
use Rattle.code_spec.specs.Output.{row_at}
use Rattle.code_spec.proofs.OutputLaws.{row_in_range}
use Rattle.least_walks.specs.declared.Arc.{Arc}
use Rattle.least_walks.specs.Graph.{AreArcsOf, AreArcsBelow}
use Rattle.least_walks.proofs.ArcLists.{arcs_push, arcs_skip, arcs_all}
use Rattle.code_check.specs.declared.by_block.BlockWord.{BlockWord}
use Rattle.code_check.specs.inside.ByBlock.{no_word, AreByBlock}
use Rattle.code_check.specs.inside.PairGraph.{IsPairStep, pair_graph, IsPaired}
use Rattle.code_check.proofs.PairLaws.{pair_step, label_words}

abbrev node : CodeData → ℕ → ℕ → ℕ
node c s t = s * length c.rows + t

-- a label of this first word is that word's and its second word's
word_of_label :
    (n word label : ℕ) → word * n ≤ label → label < (word + 1) * n → (label / n ≡ word) × (label ≡ word * n + label % n)
word_of_label n word label most less =
    let first : label / n ≡ word = div-eq_of_lt-le {k = word} n most less in
    let whole : label / n * n + label % n ≡ label = div-add-mod' label n in
    let front : label / n * n ≡ word * n = ap (λ w. w * n) first in (first, omega (arith, whole, front))

-- Where an arc pairs this word of the first state with another, the other stands in the list of the second state.
paired_at :
    (c : CodeData) (s t word : ℕ) (list : List BlockWord) (label u : ℕ) → IsState c s → IsState c t → IsDataWord c word
    → AreByBlock c t (2 ^ c.p) list → word * 2 ^ c.p ≤ label → label < (word + 1) * 2 ^ c.p
    → IsPairStep c (node c s t) label u
    → (k : ℕ) × (k < length list) × (label ≡ word * 2 ^ c.p + (get_or list k no_word).word)
    × ((get_or list k no_word).block ≡ (row_at c.rows s word).block)
paired_at c s t word list label u inside inside' below are most less step =
    let n : ℕ = 2 ^ c.p in
    let states : ℕ = length c.rows in
    let words = word_of_label n word label most less in
    let second : label % n < n = (label_words c label step.below).1 in
    let found = are.all (label % n) second in
    let first_row : row_at c.rows (node c s t / states) (label / n) ≡ row_at c.rows s word =
    ap (λ v. row_at c.rows v (label / n)) (div-mul-add s states t inside') ∙ ap (λ w. row_at c.rows s w) words.0 in
    let second_row : row_at c.rows (node c s t % states) (label % n) ≡ row_at c.rows t (label % n) =
    ap (λ v. row_at c.rows v (label % n)) (mod-mul-add s states t inside') in
    let block : (row_at c.rows t (label % n)).block ≡ (row_at c.rows s word).block =
    sym (ap (λ (r : CodeRow). r.block) second_row) ∙ sym step.blocks ∙ ap (λ (r : CodeRow). r.block) first_row in (
      found.0,
      found.1,
      words.1 ∙ ap (λ w. word * n + w) (sym found.2),
      are.block found.0 found.1 ∙ ap (λ w. (row_at c.rows t w).block) found.2 ∙ block,
    )

-- an arc tells where it leads
one_next :
    (c : CodeData) (node label next u : ℕ) → IsPairStep c node label next → IsPairStep c node label u → next ≡ u
one_next c node label next u step other = step.to ∙ sym other.to

-- no word of the list's front is paired with this one
pub paired_start :
    (c : CodeData) (s t word : ℕ) (list : List BlockWord) (from : ℕ) (arcs : List Arc)
    → AreArcsBelow (pair_graph c) (node c s t) (word * 2 ^ c.p) arcs
    → ((k : ℕ) → k < from → (get_or list k no_word).block.value < (row_at c.rows s word).block.value)
    → IsPaired c s t word list from arcs
paired_start c s t word list from arcs are front = record {
  bound = word * 2 ^ c.p;
  least = omega arith;
  most = omega (arith, add-mul word 1 (2 ^ c.p));
  are = are;
  front = λ k less same. absurd (omega (arith, front k less, ap (λ (b : Block). b.value) same));
  back = λ k later less same. omega arith;
}

-- the next word of the list writes the block
pub paired_more :
    (c : CodeData) (s t word : ℕ) (list : List BlockWord) (at : ℕ) (arcs : List Arc) (arc : Arc) → IsCode c
    → IsState c s → IsState c t → IsDataWord c word → AreByBlock c t (2 ^ c.p) list → IsPaired c s t word list at arcs
    → at < length list → (get_or list at no_word).block ≡ (row_at c.rows s word).block
    → arc.label ≡ word * 2 ^ c.p + (get_or list at no_word).word
    → arc.to ≡ (row_at c.rows s word).to * length c.rows + (row_at c.rows t (get_or list at no_word).word).to
    → IsPaired c s t word list (at + 1) (arcs ++ arc ∷ [])
paired_more c s t word list at arcs arc code inside inside' below are paired here same label to =
    let n : ℕ = 2 ^ c.p in
    let other : ℕ = (get_or list at no_word).word in
    let other_below : other < n = are.below at here in
    let blocks : (row_at c.rows s word).block ≡ (row_at c.rows t other).block = sym same ∙ are.block at here in
    let step : IsPairStep c (node c s t) (word * n + other) ((row_at c.rows s word).to * length c.rows + (row_at c.rows t other).to) =
    pair_step c s t word other inside inside' below other_below blocks in
    let is : IsPairStep c (node c s t) arc.label arc.to =
    subst (λ l. IsPairStep c (node c s t) l arc.to) (sym label) (subst (λ u. IsPairStep c (node c s t) (word * n + other) u) (sym to) step) in
    let to_inside : arc.to < length c.rows * length c.rows =
    subst (λ u. u < length c.rows * length c.rows) (sym to)
    (mul-add-lt (row_at c.rows s word).to (length c.rows) (row_at c.rows t other).to (length c.rows)
    (row_in_range c s word code inside below).1 (row_in_range c t other code inside' other_below).1) in
    let top : (word + 1) * n ≡ word * n + 1 * n = add-mul word 1 n in
    let next : paired.bound ≤ arc.label = omega (arith, label, paired.back at (omega arith) here same) in
    record {
      bound = arc.label + 1;
      least = omega (arith, paired.least, next);
      most = omega (arith, top, label, other_below);
      are =
          arcs_push (pair_graph c) (node c s t) paired.bound arcs arc paired.are next is to_inside
          (λ l u low high other_step.
          let found = paired_at c s t word list l u inside inside' below are (omega (arith, paired.least, low)) (omega (arith, top, label, other_below, high)) other_step in
          ⊎_elim
          (λ (before : found.0 < at). absurd (omega (arith, paired.front found.0 before found.3, found.2, low)))
          (λ (later : at ≤ found.0).
          ⊎_elim
          (λ (equal : at ≡ found.0).
          let word_is : other ≡ (get_or list found.0 no_word).word = ap (λ k. (get_or list k no_word).word) equal in
          absurd (omega (arith, word_is, label, found.2, high)))
          (λ unlike.
          ⊎_elim
          (λ (smaller : (get_or list at no_word).block.value < (get_or list found.0 no_word).block.value).
          absurd (omega (arith, smaller, ap (λ (b : Block). b.value) same, ap (λ (b : Block). b.value) found.3)))
          (λ (tie : ((get_or list at no_word).block.value ≡ (get_or list found.0 no_word).block.value) × (other < (get_or list found.0 no_word).word)).
          absurd (omega (arith, tie.1, label, found.2, high)))
          (are.order at found.0 (omega (arith, later, unlike)) found.1))
          (cases_eq at found.0))
          (cases_lt found.0 at))
          (λ u other_step. one_next c (node c s t) arc.label arc.to u is other_step);
      front =
          λ k less block.
          ⊎_elim (λ (before : k < at). omega (arith, paired.front k before block, next))
          (λ (later : at ≤ k).
          let equal : at ≡ k = omega (arith, later, less) in
          let word_is : other ≡ (get_or list k no_word).word = ap (λ k. (get_or list k no_word).word) equal in
          omega (arith, word_is, label))
          (cases_lt k at);
      back =
          λ k later less block.
          ⊎_elim
          (λ (smaller : (get_or list at no_word).block.value < (get_or list k no_word).block.value).
          absurd (omega (arith, smaller, ap (λ (b : Block). b.value) same, ap (λ (b : Block). b.value) block)))
          (λ (tie : ((get_or list at no_word).block.value ≡ (get_or list k no_word).block.value) × (other < (get_or list k no_word).word)).
          omega (arith, tie.1, label))
          (are.order at k (omega (arith, later)) less);
    }

-- no word behind this place writes the block
pub paired_end :
    (c : CodeData) (s t word : ℕ) (list : List BlockWord) (at : ℕ) (arcs : List Arc) → IsState c s → IsState c t
    → IsDataWord c word → AreByBlock c t (2 ^ c.p) list → IsPaired c s t word list at arcs
    → ((k : ℕ) → at ≤ k → k < length list → (get_or list k no_word).block ≡ (row_at c.rows s word).block → ⊥)
    → AreArcsBelow (pair_graph c) (node c s t) ((word + 1) * 2 ^ c.p) arcs
paired_end c s t word list at arcs inside inside' below are paired none =
    arcs_skip (pair_graph c) (node c s t) paired.bound ((word + 1) * 2 ^ c.p) arcs paired.are paired.most
    (λ l u low high step.
    let found = paired_at c s t word list l u inside inside' below are (omega (arith, paired.least, low)) high step in
    ⊎_elim (λ (before : found.0 < at). absurd (omega (arith, paired.front found.0 before found.3, found.2, low)))
    (λ (later : at ≤ found.0). none found.0 later found.1 found.3) (cases_lt found.0 at))

-- behind a greater block there is none that is not greater
pub none_behind :
    (c : CodeData) (t count : ℕ) (list : List BlockWord) (at : ℕ) (block : Block) → AreByBlock c t count list
    → at < length list → block.value < (get_or list at no_word).block.value → (k : ℕ) → at ≤ k → k < length list
    → (get_or list k no_word).block ≡ block → ⊥
none_behind c t count list at block are here greater k later less same =
    ⊎_elim
    (λ (equal : at ≡ k).
    let is : (get_or list at no_word).block ≡ (get_or list k no_word).block = ap (λ k. (get_or list k no_word).block) equal in
    absurd (omega (arith, greater, ap (λ (b : Block). b.value) is, ap (λ (b : Block). b.value) same)))
    (λ unlike.
    ⊎_elim
    (λ (smaller : (get_or list at no_word).block.value < (get_or list k no_word).block.value).
    absurd (omega (arith, greater, smaller, ap (λ (b : Block). b.value) same)))
    (λ (tie : ((get_or list at no_word).block.value ≡ (get_or list k no_word).block.value) × ((get_or list at no_word).word < (get_or list k no_word).word)).
    absurd (omega (arith, greater, tie.0, ap (λ (b : Block). b.value) same)))
    (are.order at k (omega (arith, later, unlike)) less))
    (cases_eq at k)

-- all words of the first state are done
pub all_paired :
    (c : CodeData) (s t : ℕ) (arcs : List Arc) → AreArcsBelow (pair_graph c) (node c s t) (2 ^ c.p * 2 ^ c.p) arcs
    → AreArcsOf (pair_graph c) (node c s t) arcs
all_paired c s t arcs are =
    arcs_all (pair_graph c) (node c s t) (2 ^ c.p * 2 ^ c.p) arcs are (λ label u step. step.below)
