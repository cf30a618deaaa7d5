-- Pairs of walks that write the same blocks are the walks of the graph of pairs.
use Rattle.std.proofs.Common.{◌≡◌, ℕ, ◌+◌, ◌*◌, ◌/◌, ◌%◌, ◌^◌, ◌<◌, ◌≤◌, ◌⊎◌, inl, inr, ⊎_elim, List, [], ◌∷◌, length, get_or, ap, refl, sym, ◌∙◌, subst, arith}
use Rattle.std.proofs.lemmas.Nat.{div-mul-add, mod-mul-add, div-add-mod', mul-add-lt, pow_pos}
use Rattle.std.proofs.lemmas.Bool.{cases_lt, cases_eq}
use Rattle.std.proofs.lemmas.List.Elements.{All-head, All-tail}
use Rattle.std.proofs.Math.Nat.{mod-lt, div-lt_iff_lt-mul}
use Rattle.symbol_base.specs.declared.Block.{Block}
use Rattle.symbol_base.specs.Walk.{IsWalk}
use Rattle.symbol_base.specs.Word.{IsSmallerAtFirst}
use Rattle.code_spec.specs.declared.CodeRow.{CodeRow}
use Rattle.code_spec.specs.Code.{CodeData, IsCode, IsState, IsDataWord, IsDataWords}
use Rattle.code_spec.specs.Output.{row_at, output_from, state_after}
use Rattle.code_spec.specs.Witness.{in_pairs}
use Rattle.code_spec.proofs.OutputLaws.{row_in_range}
use Rattle.code_spec.proofs.StepLaws.{words_more}
use Rattle.code_check.specs.inside.PairGraph.{IsPairStep, first_words, second_words, labels_of}

-- equal lists of blocks have equal first blocks and equal rests
heads : (a b : Block) (us ws : List Block) → a ∷ us ≡ b ∷ ws → a ≡ b
heads a b us ws same = ap (λ (l : List Block). get_or l 0 a) same

abbrev rest_of : List Block → List Block
rest_of [] = []
rest_of (b ∷ bs) = bs

tails : (a b : Block) (us ws : List Block) → a ∷ us ≡ b ∷ ws → us ≡ ws
tails a b us ws same = ap rest_of same

same_row : (rows : List (List CodeRow)) (s s' x x' : ℕ) → s ≡ s' → x ≡ x' → row_at rows s x ≡ row_at rows s' x'
same_row rows s s' x x' same same' = ap (λ s. row_at rows s x) same ∙ ap (λ x. row_at rows s' x) same'

-- two steps that write the same block are one of the pair
pub pair_step :
    (c : CodeData) (s t x y : ℕ) → IsState c s → IsState c t → IsDataWord c x → IsDataWord c y
    → (row_at c.rows s x).block ≡ (row_at c.rows t y).block
    → IsPairStep c (s * length c.rows + t) (x * 2 ^ c.p + y)
    ((row_at c.rows s x).to * length c.rows + (row_at c.rows t y).to)
pair_step c s t x y inside inside' below below' blocks =
    let states : ℕ = length c.rows in
    let words : ℕ = 2 ^ c.p in
    let first : row_at c.rows ((s * states + t) / states) ((x * words + y) / words) ≡ row_at c.rows s x =
    same_row c.rows ((s * states + t) / states) s ((x * words + y) / words) x (div-mul-add s states t inside') (div-mul-add x words y below') in
    let second : row_at c.rows ((s * states + t) % states) ((x * words + y) % words) ≡ row_at c.rows t y =
    same_row c.rows ((s * states + t) % states) t ((x * words + y) % words) y (mod-mul-add s states t inside') (mod-mul-add x words y below') in
    record {
      inside = mul-add-lt s states t states inside inside';
      below = mul-add-lt x words y words below below';
      blocks = ap (λ (r : CodeRow). r.block) first ∙ blocks ∙ sym (ap (λ (r : CodeRow). r.block) second);
      to =
          sym (ap (λ (r : CodeRow). r.to * states + (row_at c.rows ((s * states + t) % states) ((x * words + y) % words)).to) first
          ∙ ap (λ (r : CodeRow). (row_at c.rows s x).to * states + r.to) second);
    }

pub walk_of_words :
    (c : CodeData) (xs ys : List ℕ) (s t : ℕ) → IsCode c → IsState c s → IsState c t → IsDataWords c xs → IsDataWords c ys
    → length xs ≡ length ys → output_from c.rows s xs ≡ output_from c.rows t ys
    → IsWalk (IsPairStep c) (s * length c.rows + t) (labels_of c xs ys)
    (state_after c.rows s xs * length c.rows + state_after c.rows t ys)
walk_of_words c [] [] s t code inside inside' below below' count blocks = refl
walk_of_words c [] (y ∷ ys) s t code inside inside' below below' count blocks = absurd (omega (arith, count))
walk_of_words c (x ∷ xs) [] s t code inside inside' below below' count blocks = absurd (omega (arith, count))
walk_of_words c (x ∷ xs) (y ∷ ys) s t code inside inside' below below' count blocks =
    let P : ℕ → Type 0 = λ word. word < 2 ^ c.p in
    let here : IsDataWord c x = All-head P x xs below in
    let here' : IsDataWord c y = All-head P y ys below' in
    let a : CodeRow = row_at c.rows s x in
    let b : CodeRow = row_at c.rows t y in
    let same = heads a.block b.block (output_from c.rows a.to xs) (output_from c.rows b.to ys) blocks in
    let others = tails a.block b.block (output_from c.rows a.to xs) (output_from c.rows b.to ys) blocks in (
      a.to * length c.rows + b.to,
      pair_step c s t x y inside inside' here here' same,
      walk_of_words c xs ys a.to b.to code (row_in_range c s x code inside here).1 (row_in_range c t y code inside' here').1
          (All-tail P x xs below) (All-tail P y ys below') (omega (arith, count)) others,
    )

-- the words of a label are data words
pub label_words :
    (c : CodeData) (label : ℕ) → label < 2 ^ c.p * 2 ^ c.p → (label / 2 ^ c.p < 2 ^ c.p) × (label % 2 ^ c.p < 2 ^ c.p)
label_words c label below = ((div-lt_iff_lt-mul (pow_pos c.p)).1 below, mod-lt label (pow_pos c.p))

-- the states of a node are states
pub node_states :
    (c : CodeData) (node : ℕ) → node < length c.rows * length c.rows
    → IsState c (node / length c.rows) × IsState c (node % length c.rows)
node_states c node below =
    let some : 0 < length c.rows = ⊎_elim (λ (none : length c.rows ≡ 0). absurd (omega (arith, below, ap (λ n. n * length c.rows) none))) (λ other. omega (arith, other)) (cases_eq (length c.rows) 0) in
    ((div-lt_iff_lt-mul some).1 below, mod-lt node some)

-- the words of a walk's labels write the same blocks
pub words_of_walk :
    (c : CodeData) (labels : List ℕ) (node there : ℕ) → IsCode c → node < length c.rows * length c.rows
    → IsWalk (IsPairStep c) node labels there
    → IsDataWords c (first_words c labels) × IsDataWords c (second_words c labels)
    × (output_from c.rows (node / length c.rows) (first_words c labels) ≡ output_from c.rows (node % length c.rows) (second_words c labels))
words_of_walk c [] node there code inside walk = ((λ k d less. absurd (omega (arith, less))), (λ k d less. absurd (omega (arith, less))), refl)
words_of_walk c (label ∷ labels) node there code inside walk =
    let states : ℕ = length c.rows in
    let words = label_words c label walk.1.below in
    let pair = node_states c node inside in
    let a : CodeRow = row_at c.rows (node / states) (label / 2 ^ c.p) in
    let b : CodeRow = row_at c.rows (node % states) (label % 2 ^ c.p) in
    let a_inside : IsState c a.to = (row_in_range c (node / states) (label / 2 ^ c.p) code pair.0 words.0).1 in
    let b_inside : IsState c b.to = (row_in_range c (node % states) (label % 2 ^ c.p) code pair.1 words.1).1 in
    let next_inside : walk.0 < states * states = subst (λ u. u < states * states) (sym walk.1.to) (mul-add-lt a.to states b.to states a_inside b_inside) in
    let first : walk.0 / states ≡ a.to = ap (λ u. u / states) walk.1.to ∙ div-mul-add a.to states b.to b_inside in
    let second : walk.0 % states ≡ b.to = ap (λ u. u % states) walk.1.to ∙ mod-mul-add a.to states b.to b_inside in
    let rest = words_of_walk c labels walk.0 there code next_inside walk.2 in
    let behind : output_from c.rows a.to (first_words c labels) ≡ output_from c.rows b.to (second_words c labels) =
    ap (λ s. output_from c.rows s (first_words c labels)) (sym first) ∙ rest.2 ∙ ap (λ s. output_from c.rows s (second_words c labels)) second in (
      words_more c (label / 2 ^ c.p) (first_words c labels) words.0 rest.0,
      words_more c (label % 2 ^ c.p) (second_words c labels) words.1 rest.1,
      ap (λ (block : Block). block ∷ output_from c.rows a.to (first_words c labels)) walk.1.blocks
          ∙ ap (λ (blocks : List Block). b.block ∷ blocks) behind,
    )

-- a smaller number has smaller digits at the first difference
pub smaller_digits :
    (n a b : ℕ) → 0 < n → a < b → (a / n < b / n) ⊎ ((a / n ≡ b / n) × (a % n < b % n))
smaller_digits n a b some less =
    let a_is : a / n * n + a % n ≡ a = div-add-mod' a n in
    let b_is : b / n * n + b % n ≡ b = div-add-mod' b n in
    ⊎_elim (λ (smaller : a / n < b / n). inl smaller)
    (λ (most : b / n ≤ a / n).
    ⊎_elim
    (λ (same : a / n ≡ b / n).
    let fronts : a / n * n ≡ b / n * n = ap (λ q. q * n) same in inr (same, omega (arith, a_is, b_is, fronts, less)))
    (λ other.
    let greater : b / n < a / n = omega (arith, most, other) in
    let below : b < a / n * n = (div-lt_iff_lt-mul some).0 greater in
    absurd (omega (arith, below, a_is, less)))
    (cases_eq (a / n) (b / n)))
    (cases_lt (a / n) (b / n))

-- smaller labels are smaller words, pair by pair
pub smaller_pairs :
    (c : CodeData) (u w : List ℕ) → IsSmallerAtFirst u w
    → IsSmallerAtFirst (in_pairs (first_words c u) (second_words c u)) (in_pairs (first_words c w) (second_words c w))
smaller_pairs c [] w smaller = smaller
smaller_pairs c (a ∷ u) [] smaller = smaller
smaller_pairs c (a ∷ u) (b ∷ w) (inl less) =
    ⊎_elim (λ (first : a / 2 ^ c.p < b / 2 ^ c.p). inl first)
    (λ (second : (a / 2 ^ c.p ≡ b / 2 ^ c.p) × (a % 2 ^ c.p < b % 2 ^ c.p)). inr (second.0, inl second.1))
    (smaller_digits (2 ^ c.p) a b (pow_pos c.p) less)
smaller_pairs c (a ∷ u) (b ∷ w) (inr same) =
    inr (ap (λ l. l / 2 ^ c.p) same.0, inr (ap (λ l. l % 2 ^ c.p) same.0, smaller_pairs c u w same.1))

-- the words of the labels of two lists are the lists
pub first_of_labels :
    (c : CodeData) (xs ys : List ℕ) → IsDataWords c ys → length xs ≡ length ys → first_words c (labels_of c xs ys) ≡ xs
first_of_labels c [] ys below count = refl
first_of_labels c (x ∷ xs) [] below count = absurd (omega (arith, count))
first_of_labels c (x ∷ xs) (y ∷ ys) below count =
    let P : ℕ → Type 0 = λ word. word < 2 ^ c.p in
    ap (λ w. w ∷ first_words c (labels_of c xs ys)) (div-mul-add x (2 ^ c.p) y (All-head P y ys below))
    ∙ ap (λ ws. x ∷ ws) (first_of_labels c xs ys (All-tail P y ys below) (omega (arith, count)))

pub second_of_labels :
    (c : CodeData) (xs ys : List ℕ) → IsDataWords c ys → length xs ≡ length ys → second_words c (labels_of c xs ys) ≡ ys
second_of_labels c [] [] below count = refl
second_of_labels c [] (y ∷ ys) below count = absurd (omega (arith, count))
second_of_labels c (x ∷ xs) [] below count = absurd (omega (arith, count))
second_of_labels c (x ∷ xs) (y ∷ ys) below count =
    let P : ℕ → Type 0 = λ word. word < 2 ^ c.p in
    ap (λ w. w ∷ second_words c (labels_of c xs ys)) (mod-mul-add x (2 ^ c.p) y (All-head P y ys below))
    ∙ ap (λ ws. y ∷ ws) (second_of_labels c xs ys (All-tail P y ys below) (omega (arith, count)))
