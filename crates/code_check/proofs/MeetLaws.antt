-- Words of two lists, each in the order of the blocks, that write the same block and lead into a set of pairs.
use Rattle.std.proofs.Common.{◌≡◌, ◌↔◌, ℕ, ◌+◌, ◌*◌, ◌/◌, ◌%◌, ◌^◌, ◌<◌, List, length, get_or, ap, sym, ◌∙◌, subst}
use Rattle.std.proofs.lemmas.Nat.{div-mul-add, mod-mul-add, div-add-mod'}
use Rattle.symbol_base.specs.declared.Block.{Block}
use Rattle.least_walks.specs.declared.pair_graph.Arcs.{Arcs}
use Rattle.least_walks.specs.declared.pair_graph.Arcs.TheVariants.{All, Unlike}
use Rattle.least_walks.specs.NodeSet.{IsIn}
use Rattle.least_walks.specs.PairGraph.{IsMeant, LeadsInto}
use Rattle.code_spec.specs.declared.CodeRow.{CodeRow}
use Rattle.code_spec.specs.Code.{CodeData, IsCode, IsState, IsDataWord}
use Rattle.code_spec.specs.Output.{row_at}
use Rattle.code_spec.proofs.OutputLaws.{row_in_range}
use Rattle.code_check.specs.declared.by_block.BlockWord.{BlockWord}
use Rattle.code_check.specs.inside.ByBlock.{no_word, AreByBlock}
use Rattle.code_check.specs.inside.PairGraph.{IsPairStep, pair_graph}
use Rattle.code_check.specs.inside.Meets.{AreMeant, Meets}
use Rattle.code_check.proofs.PairLaws.{pair_step, label_words, node_states}

-- the list of a state leads to states
pub list_inside :
    (c : CodeData) (state : ℕ) (list : List BlockWord) → IsCode c → IsState c state → AreByBlock c state (2 ^ c.p) list
    → (k : ℕ) → k < length list → (get_or list k no_word).to < length c.rows
list_inside c state list code inside are k below =
    subst (λ n. n < length c.rows) (sym (are.to k below))
    (row_in_range c state (get_or list k no_word).word code inside (are.below k below)).1

-- words that meet are a pair of words of the two lists
abbrev pub MeetIn : Arcs → ℕ → List ℕ → List BlockWord → List BlockWord → Type 0
MeetIn arcs states pairs first second =
    (i k : ℕ) × (i < length first) × (k < length second) × Meets arcs states pairs (get_or first i no_word) (get_or second k no_word)

label_meant : (arcs : Arcs) (words x y label : ℕ) → label / words ≡ x → label % words ≡ y → AreMeant arcs x y ↔ IsMeant arcs words label
label_meant All words x y label first second = ((λ meant. tt), (λ meant. tt))
label_meant Unlike words x y label first second = (
  (λ unlike same. unlike (sym first ∙ same ∙ second)),
  (λ unlike same. unlike (first ∙ same ∙ sym second)),
)

-- words that meet are an arc of the pair that leads into the set
pub leads_of_meeting :
    (c : CodeData) (node : ℕ) (arcs : Arcs) (pairs : List ℕ) (first second : List BlockWord) → node < length c.rows * length c.rows
    → AreByBlock c (node / length c.rows) (2 ^ c.p) first → AreByBlock c (node % length c.rows) (2 ^ c.p) second
    → MeetIn arcs (length c.rows) pairs first second → LeadsInto (pair_graph c) (2 ^ c.p) arcs node pairs
leads_of_meeting c node arcs pairs first second inside one other (i, k, i_in, k_in, meets) =
    let states : ℕ = length c.rows in
    let at = node_states c node inside in
    let x : ℕ = (get_or first i no_word).word in
    let y : ℕ = (get_or second k no_word).word in
    let x_below : IsDataWord c x = one.below i i_in in
    let y_below : IsDataWord c y = other.below k k_in in
    let value : (get_or first i no_word).block.value ≡ (get_or second k no_word).block.value = meets.block in
    let same : (get_or first i no_word).block ≡ (get_or second k no_word).block =
    ap (λ (v : ℕ). let b : Block = record { value = v } in b) value in
    let blocks : (row_at c.rows (node / states) x).block ≡ (row_at c.rows (node % states) y).block =
    sym (one.block i i_in) ∙ same ∙ other.block k k_in in
    let whole : node / states * states + node % states ≡ node = div-add-mod' node states in
    let to : (get_or first i no_word).to * states + (get_or second k no_word).to
    ≡ (row_at c.rows (node / states) x).to * states + (row_at c.rows (node % states) y).to =
    ap (λ n. n * states + (get_or second k no_word).to) (one.to i i_in) ∙ ap (λ n. (row_at c.rows (node / states) x).to * states + n) (other.to k k_in) in
    let step = pair_step c (node / states) (node % states) x y at.0 at.1 x_below y_below blocks in
    let label : ℕ = x * 2 ^ c.p + y in (
      label,
      (get_or first i no_word).to * states + (get_or second k no_word).to,
      subst (λ n. IsPairStep c n label ((get_or first i no_word).to * states + (get_or second k no_word).to)) whole
          (subst (IsPairStep c (node / states * states + node % states) label) (sym to) step),
      (label_meant arcs (2 ^ c.p) x y label (div-mul-add x (2 ^ c.p) y y_below) (mod-mul-add x (2 ^ c.p) y y_below)).0 meets.meant,
      meets.leads,
    )

-- an arc of the pair that leads into the set is words that meet
pub meeting_of_leads :
    (c : CodeData) (node : ℕ) (arcs : Arcs) (pairs : List ℕ) (first second : List BlockWord) → node < length c.rows * length c.rows
    → AreByBlock c (node / length c.rows) (2 ^ c.p) first → AreByBlock c (node % length c.rows) (2 ^ c.p) second
    → LeadsInto (pair_graph c) (2 ^ c.p) arcs node pairs → MeetIn arcs (length c.rows) pairs first second
meeting_of_leads c node arcs pairs first second inside one other (label, to, step, meant, there) =
    let states : ℕ = length c.rows in
    let words = label_words c label step.below in
    let i = one.all (label / 2 ^ c.p) words.0 in
    let k = other.all (label % 2 ^ c.p) words.1 in
    let first_row : CodeRow = row_at c.rows (node / states) (label / 2 ^ c.p) in
    let second_row : CodeRow = row_at c.rows (node % states) (label % 2 ^ c.p) in
    let item : BlockWord = get_or first i.0 no_word in
    let mate : BlockWord = get_or second k.0 no_word in
    let item_block : item.block ≡ first_row.block = one.block i.0 i.1 ∙ ap (λ w. (row_at c.rows (node / states) w).block) i.2 in
    let mate_block : mate.block ≡ second_row.block = other.block k.0 k.1 ∙ ap (λ w. (row_at c.rows (node % states) w).block) k.2 in
    let item_to : item.to ≡ first_row.to = one.to i.0 i.1 ∙ ap (λ w. (row_at c.rows (node / states) w).to) i.2 in
    let mate_to : mate.to ≡ second_row.to = other.to k.0 k.1 ∙ ap (λ w. (row_at c.rows (node % states) w).to) k.2 in
    let place : item.to * states + mate.to ≡ to =
    ap (λ n. n * states + mate.to) item_to ∙ ap (λ n. first_row.to * states + n) mate_to ∙ sym step.to in (
      i.0,
      k.0,
      i.1,
      k.1,
      record {
        block = ap (λ (b : Block). b.value) (item_block ∙ step.blocks ∙ sym mate_block);
        meant = (label_meant arcs (2 ^ c.p) item.word mate.word label (sym i.2) (sym k.2)).1 meant;
        leads = subst (IsIn pairs) (sym place) there;
      },
    )
