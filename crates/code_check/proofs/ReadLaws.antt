-- What a code writes from state 0, read by a machine: the walks of the graph of both.
use Rattle.std.proofs.Common.{◌≡◌, ◌↔◌, ℕ, ◌+◌, ◌*◌, ◌/◌, ◌%◌, ◌^◌, ◌<◌, ◌≤◌, ◌⊎◌, ⊎_elim, List, [], ◌∷◌, ◌++◌, length, Bool, ap, refl, sym, ◌∙◌, subst, arith}
use Rattle.std.proofs.lemmas.Nat.{div-mul-add, mod-mul-add, mul-add-lt, div_below}
use Rattle.std.proofs.lemmas.Bool.{cases_lt}
use Rattle.std.proofs.lemmas.List.Elements.{All-head, All-tail}
use Rattle.symbol_base.specs.Block.{symbols_of}
use Rattle.symbol_base.specs.Walk.{IsWalk}
use Rattle.symbol_base.specs.Word.{IsBefore}
use Rattle.code_spec.specs.declared.CodeRow.{CodeRow}
use Rattle.code_spec.specs.Code.{CodeData, IsCode, IsState, IsDataWord, IsDataWords}
use Rattle.code_spec.specs.Output.{row_at, output_from, state_after, flat}
use Rattle.code_spec.specs.Checked.{WritesWord}
use Rattle.code_spec.specs.Witness.{IsLeastOutside}
use Rattle.code_spec.proofs.OutputLaws.{row_in_range}
use Rattle.code_spec.proofs.StepLaws.{words_more, after_inside as after_inside_code}
use Rattle.least_walks.specs.declared.Arc.{Arc}
use Rattle.least_walks.specs.Graph.{AreArcsOf, AreArcsBelow}
use Rattle.least_walks.specs.LeastWalk.{IsGoal, IsLeastWalk}
use Rattle.least_walks.proofs.ArcLists.{arcs_push, arcs_all}
use Rattle.code_check.specs.inside.ReadGraph.{after, IsReader, IsReadStep, read_graph, AreOutside}

pub after-append : (move : ℕ → ℕ → ℕ) (state : ℕ) (xs ys : List ℕ) → after move state (xs ++ ys) ≡ after move (after move state xs) ys
after-append move state [] ys = refl
after-append move state (x ∷ xs) ys = after-append move (move state x) xs ys

after_inside :
    (move : ℕ → ℕ → ℕ) (count state : ℕ) (word : List ℕ)
    → ((state symbol : ℕ) → state ≤ count → move state symbol ≤ count) → state ≤ count → after move state word ≤ count
after_inside move count state [] stays inside = inside
after_inside move count state (x ∷ xs) stays inside = after_inside move count (move state x) xs stays (stays state x inside)

abbrev node_of : ℕ → ℕ → ℕ → ℕ
node_of count state read = state * (count + 1) + read

-- the symbols of a row's block
abbrev symbols_at : CodeData → ℕ → ℕ → List ℕ
symbols_at c state word = symbols_of c.constraint.alphabet c.q (row_at c.rows state word).block.value

read_to :
    (c : CodeData) (count : ℕ) (move : ℕ → ℕ → ℕ) (state read word : ℕ) → read ≤ count
    → (row_at c.rows (node_of count state read / (count + 1)) word).to * (count + 1)
    + after move (node_of count state read % (count + 1)) (symbols_at c (node_of count state read / (count + 1)) word)
    ≡ node_of count (row_at c.rows state word).to (after move read (symbols_at c state word))
read_to c count move state read word inside =
    let below : read < count + 1 = omega (arith, inside) in
    let front : node_of count state read / (count + 1) ≡ state = div-mul-add state (count + 1) read below in
    let back : node_of count state read % (count + 1) ≡ read = mod-mul-add state (count + 1) read below in
    ap (λ s. (row_at c.rows s word).to * (count + 1) + after move (node_of count state read % (count + 1)) (symbols_at c s word)) front
    ∙ ap (λ r. (row_at c.rows state word).to * (count + 1) + after move r (symbols_at c state word)) back

-- data words lead along a walk to the state of the code and that of the machine
pub walk_of_data :
    (c : CodeData) (count : ℕ) (move : ℕ → ℕ → ℕ) (words : List ℕ) (state read : ℕ) → IsCode c
    → IsReader c.constraint count move → IsState c state → read ≤ count → IsDataWords c words
    → IsWalk (IsReadStep c count move) (node_of count state read) words
    (node_of count (state_after c.rows state words) (after move read (flat c (output_from c.rows state words))))
walk_of_data c count move [] state read code reader inside inside' below = refl
walk_of_data c count move (word ∷ words) state read code reader inside inside' below =
    let P : ℕ → Type 0 = λ word. word < 2 ^ c.p in
    let here : IsDataWord c word = All-head P word words below in
    let row : CodeRow = row_at c.rows state word in
    let symbols : List ℕ = symbols_at c state word in
    let next : ℕ = after move read symbols in
    let next_inside : next ≤ count = after_inside move count read symbols reader.inside inside' in
    let rest = walk_of_data c count move words row.to next code reader (row_in_range c state word code inside here).1 next_inside (All-tail P word words below) in (
      node_of count row.to next,
      record {
        inside = mul-add-lt state (count + 1) read (length c.rows) inside (omega (arith, inside'));
        below = here;
        to = sym (read_to c count move state read word inside');
      },
      subst (λ r. IsWalk (IsReadStep c count move) (node_of count row.to next) words (node_of count (state_after c.rows row.to words) r))
          (sym (after-append move read symbols (flat c (output_from c.rows row.to words)))) rest,
    )

-- a walk is by data words, and leads to the state of the code and that of the machine
pub data_of_walk :
    (c : CodeData) (count : ℕ) (move : ℕ → ℕ → ℕ) (words : List ℕ) (state read there : ℕ) → IsCode c
    → IsReader c.constraint count move → IsState c state → read ≤ count
    → IsWalk (IsReadStep c count move) (node_of count state read) words there
    → IsDataWords c words
    × (there ≡ node_of count (state_after c.rows state words) (after move read (flat c (output_from c.rows state words))))
data_of_walk c count move [] state read there code reader inside inside' walk =
    ((λ k d less. absurd (omega (arith, less))), sym walk)
data_of_walk c count move (word ∷ words) state read there code reader inside inside' walk =
    let row : CodeRow = row_at c.rows state word in
    let symbols : List ℕ = symbols_at c state word in
    let next : ℕ = after move read symbols in
    let to : walk.0 ≡ node_of count row.to next = walk.1.to ∙ read_to c count move state read word inside' in
    let rest =
    data_of_walk c count move words row.to next there code reader (row_in_range c state word code inside walk.1.below).1
    (after_inside move count read symbols reader.inside inside')
    (subst (λ n. IsWalk (IsReadStep c count move) n words there) to walk.2) in (
      words_more c word words walk.1.below rest.0,
      rest.1 ∙ ap (λ r. node_of count (state_after c.rows row.to words) r) (sym (after-append move read symbols (flat c (output_from c.rows row.to words)))),
    )

-- data words lead to a goal exactly where they write no word
pub outside_at_goal :
    (c : CodeData) (count : ℕ) (move : ℕ → ℕ → ℕ) (goals : List Bool) (words : List ℕ) (there : ℕ) → IsCode c
    → IsReader c.constraint count move → AreOutside c count goals → IsState c (state_after c.rows 0 words)
    → there ≡ node_of count (state_after c.rows 0 words) (after move 0 (flat c (output_from c.rows 0 words)))
    → IsGoal goals there ↔ (WritesWord c words → ⊥)
outside_at_goal c count move goals words there code reader outside inside to =
    let read : ℕ = after move 0 (flat c (output_from c.rows 0 words)) in
    let most : read ≤ count = after_inside move count 0 (flat c (output_from c.rows 0 words)) reader.inside (omega arith) in
    let below : read < count + 1 = omega (arith, most) in
    let back : there % (count + 1) ≡ read = ap (λ n. n % (count + 1)) to ∙ mod-mul-add (state_after c.rows 0 words) (count + 1) read below in
    let here : there < (count + 1) * length c.rows =
    subst (λ n. n < (count + 1) * length c.rows) (sym to) (mul-add-lt (state_after c.rows 0 words) (count + 1) read (length c.rows) inside below) in (
      (λ goal word. absurd (omega (arith, (outside there here).0 goal, back, (reader.words (flat c (output_from c.rows 0 words))).0 word))),
      (λ none.
          (outside there here).1
          (⊎_elim (λ (less : read < count). absurd (none ((reader.words (flat c (output_from c.rows 0 words))).1 less)))
          (λ (last : count ≤ read). omega (arith, back, last, most)) (cases_lt read count))),
    )

-- the empty list writes the empty word, which is a word
none_written : (c : CodeData) (count : ℕ) (move : ℕ → ℕ → ℕ) → IsReader c.constraint count move → WritesWord c []
none_written c count move reader = (reader.words []).1 reader.some

start_is : (count : ℕ) → ◌≡◌ {A = ℕ} (node_of count 0 0) 0
start_is count = omega arith

-- no list that writes no word stands before the least walk to a goal
least_of_others :
    (c : CodeData) (count : ℕ) (move : ℕ → ℕ → ℕ) (goals : List Bool) (words : List ℕ) → IsCode c
    → IsReader c.constraint count move → AreOutside c count goals → IsLeastWalk (read_graph c count move) goals 0 words
    → (other : List ℕ) → IsDataWords c other → (WritesWord c other → ⊥) → (words ≡ other) ⊎ IsBefore words other
least_of_others c count move goals words code reader outside is [] below none = absurd (none (none_written c count move reader))
least_of_others c count move goals words code reader outside is (word ∷ others) below none =
    let other : List ℕ = word ∷ others in
    let there : ℕ = node_of count (state_after c.rows 0 other) (after move 0 (flat c (output_from c.rows 0 other))) in
    let walk : IsWalk (IsReadStep c count move) 0 other there =
    subst (λ n. IsWalk (IsReadStep c count move) n other there) (start_is count)
    (walk_of_data c count move other 0 0 code reader code.states.0 (omega arith) below) in
    is.least word others there walk
    ((outside_at_goal c count move goals other there code reader outside (after_inside_code c 0 other code code.states.0 below) refl).1 none)

-- the least walk to a goal is the first list in the order of words that writes no word
pub least_outside :
    (c : CodeData) (count : ℕ) (move : ℕ → ℕ → ℕ) (goals : List Bool) (words : List ℕ) → IsCode c
    → IsReader c.constraint count move → AreOutside c count goals
    → IsLeastWalk (read_graph c count move) goals 0 words → IsLeastOutside c words
least_outside c count move goals words code reader outside is =
    let first : IsState c 0 = code.states.0 in
    let from_start : (ws : List ℕ) (there : ℕ) → IsWalk (IsReadStep c count move) 0 ws there
    → IsDataWords c ws × (there ≡ node_of count (state_after c.rows 0 ws) (after move 0 (flat c (output_from c.rows 0 ws)))) =
    λ ws there walk.
    data_of_walk c count move ws 0 0 there code reader first (omega arith)
    (subst (λ n. IsWalk (IsReadStep c count move) n ws there) (sym (start_is count)) walk) in
    let here = from_start words is.goal is.walk in
    record {
      below = here.0;
      outside =
          (outside_at_goal c count move goals words is.goal code reader outside (after_inside_code c 0 words code first here.0) here.1).0 is.reached;
      least = λ other below none. least_of_others c count move goals words code reader outside is other below none;
    }

-- where no walk leads to a goal, all lists write words
pub none_outside :
    (c : CodeData) (count : ℕ) (move : ℕ → ℕ → ℕ) (goals : List Bool) → IsCode c → IsReader c.constraint count move
    → AreOutside c count goals
    → ((word : ℕ) (others : List ℕ) (there : ℕ) → IsWalk (IsReadStep c count move) 0 (word ∷ others) there → IsGoal goals there → ⊥)
    → (words : List ℕ) → IsDataWords c words → WritesWord c words
none_outside c count move goals code reader outside none [] below = none_written c count move reader
none_outside c count move goals code reader outside none (word ∷ others) below =
    let words : List ℕ = word ∷ others in
    let symbols : List ℕ = flat c (output_from c.rows 0 words) in
    let there : ℕ = node_of count (state_after c.rows 0 words) (after move 0 symbols) in
    let walk : IsWalk (IsReadStep c count move) 0 words there =
    subst (λ n. IsWalk (IsReadStep c count move) n words there) (start_is count)
    (walk_of_data c count move words 0 0 code reader code.states.0 (omega arith) below) in
    ⊎_elim (λ (less : after move 0 symbols < count). (reader.words symbols).1 less)
    (λ (last : count ≤ after move 0 symbols).
    absurd
    (none word others there walk
    ((outside_at_goal c count move goals words there code reader outside (after_inside_code c 0 words code code.states.0 below) refl).1
    (λ word_is. omega (arith, last, (reader.words symbols).0 word_is)))))
    (cases_lt (after move 0 symbols) count)

-- one data word more
pub read_more :
    (c : CodeData) (count : ℕ) (move : ℕ → ℕ → ℕ) (node word read : ℕ) (arcs : List Arc) (arc : Arc) → IsCode c
    → node < (count + 1) * length c.rows → IsDataWord c word → arc.label ≡ word
    → arc.to ≡ (row_at c.rows (node / (count + 1)) word).to * (count + 1) + read
    → read ≡ after move (node % (count + 1)) (symbols_of 2 c.q (row_at c.rows (node / (count + 1)) word).block.value)
    → read ≤ count → AreArcsBelow (read_graph c count move) node word arcs
    → AreArcsBelow (read_graph c count move) node (word + 1) (arcs ++ arc ∷ [])
read_more c count move node word read arcs arc code inside below label to read_is most are =
    let state : ℕ = node / (count + 1) in
    let state_inside : IsState c state = div_below node (count + 1) (length c.rows) (omega arith) (omega (arith, inside)) in
    let here : IsReadStep c count move node word arc.to =
    record {
      inside = inside;
      below = below;
      to =
          to
          ∙ ap (λ r. (row_at c.rows state word).to * (count + 1) + r)
          (read_is ∙ ap (λ a. after move (node % (count + 1)) (symbols_of a c.q (row_at c.rows state word).block.value)) (sym code.alphabet));
    } in
    let step : IsReadStep c count move node arc.label arc.to = subst (λ w. IsReadStep c count move node w arc.to) (sym label) here in
    let to_state : IsState c (row_at c.rows state word).to = (row_in_range c state word code state_inside below).1 in
    let to_inside : arc.to < (count + 1) * length c.rows =
    subst (λ n. n < (count + 1) * length c.rows) (sym to)
    (mul-add-lt (row_at c.rows state word).to (count + 1) read (length c.rows) to_state (omega (arith, most))) in
    subst (λ n. AreArcsBelow (read_graph c count move) node (n + 1) (arcs ++ arc ∷ [])) label
    (arcs_push (read_graph c count move) node word arcs arc are (omega (arith, label)) step to_inside
    (λ l u low high other. absurd (omega (arith, low, high, label)))
    (λ u other. step.to ∙ sym other.to))

-- all data words are done
pub read_all :
    (c : CodeData) (count : ℕ) (move : ℕ → ℕ → ℕ) (node : ℕ) (arcs : List Arc)
    → AreArcsBelow (read_graph c count move) node (2 ^ c.p) arcs → AreArcsOf (read_graph c count move) node arcs
read_all c count move node arcs are = arcs_all (read_graph c count move) node (2 ^ c.p) arcs are (λ label u step. step.below)
