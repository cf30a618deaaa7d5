use Rattle.std.proofs.Common.{◌≡◌, ℕ, ◌+◌, ◌*◌, ◌/◌, ◌%◌, ◌<◌, ◌≤◌, List, [], ◌∷◌, ◌++◌, length, refl, ap, sym, ◌∙◌, subst}
use Rattle.symbol_base.specs.declared.Block.{Block}
use Rattle.symbol_base.specs.Block.{symbols_of}
use Rattle.code_spec.specs.declared.CodeRow.{CodeRow}
use Rattle.code_spec.specs.Code.{IsCode, IsDataWord}
use Rattle.code_spec.specs.Output.{row_at}
use Rattle.least_walks.specs.declared.Arc.{Arc}
use Rattle.least_walks.specs.Graph.{AreArcsBelow}
use Rattle.code_check.specs.inside.CoverMoves.{move_on}
use Rattle.code_check.specs.inside.ReadGraph.{after}
use Rattle.code_check.specs.inside.Reads.{ReadData, graph_of}
use Rattle.code_check.proofs.ReadLaws.{read_more}
use Rattle.code_check.proofs.reads.ReadsImplicitGraph.arcs_of.Goals as goal

-- the arc of the next data word, in the program's numbers
arc_more :
    (d : ReadData) (node word states state index read : ℕ) (block : Block) (arcs more : List Arc) → IsCode d.code
    → node < (graph_of d).nodes → IsDataWord d.code word → states ≡ length d.cover → state ≡ node / (states + 1)
    → block ≡ (row_at d.code.rows state word).block → index ≡ (row_at d.code.rows state word).to
    → read ≡ after (move_on d.cover) (node % (states + 1)) (symbols_of 2 d.code.q block.value) → read ≤ length d.cover
    → more ≡ arcs ++ record { label = word; to = index * (states + 1) + read } ∷ []
    → AreArcsBelow (graph_of d) node word arcs → AreArcsBelow (graph_of d) node (word + 1) more
arc_more d node word states state index read block arcs more code inside below count state_is block_is index_is read_is most more_is are =
    let place : state ≡ node / (length d.cover + 1) = state_is ∙ ap (λ n. node / (n + 1)) count in
    let row : row_at d.code.rows state word ≡ row_at d.code.rows (node / (length d.cover + 1)) word = ap (λ s. row_at d.code.rows s word) place in
    let arc : Arc = record { label = word; to = index * (states + 1) + read } in
    let to : arc.to ≡ (row_at d.code.rows (node / (length d.cover + 1)) word).to * (length d.cover + 1) + read =
    ap (λ n. index * (n + 1) + read) count ∙ ap (λ n. n * (length d.cover + 1) + read) (index_is ∙ ap (λ (r : CodeRow). r.to) row) in
    let value : block.value ≡ (row_at d.code.rows (node / (length d.cover + 1)) word).block.value =
    ap (λ (b : Block). b.value) block_is ∙ ap (λ (r : CodeRow). r.block.value) row in
    let read_on : read ≡ after (move_on d.cover) (node % (length d.cover + 1)) (symbols_of 2 d.code.q (row_at d.code.rows (node / (length d.cover + 1)) word).block.value) =
    read_is
    ∙ ap (λ n. after (move_on d.cover) (node % (n + 1)) (symbols_of 2 d.code.q block.value)) count
    ∙ ap (λ v. after (move_on d.cover) (node % (length d.cover + 1)) (symbols_of 2 d.code.q v)) value in
    subst (AreArcsBelow (graph_of d) node (word + 1)) (sym more_is)
    (read_more d.code (length d.cover) (move_on d.cover) node word read arcs arc code inside below refl to read_on most are)

pub loop-word-preserved : goal.loop-word-preserved
loop-word-preserved c =
    let d : ReadData = record { code = c.self.inside.code.now; cover = c.self.inside.cover.now } in
    let now : ReadData = c.args.self.now in
    let is : d ≡ now = c.self.view_is in
    let word : ℕ = c.loop-word.word in
    subst (λ (r : ReadData). AreArcsBelow (graph_of r) c.args.node (word + 1) c.push.new.self.items) is
    (arc_more d c.args.node word c.states.result c.at-state.result c.index.result c.read-read_on.result c.step-to.result.0
    c.loop-word.room.items c.push.new.self.items c.word_count-words.ensures.table
    (subst (λ (r : ReadData). c.args.node < (graph_of r).nodes) (sym is) c.requires.node)
    (subst (λ n. word < n) c.word_count-words.ensures.count c.loop-word-test.true) c.states.ensures.count c.at-state.ensures.value
    c.step-to.ensures.block (c.index.ensures.value ∙ c.step-to.ensures.next)
    (subst (λ (r : ReadData). c.read-read_on.result ≡ after (move_on r.cover) (c.args.node % (c.states.result + 1)) (symbols_of 2 r.code.q c.step-to.result.0.value)) (sym is) c.read-read_on.ensures.read)
    (subst (λ (r : ReadData). c.read-read_on.result ≤ length r.cover) (sym is) c.read-read_on.ensures.inside)
    c.in_ok-push.ensures.items
    (subst (λ (r : ReadData). AreArcsBelow (graph_of r) c.args.node word c.loop-word.room.items) (sym is) c.loop-word.invariant))
