-- In a part of a cover's power as many symbols as the memory of the cover tell the state that they lead to.
use Rattle.std.proofs.Common.{◌≡◌, ℕ, ◌-◌, ◌*◌, ◌<◌, ◌≤◌, List, [], ◌∷◌, ◌++◌, length, get_or, take, drop, ap, sym, ◌∙◌, subst, arith}
use Rattle.std.specs.List.{flat_map}
use Rattle.std.proofs.lemmas.List.{length-append, length-drop, take-append-drop}
use Rattle.std.proofs.lemmas.List.Elements.{All-nil, All-cons}
use Rattle.symbol_base.specs.Block.{symbols_of}
use Rattle.symbol_base.specs.Walk.{IsWalk}
use Rattle.symbol_base.specs.Word.{IsOver}
use Rattle.symbol_base.proofs.BlockLemmas.{length-symbols_of, symbols_of-number_of}
use Rattle.symbol_base.proofs.Walks.{walk-join, walk-part}
use Rattle.label_graphs.specs.Cover.{CoverData, KeepsSymbols}
use Rattle.label_graphs.specs.Graph.{EdgeData, HasEdge}
use Rattle.label_graphs.specs.Memory.{EndTogether}
use Rattle.label_graphs.specs.Power.{IsPower}
use Rattle.split_spec.specs.Window.{Passes, HasWindow}
use Rattle.split_spec.proofs.EdgeEnds.{edge_to, source_inside, start_inside}
use Rattle.split_spec.proofs.PartGraph.{IsPart, ends_listed, part_keeps, one_state}

-- some states of the power of a cover, with the edges among them
pub record IsPowerPart (cover : CoverData) (q : ℕ) (power rows : List (List EdgeData)) (states : List ℕ) : Type 0 where
  pub symbols : KeepsSymbols cover
  pub is_power : IsPower cover q power
  pub among : IsPart power states rows

-- what an edge of the cover reads is below its alphabet
symbol_below : (cover : CoverData) (from symbol to : ℕ) → KeepsSymbols cover → HasEdge cover.graph from symbol to → symbol < cover.alphabet
symbol_below cover from symbol to known edge =
    subst (λ (e : EdgeData). e.block < cover.alphabet) edge.2
    (known.symbols from [] (source_inside cover.graph from symbol to edge) edge.0 (edge_to symbol to) edge.1)

-- and so is each symbol of a walk
walk_over : (cover : CoverData) (word : List ℕ) (from to : ℕ) → KeepsSymbols cover → IsWalk (HasEdge cover.graph) from word to → IsOver cover.alphabet word
walk_over cover [] from to known walk = All-nil (λ s. s < cover.alphabet)
walk_over cover (symbol ∷ word) from to known walk =
    All-cons (λ s. s < cover.alphabet) symbol word (symbol_below cover from symbol walk.0 known walk.1) (walk_over cover word walk.0 to known walk.2)

-- an edge of the power is a walk by the symbols of its block
edge_reads : (cover : CoverData) (q : ℕ) (power : List (List EdgeData)) (from block to : ℕ) → KeepsSymbols cover → IsPower cover q power
    → HasEdge power from block to → IsWalk (HasEdge cover.graph) from (symbols_of cover.alphabet q block) to
edge_reads cover q power from block to known is edge =
    let read = (is.edges from block to).0 edge in
    let some : 0 < cover.alphabet = (let two = known.alphabet.0 in omega (arith, two)) in
    let word : symbols_of cover.alphabet q block ≡ read.0 =
    ap (λ m. symbols_of cover.alphabet m block) (sym read.2) ∙ ap (symbols_of cover.alphabet (length read.0)) (sym read.3)
    ∙ symbols_of-number_of cover.alphabet read.0 some (walk_over cover read.0 from to known read.1) in
    subst (λ (w : List ℕ). IsWalk (HasEdge cover.graph) from w to) (sym word) read.1

-- so an edge of the part is a walk by the symbols of its block between states of the cover
part_reads : (cover : CoverData) (q : ℕ) (power rows : List (List EdgeData)) (states : List ℕ) (from block to : ℕ) → IsPowerPart cover q power rows states
    → HasEdge rows from block to → IsWalk (HasEdge cover.graph) (get_or states from 0) (symbols_of cover.alphabet q block) (get_or states to 0)
part_reads cover q power rows states from block to part edge =
    edge_reads cover q power (get_or states from 0) block (get_or states to 0) part.symbols part.is_power
    (part_keeps power rows states part.among from block to edge)

-- a walk of the part reads the symbols of its blocks
walk_reads : (cover : CoverData) (q : ℕ) (power rows : List (List EdgeData)) (states : List ℕ) (blocks : List ℕ) (from to : ℕ)
    → IsPowerPart cover q power rows states → IsWalk (HasEdge rows) from blocks to
    → IsWalk (HasEdge cover.graph) (get_or states from 0) (flat_map (symbols_of cover.alphabet q) blocks) (get_or states to 0)
walk_reads cover q power rows states [] from to part walk = ap (λ s. get_or states s 0) walk
walk_reads cover q power rows states (block ∷ blocks) from to part walk =
    walk-join (HasEdge cover.graph) (symbols_of cover.alphabet q block) (flat_map (symbols_of cover.alphabet q) blocks)
    (get_or states from 0) (get_or states walk.0 0) (get_or states to 0)
    (part_reads cover q power rows states from block walk.0 part walk.1) (walk_reads cover q power rows states blocks walk.0 to part walk.2)

-- they are q symbols for each block
symbol_count : (alphabet q : ℕ) (blocks : List ℕ) → length (flat_map (symbols_of alphabet q) blocks) ≡ q * length blocks
symbol_count alphabet q [] = omega arith
symbol_count alphabet q (block ∷ blocks) =
    let rest = symbol_count alphabet q blocks in
    let first = length-symbols_of alphabet q block in
    let joined = length-append (symbols_of alphabet q block) (flat_map (symbols_of alphabet q) blocks) in
    grind (arith, rest, first, joined)

-- longer words than the memory tell the state in which they end too
longer_together : (rows : List (List EdgeData)) (n : ℕ) (word : List ℕ) (u x v y : ℕ) → EndTogether (length rows) (HasEdge rows) n → n ≤ length word
    → x < length rows → y < length rows → IsWalk (HasEdge rows) u word x → IsWalk (HasEdge rows) v word y → x ≡ y
longer_together rows n word u x v y together long x_in y_in one other =
    let k = length word - n in
    let last = drop k word in
    let size : length last ≡ n = length-drop k word ∙ omega (arith, long) in
    let split : (s t : ℕ) → IsWalk (HasEdge rows) s word t → IsWalk (HasEdge rows) s (take k word ++ last) t =
    λ s t walk. subst (λ (w : List ℕ). IsWalk (HasEdge rows) s w t) (sym (take-append-drop k word)) walk in
    let here = walk-part (HasEdge rows) (take k word) last u x (split u x one) in
    let there = walk-part (HasEdge rows) (take k word) last v y (split v y other) in
    together last here.0 x there.0 y size (start_inside rows last here.0 x here.2 x_in) (start_inside rows last there.0 y there.2 y_in) here.2 there.2

-- a word leads from a state of a cover to one state
one_end : (cover : CoverData) (word : List ℕ) (from x y : ℕ) → KeepsSymbols cover → IsWalk (HasEdge cover.graph) from word x
    → IsWalk (HasEdge cover.graph) from word y → x ≡ y
one_end cover [] from x y known one other = sym one ∙ other
one_end cover (symbol ∷ word) from x y known one other =
    let same = known.single from symbol one.0 other.0 one.1 other.1 in
    one_end cover word one.0 x y known one.2 (subst (λ s. IsWalk (HasEdge cover.graph) s word y) (sym same) other.2)

-- the source of an edge of the part is a state of the cover
cover_state : (cover : CoverData) (q : ℕ) (power rows : List (List EdgeData)) (states : List ℕ) (from block to : ℕ) → IsPowerPart cover q power rows states
    → HasEdge rows from block to → get_or states from 0 < length cover.graph
cover_state cover q power rows states from block to part edge =
    let below = source_inside power (get_or states from 0) block (get_or states to 0) (part_keeps power rows states part.among from block to edge) in
    let same = part.is_power.states in
    omega (arith, below, same)

-- the next edge is told by its block and the blocks before it that hold as many symbols as the memory
pub window_of_memory : (cover : CoverData) (q n a : ℕ) (power rows : List (List EdgeData)) (states : List ℕ) → IsPowerPart cover q power rows states
    → EndTogether (length cover.graph) (HasEdge cover.graph) n → n ≤ q * a → HasWindow rows a 0
window_of_memory cover q n a power rows states part together enough before behind block before_size behind_size one other =
    let word = flat_map (symbols_of cover.alphabet q) before in
    let long : n ≤ length word = (
    let count = symbol_count cover.alphabet q before in
    let blocks : q * length before ≡ q * a = ap (λ m. q * m) before_size in
    omega (arith, count, blocks, enough)) in
    let at : Passes rows before block behind → ℕ = λ p. get_or states p.from 0 in
    let ends = ends_listed power rows states part.among one.from block one.to one.edge in
    let others = ends_listed power rows states part.among other.from block other.to other.edge in
    let inside : (p : Passes rows before block behind) → at p < length cover.graph =
    λ p. cover_state cover q power rows states p.from block p.to part p.edge in
    let reads : (p : Passes rows before block behind) → IsWalk (HasEdge cover.graph) (get_or states p.start 0) word (at p) =
    λ p. walk_reads cover q power rows states before p.start p.from part p.walk_before in
    let goes : (p : Passes rows before block behind) → IsWalk (HasEdge cover.graph) (at p) (symbols_of cover.alphabet q block) (get_or states p.to 0) =
    λ p. part_reads cover q power rows states p.from block p.to part p.edge in
    let here : at one ≡ at other =
    longer_together cover.graph n word (get_or states one.start 0) (at one) (get_or states other.start 0) (at other)
    together long (inside one) (inside other) (reads one) (reads other) in
    let there : get_or states one.to 0 ≡ get_or states other.to 0 =
    one_end cover (symbols_of cover.alphabet q block) (at one) (get_or states one.to 0) (get_or states other.to 0) part.symbols (goes one)
    (subst (λ s. IsWalk (HasEdge cover.graph) s (symbols_of cover.alphabet q block) (get_or states other.to 0)) (sym here) (goes other)) in (
      one_state power rows states part.among one.from other.from ends.0 others.0 here,
      one_state power rows states part.among one.to other.to ends.1 others.1 there,
    )
