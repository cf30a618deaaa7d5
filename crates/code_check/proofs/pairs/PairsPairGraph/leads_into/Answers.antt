use Rattle.std.proofs.Common.{◌≡◌, ◌↔◌, ◌/◌, ◌%◌, ◌*◌, ◌^◌, ◌<◌, ℕ, Bool, List, length, get_or, Vec, Global, IsTrue, ap, sym, ◌∙◌, subst}
use Rattle.least_walks.specs.declared.pair_graph.Arcs.{Arcs}
use Rattle.least_walks.specs.PairGraph.{LeadsInto}
use Rattle.code_spec.specs.Code.{CodeData}
use Rattle.code_check.specs.declared.by_block.BlockWord.{BlockWord}
use Rattle.code_check.specs.inside.ByBlock.{AreByBlock, HasByBlock, no_word}
use Rattle.code_check.specs.inside.PairGraph.{pair_graph}
use Rattle.code_check.proofs.ByBlockLaws.{list_at, blocks_rise}
use Rattle.code_check.proofs.PairLaws.{node_states}
use Rattle.code_check.proofs.MeetLaws.{MeetIn, list_inside, leads_of_meeting, meeting_of_leads}
use Rattle.code_check.proofs.pairs.PairsPairGraph.leads_into.Goals as goal

-- the list of a state, as the program reads it
list_of :
    (c : CodeData) (lists : List (Vec BlockWord Global)) (state place : ℕ) (list : Vec BlockWord Global) (items : List BlockWord)
    → HasByBlock c (length c.rows) lists → state < length c.rows → place ≡ state → list ≡ get_or lists place list → items ≡ list.items
    → AreByBlock c state (2 ^ c.p) items
list_of c lists state place list items has inside place_is is items_are =
    subst (AreByBlock c state (2 ^ c.p)) (sym items_are)
    (list_at c lists state list has inside (is ∙ ap (λ n. get_or lists n list) place_is))

-- what the lists of both states of a node are known to be
record AreLists (c d : CodeData) (states node : ℕ) (first second : List BlockWord) : Type 0 where
  same : c ≡ d
  count : states ≡ length c.rows
  inside : node < length c.rows * length c.rows
  one : AreByBlock c (node / length c.rows) (2 ^ c.p) first
  other : AreByBlock c (node % length c.rows) (2 ^ c.p) second

lists_of :
    (c d : CodeData) (lists : List (Vec BlockWord Global)) (states node : ℕ) (first second : Vec BlockWord Global) (a b : List BlockWord)
    → c ≡ d → HasByBlock c (length c.rows) lists → states ≡ length c.rows → node < length d.rows * length d.rows
    → first ≡ get_or lists (node / states) first → second ≡ get_or lists (node % states) second → a ≡ first.items → b ≡ second.items
    → AreLists c d states node a b
lists_of c d lists states node first second a b same has count below first_is second_is a_is b_is =
    let inside : node < length c.rows * length c.rows = subst (λ (d : CodeData). node < length d.rows * length d.rows) (sym same) below in
    let at = node_states c node inside in
    record {
      same = same;
      count = count;
      inside = inside;
      one = list_of c lists (node / length c.rows) (node / states) first a has at.0 (ap (λ n. node / n) count) first_is a_is;
      other = list_of c lists (node % length c.rows) (node % states) second b has at.1 (ap (λ n. node % n) count) second_is b_is;
    }

pub meet_in-requires-clause-first : goal.meet_in-requires-clause-first
meet_in-requires-clause-first c =
    let code : CodeData = c.self.inside.code.now in
    let lists =
    lists_of code c.args.self.now c.self.inside.by_block.items c.state_count-states.result c.args.node c.index-first.result.now
    c.index-second.result.now c.deref.result.now c.deref-2.result.now c.self.view_is c.self.invariant c.state_count-states.ensures.count
    c.requires.node c.index-first.ensures c.index-second.ensures c.deref.ensures.value c.deref-2.ensures.value in
    blocks_rise code (c.args.node / length code.rows) (2 ^ code.p) c.deref.result.now lists.one

pub meet_in-requires-clause-second : goal.meet_in-requires-clause-second
meet_in-requires-clause-second c =
    let code : CodeData = c.self.inside.code.now in
    let lists =
    lists_of code c.args.self.now c.self.inside.by_block.items c.state_count-states.result c.args.node c.index-first.result.now
    c.index-second.result.now c.deref.result.now c.deref-2.result.now c.self.view_is c.self.invariant c.state_count-states.ensures.count
    c.requires.node c.index-first.ensures c.index-second.ensures c.deref.ensures.value c.deref-2.ensures.value in
    blocks_rise code (c.args.node % length code.rows) (2 ^ code.p) c.deref-2.result.now lists.other

pub meet_in-requires-clause-first_inside : goal.meet_in-requires-clause-first_inside
meet_in-requires-clause-first_inside c =
    let code : CodeData = c.self.inside.code.now in
    let lists =
    lists_of code c.args.self.now c.self.inside.by_block.items c.state_count-states.result c.args.node c.index-first.result.now
    c.index-second.result.now c.deref.result.now c.deref-2.result.now c.self.view_is c.self.invariant c.state_count-states.ensures.count
    c.requires.node c.index-first.ensures c.index-second.ensures c.deref.ensures.value c.deref-2.ensures.value in
    λ i below.
    subst (λ n. (get_or c.deref.result.now i no_word).to < n) (sym lists.count)
    (list_inside code (c.args.node / length code.rows) c.deref.result.now c.state_count-states.ensures.table
    (node_states code c.args.node lists.inside).0 lists.one i below)

pub meet_in-requires-clause-second_inside : goal.meet_in-requires-clause-second_inside
meet_in-requires-clause-second_inside c =
    let code : CodeData = c.self.inside.code.now in
    let lists =
    lists_of code c.args.self.now c.self.inside.by_block.items c.state_count-states.result c.args.node c.index-first.result.now
    c.index-second.result.now c.deref.result.now c.deref-2.result.now c.self.view_is c.self.invariant c.state_count-states.ensures.count
    c.requires.node c.index-first.ensures c.index-second.ensures c.deref.ensures.value c.deref-2.ensures.value in
    λ k below.
    subst (λ n. (get_or c.deref-2.result.now k no_word).to < n) (sym lists.count)
    (list_inside code (c.args.node % length code.rows) c.deref-2.result.now c.state_count-states.ensures.table
    (node_states code c.args.node lists.inside).1 lists.other k below)

-- words that meet in the lists are an arc of the node
leads_as_told :
    (c d : CodeData) (node states : ℕ) (arcs : Arcs) (pairs : List ℕ) (first second : List BlockWord) (told : Bool)
    → AreLists c d states node first second → IsTrue told ↔ MeetIn arcs states pairs first second
    → IsTrue told ↔ LeadsInto (pair_graph d) (2 ^ d.p) arcs node pairs
leads_as_told c d node states arcs pairs first second told lists tells =
    subst (λ (d : CodeData). IsTrue told ↔ LeadsInto (pair_graph d) (2 ^ d.p) arcs node pairs) lists.same (
      (λ yes.
          leads_of_meeting c node arcs pairs first second lists.inside lists.one lists.other
          (subst (λ n. MeetIn arcs n pairs first second) lists.count (tells.0 yes))),
      (λ leads.
          tells.1
          (subst (λ n. MeetIn arcs n pairs first second) (sym lists.count)
          (meeting_of_leads c node arcs pairs first second lists.inside lists.one lists.other leads))),
    )

pub returns : goal.returns
returns c =
    let lists =
    lists_of c.self.inside.code.now c.args.self.now c.self.inside.by_block.items c.state_count-states.result c.args.node c.index-first.result.now
    c.index-second.result.now c.deref.result.now c.deref-2.result.now c.self.view_is c.self.invariant c.state_count-states.ensures.count
    c.requires.node c.index-first.ensures c.index-second.ensures c.deref.ensures.value c.deref-2.ensures.value in
    record {
      leads =
          leads_as_told c.self.inside.code.now c.args.self.now c.args.node c.state_count-states.result c.args.arcs c.args.set.now
          c.deref.result.now c.deref-2.result.now c.meet_in.result lists c.meet_in.ensures.tells;
    }
