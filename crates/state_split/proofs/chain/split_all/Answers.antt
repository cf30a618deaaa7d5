use Rattle.std.proofs.Common.{◌≡◌, ℕ, ◌*◌, ◌^◌, ◌%◌, List, Bool, length, ap, sym, ◌∙◌, subst, arith}
use Rattle.std.proofs.lemmas.List.{map-id}
use Rattle.std.proofs.lemmas.Nat.{one_shl, pow_pos}
use Rattle.label_graphs.specs.Kept.{IsKept, marked_states}
use Rattle.label_graphs.specs.Refinement.{parents_of}
use Rattle.split_spec.specs.Chain.{RoundsLead}
use Rattle.state_split.specs.Views.{rounds_data, weighted}
use Rattle.state_split.proofs.StageKept.{listed_inside, end_of_chain}
use Rattle.state_split.proofs.chain.split_all.Goals as goal

pub keep-requires : goal.keep-requires
keep-requires c =
    ap (λ (ms : List Bool). length ms) c.deref-2.ensures.value ∙ c.in_ok-marks.ensures.size ∙ c.in_ok-rounds.ensures.weights

pub parents_of_kept-requires-clause-inside : goal.parents_of_kept-requires-clause-inside
parents_of_kept-requires-clause-inside c =
    let stage = c.in_ok-rounds.stage in
    let marks = c.in_ok-marks.marks.items in
    let listed = c.deref-3.ensures.value ∙ sym (map-id c.in_ok-kept.kept.items) ∙ c.in_ok-kept.ensures ∙ ap marked_states c.deref.ensures.value in
    listed_inside marks (length stage.parents) c.deref-3.result.now
    (c.in_ok-marks.ensures.size ∙ c.in_ok-rounds.ensures.weights ∙ sym c.in_ok-rounds.ensures.parents) listed

pub returns-clause-chain : goal.returns-clause-chain
returns-clause-chain c =
    let sink = weighted c.args.sink.graph c.args.sink.weights in
    let rounds = rounds_data c.in_ok-rounds.rounds.items in
    let stage = c.in_ok-rounds.stage in
    let end = weighted stage.graph stage.weights in
    let marks = c.in_ok-marks.marks.items in
    let last = c.in_ok-last.last in
    let shifted : (1 * 2 ^ c.args.p) % 2 ^ 32 ≡ 2 ^ c.args.p = one_shl c.args.p 32 (omega (arith, c.requires.p_eight)) in
    end_of_chain (2 ^ c.args.p) sink end rounds stage.parents marks last
    (record {
      lead = subst (λ n. RoundsLead n sink rounds end stage.parents) shifted c.in_ok-rounds.ensures.rounds;
      done = c.in_ok-rounds.ensures.done;
      size = c.in_ok-marks.ensures.size;
      marked = c.in_ok-marks.ensures.marks;
      kept = subst (λ (ms : List Bool). IsKept stage.graph ms last) c.deref-2.ensures.value c.in_ok-last.ensures.kept;
      graph = c.in_ok-last.ensures.graph;
    })
    c.in_ok-kept.kept.items c.in_ok-parents.parents (sym (map-id c.in_ok-kept.kept.items) ∙ c.in_ok-kept.ensures ∙ ap marked_states c.deref.ensures.value)
    (c.in_ok-parents.ensures ∙ ap (λ (ss : List ℕ). parents_of stage.parents ss) c.deref-3.ensures.value)

pub returns-clause-few : goal.returns-clause-few
returns-clause-few c =
    let sink = weighted c.args.sink.graph c.args.sink.weights in
    let rounds = rounds_data c.in_ok-rounds.rounds.items in
    let stage = c.in_ok-rounds.stage in
    let end = weighted stage.graph stage.weights in
    let shifted : (1 * 2 ^ c.args.p) % 2 ^ 32 ≡ 2 ^ c.args.p = one_shl c.args.p 32 (omega (arith, c.requires.p_eight)) in
    let lead = subst (λ n. RoundsLead n sink rounds end stage.parents) shifted c.in_ok-rounds.ensures.rounds in
    let few = c.splits_are_few.ensures (2 ^ c.args.p) sink end rounds stage.parents (let some = pow_pos c.args.p in omega (arith, some)) c.requires.weighted lead in
    let light = c.requires.light in
    omega (arith, few, light)
