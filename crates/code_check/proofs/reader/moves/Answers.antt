use Rattle.std.proofs.Common.{◌++◌, ◌∷◌, [], List, ℕ, take, get_or, ap, sym, ◌∙◌}
use Rattle.std.proofs.lemmas.List.{take_more}
use Rattle.code_check.specs.inside.CoverMoves.{move_on, moves_of}
use Rattle.code_check.proofs.MoveTables.{moves_push}
use Rattle.code_check.proofs.reader.moves.Goals as goal

pub loop-state-preserved : goal.loop-state-preserved
loop-state-preserved c =
    let rows = c.args.graph.now in
    let i : ℕ = c.loop-state.state-index in
    let state : ℕ = get_or c.args.states.now i 0 in
    let front : List ℕ = take i c.args.states.now in
    c.in_ok-push-2.ensures.items
    ∙ ap (λ (xs : List ℕ). xs ++ c.next-in-loop-state.result ∷ []) c.in_ok-push.ensures.items
    ∙ ap (λ (xs : List ℕ). (xs ++ c.next.result ∷ []) ++ c.next-in-loop-state.result ∷ []) c.loop-state.invariant
    ∙ ap (λ x. (moves_of rows front ++ x ∷ []) ++ c.next-in-loop-state.result ∷ []) c.next.ensures.moved
    ∙ ap (λ x. (moves_of rows front ++ move_on rows state 0 ∷ []) ++ x ∷ []) c.next-in-loop-state.ensures.moved
    ∙ sym (moves_push rows front state)
    ∙ ap (moves_of rows) (sym (take_more c.args.states.now i 0 c.loop-state-test.true))
