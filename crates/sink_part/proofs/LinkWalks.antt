-- Walks along links and walks through states of positive weight.
use Rattle.std.proofs.Common.{◌≡◌, ℕ, ◌+◌, List, [], ◌∷◌, ◌++◌, length, length-append, Bool, inl, inr, refl, sym, ◌∙◌, subst, arith}
use Rattle.std.proofs.lemmas.Bool.{cases_lt}
use Rattle.std.proofs.lemmas.List.{get_or_append_left, get_or_push}
use Rattle.symbol_base.specs.Walk.{IsWalk}
use Rattle.label_graphs.specs.Graph.{EdgeData, HasEdge}
use Rattle.label_graphs.specs.Reach.{IsReached, MarkReached}
use Rattle.label_graphs.specs.Sink.{IsPositiveEdge, IsLedTo}
use Rattle.sink_part.specs.inside.Links.{AreLinks}
use Rattle.sink_part.specs.inside.Leads.{AreLeads, AreReachedRows}

-- a walk along links
walk_led : (rows : List (List EdgeData)) (weights : List ℕ) (links : List (List EdgeData)) → AreLinks rows weights links → (blocks : List ℕ) (from to : ℕ)
    → IsWalk (HasEdge links) from blocks to → IsLedTo rows weights from to
walk_led rows weights links known [] from to walk = ([], walk)
walk_led rows weights links known (block ∷ blocks) from to walk =
    let link = (known.edges from block walk.0).0 walk.1 in
    let rest = walk_led rows weights links known blocks walk.0 to walk.2 in
    (link.1.0 ∷ rest.0, (walk.0, link.1.1, rest.1))

-- a walk by edges
walk_reached : (rows : List (List EdgeData)) (weights : List ℕ) (links : List (List EdgeData)) → AreLinks rows weights links → (blocks : List ℕ) (from to : ℕ)
    → IsWalk (IsPositiveEdge rows weights) from blocks to → IsReached links from to
walk_reached rows weights links known [] from to walk = ([], walk)
walk_reached rows weights links known (block ∷ blocks) from to walk =
    let step = (known.edges from walk.0 walk.0).1 (refl, (block, walk.1)) in
    let rest = walk_reached rows weights links known blocks walk.0 to walk.2 in
    (walk.0 ∷ rest.0, (walk.0, step, rest.1))

-- one more row of what is reached
pub reached_more : (links : List (List EdgeData)) (table more : List (List Bool)) (n : ℕ) (marks : List Bool) → AreReachedRows links table n
    → MarkReached links n marks → more ≡ table ++ marks ∷ [] → AreReachedRows links more (n + 1)
reached_more links table more n marks known new joined =
    let size = known.size in
    subst (λ (t : List (List Bool)). AreReachedRows links t (n + 1)) (sym joined)
    (record {
      size = (let longer = length-append table (marks ∷ []) in omega (arith, longer, size));
      each = λ from inside. elim (cases_lt from n) [
        | inl low ↦ subst (λ (ms : List Bool). MarkReached links from ms) (sym (get_or_append_left table (marks ∷ []) [] from (omega (arith, low, size)))) (known.each from low)
        | inr high ↦ (
            let last : n ≡ from = omega (arith, high, inside) in
            subst (λ (ms : List Bool). MarkReached links from ms) (sym (get_or_push table marks [] from (size ∙ last)))
            (subst (λ k. MarkReached links k marks) last new))
      ];
    })

-- what is reached along links is what is led to
pub reached_leads : (rows : List (List EdgeData)) (weights : List ℕ) (links : List (List EdgeData)) (table : List (List Bool)) → AreLinks rows weights links
    → AreReachedRows links table (length links) → AreLeads rows weights table
reached_leads rows weights links table known reached =
    let size = known.size in
    record {
      graph = known.graph;
      size = reached.size ∙ size;
      each = λ from to from_in to_in.
          let row = reached.each from (omega (arith, from_in, size)) in
          let mark = row.reached to (omega (arith, to_in, size)) in (
            (λ marked. let way = mark.0 marked in walk_led rows weights links known way.0 from to way.1),
            (λ led. mark.1 (walk_reached rows weights links known led.0 from to led.1)),
          );
    }
