use Rattle.std.proofs.Common.{ℕ, List, ◌∷◌, ◌++◌, [], map, ap, sym, ◌∙◌}
use Rattle.std.proofs.lemmas.List.{map-append}
use Rattle.label_graphs.specs.Graph.{EdgeData}
use Rattle.label_graphs.specs.Views.{edge_data}
use Rattle.sink_part.specs.inside.Links.{link_to}
use Rattle.sink_part.proofs.Passing.{links_more, links_same}
use Rattle.sink_part.proofs.linking.links_to.Goals.{then-mark+in_ok-push, else-mark}
use Rattle.sink_part.proofs.linking.links_to.Goals as goal

pub loop-to-preserved : goal.loop-to-preserved
loop-to-preserved c =
    let marks = c.args.marks.now in
    let n = c.loop-to.to in
    elim c.if-mark.branch [
      | then-mark+in_ok-push w ↦
          ap (λ v. map (edge_data (λ name. name)) v.items) w.row-is
          ∙ ap (map (edge_data (λ name. name))) w.in_ok-push.ensures.items
          ∙ map-append (edge_data (λ name. name)) c.loop-to.row.items (record { block = record { value = n }; to = w.at.result } ∷ [])
          ∙ ap (λ (k : ℕ). map (edge_data (λ name. name)) c.loop-to.row.items ++ record { block = n; to = k } ∷ []) w.at.ensures.again
          ∙ ap (λ (es : List EdgeData). es ++ link_to n ∷ []) c.loop-to.invariant ∙ sym (links_more marks n w.if-mark.true)
      | else-mark w ↦ ap (λ v. map (edge_data (λ name. name)) v.items) w.row-is ∙ c.loop-to.invariant ∙ sym (links_same marks n w.if-mark.false)
    ]
