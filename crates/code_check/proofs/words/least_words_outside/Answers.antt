use Rattle.std.proofs.Common.{◌≡◌, ℕ, ◌+◌, length, Option, IfSome, IfNone, Vec, Global, sym, subst, ap, ◌∙◌, arith}
use Rattle.std.proofs.lemmas.Nat.{mul-lt}
use Rattle.label_graphs.specs.Cover.{CoverData}
use Rattle.code_spec.specs.Code.{CodeData, IsCode}
use Rattle.code_spec.specs.Witness.{IsLeastOutside}
use Rattle.least_walks.specs.LeastWalk.{IsLeastWalk}
use Rattle.code_check.specs.inside.ReadGraph.{AreOutside}
use Rattle.code_check.specs.inside.Reads.{ReadData, graph_of}
use Rattle.code_check.proofs.WordsOutside.{NoneToGoal, least_told, none_told}
use Rattle.code_check.proofs.words.least_words_outside.Goals as goal

pub least_walk-requires-clause-start : goal.least_walk-requires-clause-start
least_walk-requires-clause-start c =
    let code : IsCode c.in_ok-reads.reads.code = c.outside.ensures.table in
    mul-lt 0 0 (length c.in_ok-reads.reads.cover + 1) (length c.in_ok-reads.reads.code.rows) (omega arith) (omega (arith, code.states.0))

pub returns-in-Some-clause-least : goal.returns-in-Some-clause-least
returns-in-Some-clause-least c =
    let code : CodeData = c.args.code.now in
    let reads : ReadData = c.in_ok-reads.reads in
    let code_is : reads.code ≡ code = c.in_ok-reads.ensures.code in
    let cover_is : reads.cover ≡ c.args.cover.now.graph = c.in_ok-reads.ensures.cover ∙ ap (λ (d : CoverData). d.graph) c.cover.view_is in
    let least : IsLeastWalk (graph_of reads) c.deref.result.now 0 c.in-Some.words.items =
    subst (λ (o : Option (Vec ℕ Global)). IfSome o (λ labels. IsLeastWalk (graph_of reads) c.deref.result.now 0 labels.items)) c.in-Some.is c.in_ok-words.ensures.least in
    let outside : AreOutside reads.code (length reads.cover) c.deref.result.now =
    subst (AreOutside reads.code (length reads.cover)) (sym c.deref.ensures.value) c.in_ok-outside.ensures.goals in
    subst (IsLeastOutside code) (sym (c.in_ok-copy-in-Some.ensures ∙ c.deref-in-Some.ensures.value))
    (least_told code c.args.cover.now.graph reads c.deref.result.now c.in-Some.words.items (subst IsCode code_is c.outside.ensures.table)
    c.requires.cover code_is cover_is outside least)

pub returns-clause-none : goal.returns-clause-none
returns-clause-none c =
    let code : CodeData = c.args.code.now in
    let reads : ReadData = c.in_ok-reads.reads in
    let code_is : reads.code ≡ code = c.in_ok-reads.ensures.code in
    let cover_is : reads.cover ≡ c.args.cover.now.graph = c.in_ok-reads.ensures.cover ∙ ap (λ (d : CoverData). d.graph) c.cover.view_is in
    let outside : AreOutside reads.code (length reads.cover) c.deref.result.now =
    subst (AreOutside reads.code (length reads.cover)) (sym c.deref.ensures.value) c.in_ok-outside.ensures.goals in
    let none : NoneToGoal (graph_of reads) c.deref.result.now =
    subst (λ (o : Option (Vec ℕ Global)). IfNone o (NoneToGoal (graph_of reads) c.deref.result.now)) c.in-None.is c.in_ok-words.ensures.none in
    none_told code c.args.cover.now.graph reads c.deref.result.now (subst IsCode code_is c.outside.ensures.table) c.requires.cover code_is
    cover_is outside none
