use Rattle.std.proofs.Common.{ℕ, refl, subst, sym, ◌<◌, length, ◌^◌}
use Rattle.code_spec.specs.Code.{CodeData}
use Rattle.code_model.specs.Data.{code_data}
use Rattle.code_model.proofs.Rows.{rows_of_state}
use Rattle.code_model.proofs.code.Code.row.Goals as goal

pub index-requires-3 : goal.index-requires-3
index-requires-3 c =
    let inside = subst (λ (d : CodeData). c.args.state < length d.rows) (sym c.self.view_is) c.requires.state in
    let place = subst (λ (n : ℕ). n < length (code_data c.self.inside).rows) (sym c.index.ensures.value) inside in
    let below = subst (λ (d : CodeData). c.args.word < 2 ^ d.p) (sym c.self.view_is) c.requires.word in
    rows_of_state (code_data c.self.inside) c.self.inside.rows.items c.index.result c.args.word c.index-2.result.now refl c.self.invariant place c.index-2.ensures below
