use Rattle.std.proofs.Common.{List, ◌∙◌, ap, map}
use Rattle.std.specs.Global.{Vec}
use Rattle.code_spec.specs.declared.CodeRow.{CodeRow}
use Rattle.code_tables.proofs.TextLines.{parts_spell_code}
use Rattle.code_tables.proofs.text.code_text.Goals as goal

pub returns : goal.returns
returns c =
    let table = ap (λ (rows : List (Vec CodeRow)). map (λ (row : Vec CodeRow). row.items) rows) c.as_slice.ensures.value ∙ ap (λ d. d.rows) c.code.view_is in
    c.from_vec.ensures ∙ ap (λ v. v.items) c.into_bytes.ensures.value
    ∙ parts_spell_code c.args.code.now c.code.inside.constraint _ _ _ _ _ (ap (λ d. d.constraint) c.code.view_is) table c.in_ok-text.ensures.ok c.in_ok-write_constraint.ensures.lines c.in_ok-write_sizes.ensures c.in_ok-write_table.ensures
