-- What a code is seen as: its parts, with a list in place of each Vec.
use Rattle.std.specs.Prelude.{map}
use Rattle.code_model.specs.declared.code.Code.TheInside.{Inside}
use Rattle.code_spec.specs.Code.{CodeData, IsCode}

abbrev pub code_data : Inside → CodeData
code_data c = record {
  constraint = c.constraint;
  p = c.p;
  q = c.q;
  past = c.past;
  ahead = c.ahead;
  rows = map (λ rows. rows.items) c.rows.items;
}

abbrev pub KeepsTable : Inside → Type 0
KeepsTable c = IsCode (code_data c)
