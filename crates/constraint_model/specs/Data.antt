-- What a constraint is seen as: its parts, with a list in place of each Vec.
use Rattle.constraint_model.specs.declared.constraint.Constraint.TheInside.{Inside}
use Rattle.constraint_spec.specs.Constraint.{ConstraintData}
use Rattle.constraint_spec.specs.Ranges.{IsConstraint}

abbrev pub constraint_data : Inside → ConstraintData
constraint_data c = record {
  alphabet = c.alphabet;
  d = c.d;
  k = c.k;
  forbid = c.forbid.items;
  states = c.states;
  edges = c.edges.items;
}

abbrev pub KeepsRanges : Inside → Type 0
KeepsRanges c = IsConstraint (constraint_data c)
