use Rattle.std.proofs.Common.{◌≡◌, ◌++◌, drop}
use Rattle.std.specs.Prelude.{option_map}
use Rattle.toml.specs.View.{items_view}
use Rattle.constraint_file_spec.specs.Values.{texts_of}
use Rattle.constraint_files.proofs.values.texts_of.Given as goal

-- the texts so far and those that are left are all texts
abbrev pub invariant-loop-value : goal.invariant-loop-value
invariant-loop-value l =
    option_map (λ rest. l.texts.items ++ rest) (texts_of (items_view (drop l.value-index l.values))) ≡ texts_of (items_view l.values)
