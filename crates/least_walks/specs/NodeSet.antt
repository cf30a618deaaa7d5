-- Sets of nodes, as the bits of them.
use Rattle.std.specs.Prelude.{◌≡◌, ℕ, List, slice_index}

-- the node is in the set
abbrev pub IsIn : List ℕ → ℕ → Type 0
IsIn set node = slice_index set node ≡ 1
