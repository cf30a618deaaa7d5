-- How the nodes of a list point to one another.
use Rattle.std.specs.Prelude.{◌≡◌, ℕ, List, [], ◌∷◌, slice_index_or}
use denote.RawPtr.{Ptr, null_ptr}

-- where a node lies, and where its `next` leads
abbrev pub Link : Type 0
Link = Ptr × Ptr

-- where the i-th node lies
unfoldable pub place_of : List Link → ℕ → Ptr
place_of ls i = (slice_index_or ls i (null_ptr, null_ptr)).0

-- h leads to the first node, and each `next` but the last to the node after
abbrev pub LeadsForward : Ptr → List Link → Type 0
LeadsForward h [] = Unit {0}
LeadsForward h (l ∷ ls) = (h ≡ l.0) × LeadsForward l.1 ls

-- the nodes come after one at a, and t leads to the last
abbrev pub EndsFrom : Ptr → List Link → Ptr → Type 0
EndsFrom a [] t = t ≡ a
EndsFrom a (l ∷ ls) t = EndsFrom l.0 ls t

-- t leads to the last node, where there is one
abbrev pub EndsAt : List Link → Ptr → Type 0
EndsAt [] t = Unit {0}
EndsAt (l ∷ ls) t = EndsFrom l.0 ls t

-- the nodes are linked from head on, and tail leads to the last
abbrev pub IsChained : Ptr → Ptr → List Link → Type 0
IsChained head tail ls = LeadsForward head ls × EndsAt ls tail
