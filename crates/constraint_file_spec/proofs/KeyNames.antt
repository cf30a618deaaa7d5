-- The keys of a file are told apart by their names, and all are listed.
use Rattle.std.proofs.Common.{◌≡◌, ℕ, List, refl, sym, arith, Contains, subst}
use Rattle.std.specs.Prelude.{◌==◌, if◌then◌else◌, slice_index}
use Rattle.constraint_file_spec.specs.declared.file.Key.{Key}
use Rattle.constraint_file_spec.specs.declared.file.Key.TheVariants.{Alphabet, D, K, Forbid, Edges}
use Rattle.constraint_file_spec.specs.Keys.{all_keys, key_name}

pub listed : (key : Key) → Contains all_keys key
listed Alphabet = (0, omega arith, refl)
listed D = (1, omega arith, refl)
listed K = (2, omega arith, refl)
listed Forbid = (3, omega arith, refl)
listed Edges = (4, omega arith, refl)

-- the key whose name begins with this byte
abbrev key_of : ℕ → Key
key_of byte =
    if byte == 97 then Alphabet else if byte == 100 then D else if byte == 107 then K else if byte == 102 then Forbid else Edges

again : (key : Key) → key_of (slice_index (key_name key) 0) ≡ key
again Alphabet = refl
again D = refl
again K = refl
again Forbid = refl
again Edges = refl

pub told : (key other : Key) → key_name key ≡ key_name other → key ≡ other
told key other same = subst (λ (k : Key). k ≡ other) (again key) (subst (λ (name : List ℕ). key_of (slice_index name 0) ≡ other) (sym same) (again other))
