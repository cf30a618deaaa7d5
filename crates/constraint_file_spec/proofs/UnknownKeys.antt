-- The unknown key that is named is the least.
use Rattle.std.proofs.Common.{◌≡◌, ℕ, Bool, true, false, not, List, Option, Some, None, Result, Ok, Err, refl, sym, ap}
use Rattle.std.specs.Prelude.{find, option_map, ok_or, IfErr}
use Rattle.std.proofs.lemmas.Cmp.{nat_list_cmp_total}
use Rattle.toml.specs.Data.{Members}
use Rattle.constraint_file_spec.specs.declared.fault.ConstraintFault.{ConstraintFault}
use Rattle.constraint_file_spec.specs.declared.fault.ConstraintFault.TheVariants.{NotToml, UnknownKey}
use Rattle.constraint_file_spec.specs.Values.{keys_of}
use Rattle.constraint_file_spec.specs.Listed.{◌>>=◌, ListedParts, listed_parts}
use Rattle.constraint_file_spec.specs.Refusals.{is_key}
use Rattle.constraint_file_spec.specs.ConstraintFile.{◌>>◌, document_of, checked_parts, table_parts, file_parts, ReadsConstraint}
use Rattle.constraint_file_spec.specs.Laws.{IsBytesBefore, IsLeastUnknown}
use Rattle.constraint_file_spec.proofs.Ascending.{found_least, least_found}
use Rattle.constraint_file_spec.proofs.Refused.{IsLater, later_not_unknown, later_parts}
use Rattle.constraint_file_spec.proofs.KeysAscend.{keys_ascend}

not_before : (u : List ℕ) → IsBytesBefore u u → ⊥
not_before u h = absurd (let e = nat_list_cmp_total.antisymm u u in let f = rw h at e in cc)

before_on : (u v w : List ℕ) → IsBytesBefore u v → IsBytesBefore v w → IsBytesBefore u w
before_on u v w h k = nat_list_cmp_total.trans u v w h k

abbrev unknown : List ℕ → Bool
unknown name = not (is_key name)

is_not : (b : Bool) → not b ≡ true → b ≡ false
is_not true h = sym h
is_not false h = refl

abbrev found : Members → Option (List ℕ)
found table = find unknown (keys_of table)

-- where a key was found, it is what is refused
refuses_found : (o : Option (List ℕ)) (next : Result ListedParts ConstraintFault) (name : List ℕ) → IfErr next IsLater
    → (option_map (λ n. UnknownKey n) o >> next) ≡ Err (UnknownKey name) → o ≡ Some name
refuses_found None (Ok file) name later e = absurd cc
refuses_found None (Err fault) name later e = absurd (later_not_unknown fault name later (let same : fault ≡ UnknownKey name = cc in same))
refuses_found (Some n) next name later e = ap (λ (x : List ℕ). Some x) (let same : n ≡ name = cc in same)

named_least : (bytes name : List ℕ) (o : Option Members) → document_of bytes ≡ o → (ok_or o NotToml >>= table_parts) ≡ Err (UnknownKey name)
    → (table : Members) × (document_of bytes ≡ Some table) × IsLeastUnknown table name
named_least bytes name None is e = absurd cc
named_least bytes name (Some table) is e =
    let at : found table ≡ Some name = refuses_found (found table) (listed_parts table >>= checked_parts) name (later_parts table) e in
    let least = found_least IsBytesBefore not_before before_on unknown (keys_of table) name (keys_ascend bytes table is) at in (
      table,
      is,
      record {
        listed = least.0;
        unknown = is_not (is_key name) least.1;
        least = λ other there un. least.2 other there (ap not un);
      },
    )

pub unknown_least : (bytes name : List ℕ) → ReadsConstraint bytes (Err (UnknownKey name))
    → (table : Members) × (document_of bytes ≡ Some table) × IsLeastUnknown table name
unknown_least bytes name reads = named_least bytes name (document_of bytes) refl (reads (λ e. absurd cc))

pub least_unknown : (bytes name : List ℕ) (table : Members) → document_of bytes ≡ Some table → IsLeastUnknown table name
    → file_parts bytes ≡ Err (UnknownKey name)
least_unknown bytes name table is h =
    let at : found table ≡ Some name =
    least_found IsBytesBefore not_before before_on unknown (keys_of table) name (keys_ascend bytes table is) h.listed (ap not h.unknown)
    (λ other there un. h.least other there (is_not (is_key other) un)) in
    rw (is, at)
