-- A file has exactly one outcome.
use Rattle.std.proofs.Common.{◌≡◌, ◌≢◌, ℕ, List, map, length, Option, Some, None, Result, Ok, Err, refl, sym, ap, ◌∙◌, subst, pos}
use Rattle.std.specs.Prelude.{nat_abs, unwrap_or, option_map, ok_or, IfErr}
use Rattle.symbol_base.specs.Word.{IsBefore}
use Rattle.symbol_base.proofs.WordOrder.{not_before_itself, before_on, before_or_same}
use Rattle.toml.specs.Data.{Members}
use Rattle.constraint_spec.specs.Constraint.{ConstraintData}
use Rattle.constraint_spec.specs.Ranges.{IsEdgeBefore}
use Rattle.constraint_spec.proofs.EdgeOrder.{edge_not_before_itself, edges_before, edge_before_or_same}
use Rattle.constraint_file_spec.specs.declared.fault.ConstraintFault.{ConstraintFault}
use Rattle.constraint_file_spec.specs.declared.fault.ConstraintFault.TheVariants.{NotToml, UnknownKey, NoMemory}
use Rattle.constraint_file_spec.specs.Listed.{◌>>=◌, ListedParts, listed_parts}
use Rattle.constraint_file_spec.specs.Refusals.{unknown_key, state_names}
use Rattle.constraint_file_spec.specs.ConstraintFile.{◌>>◌, document_of, checked_parts, table_parts, file_parts, symbols, numbered, ListsConstraint, ReadsConstraint}
use Rattle.constraint_file_spec.proofs.Ascending.{listed_once, some_ascending}
use Rattle.constraint_file_spec.proofs.Refused.{IsLater, later_not_memory, later_parts}

-- ---- a file lists one constraint

lists_once : (file : ListedParts) (c e : ConstraintData) → ListsConstraint file c → ListsConstraint file e → c ≡ e
lists_once file c e a b =
    let forbid = listed_once IsBefore not_before_itself before_on _ c.forbid e.forbid a.forbid b.forbid in
    let edges = listed_once IsEdgeBefore edge_not_before_itself edges_before _ c.edges e.edges a.edges b.edges in
    λ i. record {
      alphabet = (a.alphabet ∙ sym b.alphabet) i;
      d = (a.d ∙ sym b.d) i;
      k = (a.k ∙ sym b.k) i;
      forbid = forbid i;
      states = (a.states ∙ sym b.states) i;
      edges = edges i;
    }

lists_some : (file : ListedParts) → (c : ConstraintData) × ListsConstraint file c
lists_some file =
    let words = some_ascending IsBefore before_or_same (map symbols file.forbid) in
    let edges = some_ascending IsEdgeBefore edge_before_or_same (map (numbered (state_names file.edges)) file.edges) in (
      record {
        alphabet = 2;
        d = nat_abs (unwrap_or file.d (pos 0));
        k = option_map nat_abs file.k;
        forbid = words.0;
        states = length (state_names file.edges);
        edges = edges.0;
      },
      record { alphabet = refl; d = refl; k = refl; forbid = words.1; states = refl; edges = edges.1 },
    )

-- ---- no step wants memory

refused_not_memory : (o : Option ConstraintFault) (next : Result ListedParts ConstraintFault) → ((fault : ConstraintFault) → o ≡ Some fault → fault ≢ NoMemory)
    → IfErr next IsLater → IfErr (o >> next) (λ fault. fault ≢ NoMemory)
refused_not_memory None (Ok file) first later = tt
refused_not_memory None (Err fault) first later = later_not_memory fault later
refused_not_memory (Some fault) next first later = first fault refl

unknown_not_memory : (o : Option (List ℕ)) (fault : ConstraintFault) → option_map (λ name. UnknownKey name) o ≡ Some fault → fault ≢ NoMemory
unknown_not_memory None fault e = absurd cc
unknown_not_memory (Some name) fault e = λ none. absurd cc

document_not_memory : (o : Option Members) → IfErr (ok_or o NotToml >>= table_parts) (λ fault. fault ≢ NoMemory)
document_not_memory None = λ e. absurd cc
document_not_memory (Some table) = refused_not_memory (unknown_key table) (listed_parts table >>= checked_parts) (unknown_not_memory _) (later_parts table)

-- ---- the outcome

pub some_outcome : (bytes : List ℕ) → (result : Result ConstraintData ConstraintFault) × (result ≢ Err NoMemory) × ReadsConstraint bytes result
some_outcome bytes = by (file_parts bytes) refl (document_not_memory (document_of bytes))
  where
    by : (r : Result ListedParts ConstraintFault) → file_parts bytes ≡ r → IfErr r (λ fault. fault ≢ NoMemory)
        → (result : Result ConstraintData ConstraintFault) × (result ≢ Err NoMemory) × ReadsConstraint bytes result
    by (Ok file) is h = let lists = lists_some file in (Ok lists.0, λ e. absurd cc, (file, is, lists.1))
    by (Err fault) is h = (Err fault, λ e. h (let same : fault ≡ NoMemory = cc in same), λ other. is)

abbrev refused : ConstraintFault → Result ListedParts ConstraintFault
refused fault = Err fault

pub one_outcome : (bytes : List ℕ) (result other : Result ConstraintData ConstraintFault) → result ≢ Err NoMemory → other ≢ Err NoMemory
    → ReadsConstraint bytes result → ReadsConstraint bytes other → result ≡ other
one_outcome bytes (Ok c) (Ok e) h k a b =
    let same : a.0 ≡ b.0 = (let p = sym a.1 ∙ b.1 in cc) in
    ap (λ (x : ConstraintData). Ok x) (lists_once b.0 c e (subst (λ (f : ListedParts). ListsConstraint f c) same a.2) b.2)
one_outcome bytes (Ok c) (Err fault) h k a b = absurd (let p = sym a.1 ∙ b (λ e. k (ap Err e)) in cc)
one_outcome bytes (Err fault) (Ok e) h k a b = absurd (let p = sym b.1 ∙ a (λ e. h (ap Err e)) in cc)
one_outcome bytes (Err fault) (Err other) h k a b =
    let p : refused fault ≡ refused other = sym (a (λ e. h (ap Err e))) ∙ b (λ e. k (ap Err e)) in
    ap Err (let q : fault ≡ other = cc in q)
