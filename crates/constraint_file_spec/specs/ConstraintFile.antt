-- A constraint file: the constraint that it lists, or the first of the refusals that holds.
use Rattle.std.specs.Prelude.{◌≡◌, ◌≢◌, ◌↔◌, ℕ, ◌-◌, nat_abs, pos, List, length, map, slice_index, Contains, Option, Some, None, option_map, unwrap_or, ok_or, Result, Ok, Err, bytes_eq, if◌then◌else◌}
use Rattle.std.specs.List.{position_or_len}
use Rattle.std.specs.Str.{is_utf8}
use Rattle.toml.specs.Data.{Members}
use Rattle.toml.specs.Parse.{parse_document}
use Rattle.symbol_base.specs.Ascending.{IsAscending}
use Rattle.symbol_base.specs.Word.{IsBefore}
use Rattle.constraint_spec.specs.declared.GraphEdge.{GraphEdge}
use Rattle.constraint_spec.specs.Constraint.{ConstraintData}
use Rattle.constraint_spec.specs.Ranges.{IsEdgeBefore}
use Rattle.constraint_file_spec.specs.declared.file.Key.TheVariants.{Alphabet, D, K}
use Rattle.constraint_file_spec.specs.declared.file.ListedEdge.{ListedEdge}
use Rattle.constraint_file_spec.specs.declared.fault.ConstraintFault.{ConstraintFault}
use Rattle.constraint_file_spec.specs.declared.fault.ConstraintFault.TheVariants.{NotToml, NoMemory}
use Rattle.constraint_file_spec.specs.Listed.{◌>>=◌, ListedParts, listed_parts}
use Rattle.constraint_file_spec.specs.Refusals.{unknown_key, out_of_range, d_above_k, too_many_words, too_many_edges, bad_word, bad_edge, state_names}

-- where the refusal doesn't hold, what stands behind it
infixl 10 ◌>>◌
abbrev pub ◌>>◌ : {A : Type 0} → Option ConstraintFault → Result A ConstraintFault → Result A ConstraintFault
None >> next = next
(Some fault) >> next = Err fault

-- the table that the bytes are in TOML: text in UTF-8, read by the grammar
abbrev pub document_of : List ℕ → Option Members
document_of bytes = if is_utf8 bytes then parse_document bytes else None

-- what the file lists, where its numbers are in range and its counts and digits in order; else the first refusal
abbrev pub checked_parts : ListedParts → Result ListedParts ConstraintFault
checked_parts file = do
  out_of_range Alphabet file.alphabet
  out_of_range D file.d
  out_of_range K file.k
  d_above_k file.d file.k
  too_many_words file.forbid
  too_many_edges file.edges
  bad_word file.forbid
  bad_edge file.edges
  Ok file

-- what a table lists, where each key is one of the five and all of that holds; else the first refusal
abbrev pub table_parts : Members → Result ListedParts ConstraintFault
table_parts table = do
  unknown_key table
  file ← listed_parts table
  checked_parts file

-- the same of the bytes
abbrev pub file_parts : List ℕ → Result ListedParts ConstraintFault
file_parts bytes = ok_or (document_of bytes) NotToml >>= table_parts

-- the symbols of digits
abbrev pub symbols : List ℕ → List ℕ
symbols text = map (λ digit. digit - 48) text

-- a state's number is the place of its name
abbrev pub numbered : List (List ℕ) → ListedEdge → GraphEdge
numbered names e = record {
  from = position_or_len (bytes_eq e.from) names;
  label = slice_index (symbols e.label) 0;
  to = position_or_len (bytes_eq e.to) names;
}

-- the list ascends, so without repeats, and has exactly what is listed
pub record IsAscendingOf {A : Type 0} (Before : A → A → Type 0) (listed ascending : List A) : Type 0 where
  pub order : IsAscending Before ascending
  pub items : (x : A) → Contains ascending x ↔ Contains listed x

-- the constraint that the file lists
pub record ListsConstraint (file : ListedParts) (c : ConstraintData) : Type 0 where
  pub alphabet : c.alphabet ≡ 2
  pub d : c.d ≡ nat_abs (unwrap_or file.d (pos 0))
  pub k : c.k ≡ option_map nat_abs file.k
  pub forbid : IsAscendingOf IsBefore (map symbols file.forbid) c.forbid
  pub states : c.states ≡ length (state_names file.edges)
  pub edges : IsAscendingOf IsEdgeBefore (map (numbered (state_names file.edges)) file.edges) c.edges

-- What reading a constraint file answers: the constraint that it lists, or the first refusal that holds. Want of
-- memory says nothing of the file.
abbrev pub ReadsConstraint : List ℕ → Result ConstraintData ConstraintFault → Type 0
ReadsConstraint bytes (Ok c) = (file : ListedParts) × (file_parts bytes ≡ Ok file) × ListsConstraint file c
ReadsConstraint bytes (Err fault) = fault ≢ NoMemory → file_parts bytes ≡ Err fault
