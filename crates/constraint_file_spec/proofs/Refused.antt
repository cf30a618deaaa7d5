-- What the steps behind the keys refuse: neither want of memory, nor text, nor an unknown key.
use Rattle.std.proofs.Common.{◌≢◌, ℕ, ℤ, pos, Bool, true, false, not, List, [], length, Option, Some, None, Result, Ok, Err, subst, position}
use Rattle.std.specs.Prelude.{◌&&◌, ◌||◌, int_le, int_lt, nat_lt, option_map, option_and_then, unwrap_or, if◌then◌else◌, IfErr, IfSome}
use Rattle.toml.specs.Data.{Members, get_member, as_integer, as_array}
use Rattle.constraint_file_spec.specs.declared.file.Key.{Key}
use Rattle.constraint_file_spec.specs.declared.file.Key.TheVariants.{Alphabet, D, K, Forbid, Edges}
use Rattle.constraint_file_spec.specs.declared.fault.ConstraintFault.{ConstraintFault}
use Rattle.constraint_file_spec.specs.declared.fault.ConstraintFault.TheVariants.{NotToml, UnknownKey, OutOfRange, DAboveK, TooMany, BadWord, BadEdge, NoMemory}
use Rattle.constraint_file_spec.specs.Keys.{least, most, most_names, key_name}
use Rattle.constraint_file_spec.specs.Values.{texts_of, edges_of}
use Rattle.constraint_file_spec.specs.Listed.{◌>>=◌, ListedParts, or_absent, number_at, words_at, edges_at, listed_parts}
use Rattle.constraint_file_spec.specs.Refusals.{out_of_range, d_above_k, too_many_words, too_many_edges, bad_word, bad_edge, is_word, is_label, state_names}
use Rattle.constraint_file_spec.specs.ConstraintFile.{◌>>◌, checked_parts}

abbrev pub IsLater : ConstraintFault → Type 0
IsLater NotToml = ⊥
IsLater (UnknownKey name) = ⊥
IsLater NoMemory = ⊥
IsLater fault = Unit {0}

pub later_not_memory : (fault : ConstraintFault) → IsLater fault → fault ≢ NoMemory
later_not_memory fault later e = subst IsLater e later

pub later_not_unknown : (fault : ConstraintFault) (name : List ℕ) → IsLater fault → fault ≢ UnknownKey name
later_not_unknown fault name later e = subst IsLater e later

later_bind : {A B : Type 0} (r : Result A ConstraintFault) (f : A → Result B ConstraintFault) → IfErr r IsLater → ((x : A) → IfErr (f x) IsLater) → IfErr (r >>= f) IsLater
later_bind (Ok x) f h more = more x
later_bind (Err fault) f h more = h

later_behind : {A : Type 0} (o : Option ConstraintFault) (next : Result A ConstraintFault) → IfSome o IsLater → IfErr next IsLater → IfErr (o >> next) IsLater
later_behind None next h more = more
later_behind (Some fault) next h more = h

later_part : {A : Type 0} (key : Key) (absent : A) (o : Option (Option A)) → IfErr (or_absent key absent o) IsLater
later_part key absent None = tt
later_part key absent (Some None) = tt
later_part key absent (Some (Some x)) = tt

later_number : (key : Key) (table : Members) → IfErr (number_at key table) IsLater
later_number key table = later_part key None (option_map (λ value. option_map (λ z. Some z) (as_integer value)) (get_member (key_name key) table))

pub later_listed : (table : Members) → IfErr (listed_parts table) IsLater
later_listed table =
    later_bind (number_at Alphabet table) _ (later_number Alphabet table) (λ alphabet.
    later_bind (number_at D table) _ (later_number D table) (λ d.
    later_bind (number_at K table) _ (later_number K table) (λ k.
    later_bind (words_at table) _ (later_part Forbid [] (option_map (λ value. option_and_then texts_of (as_array value)) (get_member (key_name Forbid) table))) (λ forbid.
    later_bind (edges_at table) _ (later_part Edges [] (option_map (λ value. option_and_then edges_of (as_array value)) (get_member (key_name Edges) table))) (λ edges. tt)))))

later_if : (b : Bool) (fault : ConstraintFault) → IsLater fault → IfSome (if b then Some fault else None) IsLater
later_if true fault later = later
later_if false fault later = tt

later_range : (key : Key) (o : Option ℤ) → IfSome (out_of_range key o) IsLater
later_range key None = tt
later_range key (Some z) = by (int_le (pos (least key)) z && int_le z (pos (most key)))
  where
    by : (b : Bool) → IfSome (if b then None else Some (OutOfRange key)) IsLater
    by true = tt
    by false = tt

later_runs : (d k : Option ℤ) → IfSome (d_above_k d k) IsLater
later_runs d None = tt
later_runs d (Some k) = later_if (int_lt k (unwrap_or d (pos 0))) DAboveK tt

later_place : (f : ℕ → ConstraintFault) (o : Option ℕ) → ((at : ℕ) → IsLater (f at)) → IfSome (option_map f o) IsLater
later_place f None later = tt
later_place f (Some at) later = later at

pub later_checked : (file : ListedParts) → IfErr (checked_parts file) IsLater
later_checked file =
    later_behind (out_of_range Alphabet file.alphabet) _ (later_range Alphabet file.alphabet)
    (later_behind (out_of_range D file.d) _ (later_range D file.d)
    (later_behind (out_of_range K file.k) _ (later_range K file.k)
    (later_behind (d_above_k file.d file.k) _ (later_runs file.d file.k)
    (later_behind (too_many_words file.forbid) _ (later_if (nat_lt (most Forbid) (length file.forbid)) (TooMany Forbid) tt)
    (later_behind (too_many_edges file.edges) _ (later_if (nat_lt (most Edges) (length file.edges) || nat_lt most_names (length (state_names file.edges))) (TooMany Edges) tt)
    (later_behind (bad_word file.forbid) _ (later_place (λ at. BadWord at) (position (λ text. not (is_word text)) file.forbid) (λ at. tt))
    (later_behind (bad_edge file.edges) (Ok file) (later_place (λ at. BadEdge at) (position (λ e. not (is_label e.label)) file.edges) (λ at. tt)) tt)))))))

-- what stands behind the keys
pub later_parts : (table : Members) → IfErr (listed_parts table >>= checked_parts) IsLater
later_parts table = later_bind (listed_parts table) checked_parts (later_listed table) later_checked
