-- What was checked of a file makes its constraint keep the ranges and orders of constraints.
use Rattle.std.proofs.Common.{◌≡◌, ℕ, ℤ, pos, negsuc, ◌-◌, ◌<◌, ◌≤◌, Bool, true, false, not, leb, ltb, List, [], ◌∷◌, length, map, Option, Some, None, Ok, Err, Result, inl, inr, refl, sym, ap, ◌∙◌, subst, arith, Contains, All, unwrap_or, position}
use Rattle.std.specs.Prelude.{ok_or, nat_abs, int_le, int_lt, nat_lt, option_map, slice_index, IfSome, ◌&&◌, ◌||◌, ◌==◌, ◌≤ℤ◌, if◌then◌else◌}
use Rattle.std.specs.Int.Signed.{le_z_yes}
use Rattle.std.specs.List.{list_all, position_or_len}
use Rattle.std.proofs.lemmas.Bool.{and_parts, leb-true, ltb-true, ltb-false, lt-ltb, cases_lt}
use Rattle.std.proofs.lemmas.Float.{T_from_true}
use Rattle.std.proofs.lemmas.List.{length-map}
use Rattle.std.proofs.lemmas.List.Sums.{AllPass-from_list_all}
use Rattle.std.proofs.lemmas.List.Elements.{All-map, All-weaker, All-contains_itself}
use Rattle.text_reading.specs.Reading.{is_symbol_digit}
use Rattle.symbol_base.specs.Word.{IsBefore}
use Rattle.constraint_spec.specs.declared.GraphEdge.{GraphEdge}
use Rattle.constraint_spec.specs.Constraint.{ConstraintData}
use Rattle.constraint_spec.specs.Ranges.{IsConstraint, IsForbiddable, IsEdgeBefore, IsEdgeOf}
use Rattle.constraint_file_spec.specs.declared.file.Key.TheVariants.{Alphabet, D, K, Forbid, Edges}
use Rattle.constraint_file_spec.specs.declared.file.ListedEdge.{ListedEdge}
use Rattle.constraint_file_spec.specs.declared.fault.ConstraintFault.{ConstraintFault}
use Rattle.constraint_file_spec.specs.declared.fault.ConstraintFault.TheVariants.{NotToml, OutOfRange, DAboveK, TooMany, BadWord, BadEdge}
use Rattle.constraint_file_spec.specs.Listed.{◌>>=◌, ListedParts, listed_parts}
use Rattle.constraint_file_spec.specs.Refusals.{unknown_key, out_of_range, d_above_k, too_many_words, too_many_edges, bad_word, bad_edge, state_names, is_word, is_label}
use Rattle.constraint_file_spec.specs.ConstraintFile.{document_of, table_parts, file_parts, checked_parts, ◌>>◌, symbols, numbered, ListsConstraint}
use Rattle.constraint_file_spec.proofs.Ascending.{contains_first, contains_rest, first_or_rest, ascending_fits}
use Rattle.symbol_base.proofs.WordOrder.{not_before_itself, before_on}
use Rattle.constraint_spec.proofs.EdgeOrder.{edge_not_before_itself, edges_before}
use Rattle.constraint_file_spec.proofs.Names.{numbers_below}

none_behind : {A : Type 0} (o : Option ConstraintFault) (next : Result A ConstraintFault) (x : A) → (o >> next) ≡ Ok x → (o ≡ None) × (next ≡ Ok x)
none_behind None next x h = (refl, h)
none_behind (Some fault) next x h = absurd cc

pub record IsChecked (file : ListedParts) : Type 0 where
  pub alphabet : out_of_range Alphabet file.alphabet ≡ None
  pub d : out_of_range D file.d ≡ None
  pub k : out_of_range K file.k ≡ None
  pub runs : d_above_k file.d file.k ≡ None
  pub word_count : too_many_words file.forbid ≡ None
  pub edge_count : too_many_edges file.edges ≡ None
  pub words : bad_word file.forbid ≡ None
  pub labels : bad_edge file.edges ≡ None

abbrev kept : ListedParts → Result ListedParts ConstraintFault
kept file = Ok file

-- what the checks give is the file itself
checked_whole : (file x : ListedParts) → checked_parts file ≡ Ok x → IsChecked file × (file ≡ x)
checked_whole file x h =
    let a = none_behind (out_of_range Alphabet file.alphabet) _ x h in
    let b = none_behind (out_of_range D file.d) _ x a.1 in
    let c = none_behind (out_of_range K file.k) _ x b.1 in
    let d = none_behind (d_above_k file.d file.k) _ x c.1 in
    let e = none_behind (too_many_words file.forbid) _ x d.1 in
    let f = none_behind (too_many_edges file.edges) _ x e.1 in
    let g = none_behind (bad_word file.forbid) _ x f.1 in
    let i = none_behind (bad_edge file.edges) _ x g.1 in
    let same : kept file ≡ kept x = i.1 in
    (record { alphabet = a.0; d = b.0; k = c.0; runs = d.0; word_count = e.0; edge_count = f.0; words = g.0; labels = i.0 }, let whole : file ≡ x = cc in whole)

pub checked : (file x : ListedParts) → checked_parts file ≡ Ok x → IsChecked file
checked file x h = (checked_whole file x h).0

-- ---- numbers

in_range : (n m : ℕ) (z : ℤ) (fault : ConstraintFault) → (if int_le (pos n) z && int_le z (pos m) then None else Some fault) ≡ None
    → (pos n ≤ℤ z) × (z ≤ℤ pos m) × (nat_abs z ≤ m)
in_range n m (pos a) fault h = by (leb n a) refl (leb a m) refl
  where
    by : (b : Bool) → leb n a ≡ b → (d : Bool) → leb a m ≡ d → (pos n ≤ℤ pos a) × (pos a ≤ℤ pos m) × (a ≤ m)
    by true low true high = (le_z_yes (T_from_true (leb n a) low), le_z_yes (T_from_true (leb a m) high), leb-true a m high)
    by true low false high = absurd (let e = rw (low, high) at h in cc)
    by false low d high = absurd (let e = rw low at h in cc)
in_range n m (negsuc a) fault h = absurd cc

abbrev IsRun : ℤ → Type 0
IsRun z = (pos 0 ≤ℤ z) × (z ≤ℤ pos 100) × (nat_abs z ≤ 100)

pub d_in_range : (file : ListedParts) → IsChecked file → IsRun (unwrap_or file.d (pos 0))
d_in_range file ok = by file.d ok.d
  where
    by : (d : Option ℤ) → out_of_range D d ≡ None → IsRun (unwrap_or d (pos 0))
    by None h = (le_z_yes tt, le_z_yes tt, omega arith)
    by (Some z) h = in_range 0 100 z (OutOfRange D) h

pub k_in_range : (file : ListedParts) → IsChecked file → (k : ℤ) → file.k ≡ Some k → IsRun k
k_in_range file ok k is = in_range 0 100 k (OutOfRange K) (subst (λ (o : Option ℤ). out_of_range K o ≡ None) is ok.k)

in_order : (d k : ℤ) (fault : ConstraintFault) → IsRun d → IsRun k → (if int_lt k d then Some fault else None) ≡ None → nat_abs d ≤ nat_abs k
in_order (pos a) (pos b) fault rd rk h = by (ltb b a) refl
  where
    by : (t : Bool) → ltb b a ≡ t → a ≤ b
    by true e = absurd (let f = rw e at h in cc)
    by false e = ltb-false b a e
in_order (negsuc a) k fault rd rk h = absurd rd.0.le
in_order (pos a) (negsuc b) fault rd rk h = absurd rk.0.le

d_to_k : (file : ListedParts) → IsChecked file → (k : ℤ) → file.k ≡ Some k → nat_abs (unwrap_or file.d (pos 0)) ≤ nat_abs k
d_to_k file ok k is = in_order (unwrap_or file.d (pos 0)) k DAboveK (d_in_range file ok) (k_in_range file ok k is)
    (subst (λ (o : Option ℤ). d_above_k file.d o ≡ None) is ok.runs)

k_range : (file : ListedParts) → IsChecked file → IfSome (option_map nat_abs file.k) (λ k. (nat_abs (unwrap_or file.d (pos 0)) ≤ k) × (k ≤ 100))
k_range file ok = by file.k refl
  where
    by : (o : Option ℤ) → file.k ≡ o → IfSome (option_map nat_abs o) (λ k. (nat_abs (unwrap_or file.d (pos 0)) ≤ k) × (k ≤ 100))
    by None is = tt
    by (Some k) is = (d_to_k file ok k is, (k_in_range file ok k is).2)

-- ---- words and labels

none_given : {A B : Type 0} (f : A → B) (o : Option A) → option_map f o ≡ None → o ≡ None
none_given f None h = refl
none_given f (Some x) h = absurd cc

past : {A : Type 0} (p : A → Bool) (xs : List A) → length xs ≤ position_or_len (λ x. not (p x)) xs → (x : A) → Contains xs x → p x ≡ true
past p [] long x found = absurd (omega (arith, found.1))
past p (y ∷ ys) long x found = by (p y) refl (past p ys)
  where
    by : (b : Bool) → p y ≡ b → (length ys ≤ position_or_len (λ x. not (p x)) ys → (x : _) → Contains ys x → p x ≡ true) → p x ≡ true
    by true e more =
        let rest : length ys ≤ position_or_len (λ x. not (p x)) ys = (let l = rw e at long in omega (arith, l)) in
        elim (first_or_rest y ys x found) [ inl same ↦ ap p same ∙ e | inr there ↦ more rest x there ]
    by false e more = absurd (let l = rw e at long in omega (arith, l))

all_pass : {A : Type 0} (p : A → Bool) (xs : List A) → position (λ x. not (p x)) xs ≡ None → (x : A) → Contains xs x → p x ≡ true
all_pass p xs none = past p xs (elim (cases_lt (position_or_len (λ x. not (p x)) xs) (length xs)) [
  | inl inside ↦ absurd (let e = rw (lt-ltb (position_or_len (λ x. not (p x)) xs) (length xs) inside) at none in cc)
  | inr long ↦ long
])

over_two : (text : List ℕ) → list_all (is_symbol_digit 2) text ≡ true → All (λ s. s < 2) (symbols text)
over_two text h = All-map (λ s. s < 2) (λ digit. digit - 48) text (All-weaker (λ digit. is_symbol_digit 2 digit ≡ true) (λ digit. digit - 48 < 2)
    (λ digit p. ltb-true (digit - 48) 2 (and_parts (leb 48 digit) (ltb (digit - 48) 2) p).1) text (AllPass-from_list_all (is_symbol_digit 2) text h))

word_is_forbiddable : (text : List ℕ) → is_word text ≡ true → IsForbiddable 2 (symbols text)
word_is_forbiddable text h =
    let some = and_parts (leb 1 (length text)) (leb (length text) 32 && list_all (is_symbol_digit 2) text) h in
    let few = and_parts (leb (length text) 32) (list_all (is_symbol_digit 2) text) some.1 in
    let same : length (symbols text) ≡ length text = length-map text (λ digit. digit - 48) in
    (omega (arith, leb-true 1 (length text) some.0, same), omega (arith, leb-true (length text) 32 few.0, same), over_two text few.1)

label_below : (text : List ℕ) → is_label text ≡ true → slice_index (symbols text) 0 < 2
label_below [] h = omega arith
label_below (digit ∷ text) h =
    let parts = and_parts (length (digit ∷ text) == 1) (list_all (is_symbol_digit 2) (digit ∷ text)) h in
    over_two (digit ∷ text) parts.1 0 0 (omega arith)

contains_map : {A B : Type 0} (f : A → B) (xs : List A) (y : B) → Contains (map f xs) y → (x : A) × Contains xs x × (y ≡ f x)
contains_map f [] y found = absurd (omega (arith, found.1))
contains_map f (x ∷ xs) y found = elim (first_or_rest (f x) (map f xs) y found) [
  | inl same ↦ (x, contains_first x xs, same)
  | inr there ↦ (let rest = contains_map f xs y there in (rest.0, contains_rest x xs rest.0 rest.1, rest.2))
]

all_of : {A : Type 0} (P : A → Type 0) (xs : List A) → ((x : A) → Contains xs x → P x) → All P xs
all_of P xs each = All-weaker (λ x. Contains xs x) P each xs (All-contains_itself xs)

not_too_many : (m n : ℕ) (fault : ConstraintFault) → (if nat_lt m n then Some fault else None) ≡ None → n ≤ m
not_too_many m n fault h = by (ltb m n) refl
  where
    by : (b : Bool) → ltb m n ≡ b → n ≤ m
    by true e = absurd (let f = rw e at h in cc)
    by false e = ltb-false m n e

neither : (a b : Bool) (fault : ConstraintFault) → (if a || b then Some fault else None) ≡ None → (a ≡ false) × (b ≡ false)
neither true b fault h = absurd cc
neither false true fault h = absurd cc
neither false false fault h = (refl, refl)

pub few_words : (file : ListedParts) → IsChecked file → length file.forbid ≤ 128
few_words file ok = not_too_many 128 (length file.forbid) (TooMany Forbid) ok.word_count

pub few_edges : (file : ListedParts) → IsChecked file → (length file.edges ≤ 2048) × (length (state_names file.edges) ≤ 256)
few_edges file ok =
    let both = neither (ltb 2048 (length file.edges)) (ltb 256 (length (state_names file.edges))) (TooMany Edges) ok.edge_count in
    (ltb-false 2048 (length file.edges) both.0, ltb-false 256 (length (state_names file.edges)) both.1)

-- ---- the constraint

module _ (file : ListedParts) (c : ConstraintData) (ok : IsChecked file) (lists : ListsConstraint file c) where
  listed_word : (w : List ℕ) → Contains c.forbid w → IsForbiddable 2 w
  listed_word w found =
      let text = contains_map symbols file.forbid w ((lists.forbid.items w).0 found) in
      subst (λ (v : List ℕ). IsForbiddable 2 v) (sym text.2)
      (word_is_forbiddable text.0 (all_pass is_word file.forbid (none_given (λ at. BadWord at) (position (λ t. not (is_word t)) file.forbid) ok.words) text.0 text.1))

  listed_edge : (e : GraphEdge) → Contains c.edges e → (e.from < length (state_names file.edges)) × (e.label < 2) × (e.to < length (state_names file.edges))
  listed_edge e found =
      let edge = contains_map (numbered (state_names file.edges)) file.edges e ((lists.edges.items e).0 found) in
      let below = numbers_below file.edges edge.0 edge.1 in
      let label = label_below edge.0.label (all_pass (λ d. is_label d.label) file.edges (none_given (λ at. BadEdge at) (position (λ d. not (is_label d.label)) file.edges) ok.labels) edge.0 edge.1) in
      subst (λ (f : GraphEdge). (f.from < length (state_names file.edges)) × (f.label < 2) × (f.to < length (state_names file.edges))) (sym edge.2) (below.0, label, below.1)

  no_states : c.states ≡ 0 → c.edges ≡ []
  no_states none = by c.edges listed_edge
    where
      by : (edges : List GraphEdge) → ((e : GraphEdge) → Contains edges e → (e.from < length (state_names file.edges)) × (e.label < 2) × (e.to < length (state_names file.edges))) → edges ≡ []
      by [] each = refl
      by (e ∷ es) each = absurd (let below = each e (contains_first e es) in let same = lists.states in omega (arith, below.0))

  no_edges : c.edges ≡ [] → c.states ≡ 0
  no_edges none = lists.states ∙ by file.edges (λ e found. (lists.edges.items e).1 found)
    where
      by : (edges : List ListedEdge) → ((e : GraphEdge) → Contains (map (numbered (state_names file.edges)) edges) e → Contains c.edges e) → length (state_names edges) ≡ 0
      by [] each = refl
      by (e ∷ es) each =
          let first = numbered (state_names file.edges) e in
          let there = subst (λ (l : List GraphEdge). Contains l first) none (each first (contains_first first (map (numbered (state_names file.edges)) es))) in
          absurd (omega (arith, there.1))

  pub keeps_ranges : IsConstraint c
  keeps_ranges =
      let words = ascending_fits IsBefore not_before_itself before_on c.forbid (map symbols file.forbid) lists.forbid.order (λ w h. (lists.forbid.items w).0 h) in
      let edges = ascending_fits IsEdgeBefore edge_not_before_itself edges_before c.edges (map (numbered (state_names file.edges)) file.edges) lists.edges.order (λ e h. (lists.edges.items e).0 h) in
      record {
        alphabet = (let a = lists.alphabet in omega arith, let a = lists.alphabet in omega arith);
        d = (let e = lists.d in omega (arith, (d_in_range file ok).2));
        k = subst (λ (o : Option ℕ). IfSome o (λ k. (c.d ≤ k) × (k ≤ 100))) (sym lists.k)
            (subst (λ (d : ℕ). IfSome (option_map nat_abs file.k) (λ k. (d ≤ k) × (k ≤ 100))) (sym lists.d) (k_range file ok));
        forbid_count = omega (arith, words, length-map file.forbid symbols, few_words file ok);
        forbid_words = subst (λ (a : ℕ). All (IsForbiddable a) c.forbid) (sym lists.alphabet) (all_of (IsForbiddable 2) c.forbid listed_word);
        forbid_order = lists.forbid.order;
        states = (let s = lists.states in omega (arith, (few_edges file ok).1));
        graph = (no_states, no_edges);
        edge_count = omega (arith, edges, length-map file.edges (numbered (state_names file.edges)), (few_edges file ok).0);
        edges = all_of (IsEdgeOf c) c.edges (λ e found. let below = listed_edge e found in let s = lists.states in let a = lists.alphabet in
            (omega (arith, below.0), omega (arith, below.1), omega (arith, below.2)));
        edge_order = lists.edges.order;
      }

-- ---- the file

behind_ok : {A B : Type 0} (r : Result A ConstraintFault) (f : A → Result B ConstraintFault) (y : B) → (r >>= f) ≡ Ok y → (x : A) × (r ≡ Ok x) × (f x ≡ Ok y)
behind_ok (Ok x) f y h = (x, refl, h)
behind_ok (Err fault) f y h = absurd cc

pub file_checked : (bytes : List ℕ) (file : ListedParts) → file_parts bytes ≡ Ok file → IsChecked file
file_checked bytes file h =
    let table = behind_ok (ok_or (document_of bytes) NotToml) table_parts file h in
    let known = none_behind (unknown_key table.0) _ file table.2 in
    let listed = behind_ok (listed_parts table.0) checked_parts file known.1 in
    let whole = checked_whole listed.0 file listed.2 in
    subst (λ (f : ListedParts). IsChecked f) whole.1 whole.0
