-- The keys of a table that was read ascend by their bytes.
use Rattle.std.proofs.Common.{◌≡◌, ℕ, zero, suc, Ordering, Less, Equal, Greater, Bool, true, false, List, [], ◌∷◌, ◌++◌, length, Option, Some, None, option_map, option_and_then, inl, inr, refl, ap, ◌∙◌, subst}
use Rattle.std.specs.Prelude.{if◌then◌else◌}
use Rattle.std.specs.Str.{is_utf8}
use Rattle.std.specs.Ordering.{nat_cmp, is_eq, match_ordering, ordering_reverse}
use Rattle.std.specs.Cmp.Lexicographic.{slice_cmp}
use Rattle.std.proofs.lemmas.Bool.{cases_Bool}
use Rattle.std.proofs.lemmas.Cmp.{nat_list_cmp_total}
use Rattle.std.proofs.lemmas.Option.{none-some, same_Some}
use Rattle.toml.specs.Data.{Members}
use Rattle.toml.specs.Tables.{Node, Nodes, no_nodes, node, open_table, implicit, dotted, Edit, get_node, insert, replace, close, header_node, dot_node, by_header, by_dot, along_header, along_dots, Definition, key_value, std_table, array_table, Expression, new_node, redefine, at_found, at_key, put, Document, define}
use Rattle.toml.specs.Parse.{line, lines, skip_bom, parse_document}
use Rattle.toml.proofs.Blanks.{below}
use Rattle.toml.proofs.Filled.{KeysAbove}
use Rattle.symbol_base.specs.Ascending.{IsAscending}
use Rattle.constraint_file_spec.specs.Values.{keys_of}
use Rattle.constraint_file_spec.specs.ConstraintFile.{document_of}
use Rattle.constraint_file_spec.specs.Laws.{IsBytesBefore}

abbrev Ascend : Nodes → Type 0
Ascend no_nodes = Unit {0}
Ascend (node k x ns) = KeysAbove ns k × Ascend ns

above_earlier : (ns : Nodes) (j k : List ℕ) → below j k → KeysAbove ns k → KeysAbove ns j
above_earlier no_nodes j k order h = tt
above_earlier (node l x ns) j k order h = (nat_list_cmp_total.trans j k l order h.0, above_earlier ns j k order h.1)

turned : (k j : List ℕ) → slice_cmp nat_cmp k j ≡ Greater → below j k
turned k j e = nat_list_cmp_total.antisymm j k ∙ ap ordering_reverse e

-- ---- a table with a new key, or with another value at a key

insert_above_step : (o : Ordering) (j : List ℕ) (z : Node) (ns : Nodes) (k l : List ℕ) (y : Node) → below k l → KeysAbove (node j z ns) k → KeysAbove (insert l y ns) k
    → KeysAbove (match_ordering o (node l y (node j z ns)) (node j y ns) (node j z (insert l y ns))) k
insert_above_step Less j z ns k l y order h more = (order, h)
insert_above_step Equal j z ns k l y order h more = h
insert_above_step Greater j z ns k l y order h more = (h.0, more)

insert_above : (ns : Nodes) (k l : List ℕ) (y : Node) → below k l → KeysAbove ns k → KeysAbove (insert l y ns) k
insert_above no_nodes k l y order h = (order, tt)
insert_above (node j z ns) k l y order h = insert_above_step (slice_cmp nat_cmp l j) j z ns k l y order h (insert_above ns k l y order h.1)

insert_ascends_step : (o : Ordering) (k j : List ℕ) (x y : Node) (ns : Nodes) → slice_cmp nat_cmp k j ≡ o → Ascend (node j y ns) → Ascend (insert k x ns)
    → Ascend (match_ordering o (node k x (node j y ns)) (node j x ns) (node j y (insert k x ns)))
insert_ascends_step Less k j x y ns e h more = ((e, above_earlier ns k j e h.0), h)
insert_ascends_step Equal k j x y ns e h more = h
insert_ascends_step Greater k j x y ns e h more = (insert_above ns j k x (turned k j e) h.0, more)

insert_ascends : (ns : Nodes) (k : List ℕ) (x : Node) → Ascend ns → Ascend (insert k x ns)
insert_ascends no_nodes k x h = (tt, tt)
insert_ascends (node j y ns) k x h = insert_ascends_step (slice_cmp nat_cmp k j) k j x y ns refl h (insert_ascends ns k x h.1)

replace_above : (ns : Nodes) (k l : List ℕ) (y : Node) → KeysAbove ns k → KeysAbove (replace l y ns) k
replace_above no_nodes k l y h = tt
replace_above (node j z ns) k l y h = elim (cases_Bool (is_eq (slice_cmp nat_cmp l j))) [
  | inl same ↦ rw same h
  | inr other ↦ rw other (h.0, replace_above ns k l y h.1)
]

replace_ascends : (ns : Nodes) (k : List ℕ) (x : Node) → Ascend ns → Ascend (replace k x ns)
replace_ascends no_nodes k x h = tt
replace_ascends (node j y ns) k x h = elim (cases_Bool (is_eq (slice_cmp nat_cmp k j))) [
  | inl same ↦ rw same h
  | inr other ↦ rw other (replace_above ns j k x h.0, replace_ascends ns k x h.1)
]

-- ---- edits of the root table

abbrev Keeps : Edit → Type 0
Keeps edit = (ns result : Nodes) → Ascend ns → edit ns ≡ Some result → Ascend result

map_keeps : {A : Type 0} (f : A → Nodes) (o : Option A) (result : Nodes) → ((x : A) → Ascend (f x)) → option_map f o ≡ Some result → Ascend result
map_keeps f None result ok e = absurd (none-some result e)
map_keeps f (Some x) result ok e = subst (λ (ns : Nodes). Ascend ns) (same_Some (f x) result e) (ok x)

found_keeps : (k : List ℕ) (what : Definition) (ns result : Nodes) (o : Option Node) → Ascend ns → at_found k what ns o ≡ Some result → Ascend result
found_keeps k what ns result None h e = subst (λ (ms : Nodes). Ascend ms) (same_Some (insert k (new_node what) ns) result e) (insert_ascends ns k (new_node what) h)
found_keeps k what ns result (Some x) h e = map_keeps (λ y. replace k y ns) (redefine what x) result (λ y. replace_ascends ns k y h) e

at_key_keeps : (k : List ℕ) (what : Definition) → Keeps (at_key k what)
unfolding at_key
at_key_keeps k what ns result h e = found_keeps k what ns result (get_node k ns) h e

by_header_keeps : (k : List ℕ) (edit : Edit) (ns result : Nodes) (o : Option Node) → Ascend ns → by_header k edit ns o ≡ Some result → Ascend result
by_header_keeps k edit ns result None h e = map_keeps (λ new. insert k (open_table implicit new) ns) (edit no_nodes) result (λ new. insert_ascends ns k (open_table implicit new) h) e
by_header_keeps k edit ns result (Some x) h e = map_keeps (λ new. replace k new ns) (header_node edit x) result (λ new. replace_ascends ns k new h) e

along_header_keeps : (path : List (List ℕ)) (edit : Edit) → Keeps edit → Keeps (along_header path edit)
unfolding along_header
along_header_keeps [] edit keeps ns result h e = keeps ns result h e
along_header_keeps (k ∷ path) edit keeps ns result h e = by_header_keeps k (along_header path edit) ns result (get_node k ns) h e

by_dot_keeps : (k : List ℕ) (edit : Edit) (ns result : Nodes) (o : Option Node) → Ascend ns → by_dot k edit ns o ≡ Some result → Ascend result
by_dot_keeps k edit ns result None h e = map_keeps (λ new. insert k (open_table dotted new) ns) (edit no_nodes) result (λ new. insert_ascends ns k (open_table dotted new) h) e
by_dot_keeps k edit ns result (Some x) h e = map_keeps (λ new. replace k new ns) (dot_node edit x) result (λ new. replace_ascends ns k new h) e

along_dots_keeps : (path : List (List ℕ)) (edit : Edit) → Keeps edit → Keeps (along_dots path edit)
unfolding along_dots
along_dots_keeps [] edit keeps ns result h e = keeps ns result h e
along_dots_keeps (k ∷ path) edit keeps ns result h e = by_dot_keeps k (along_dots path edit) ns result (get_node k ns) h e

-- ---- the document, line by line

root_keeps : (path : List (List ℕ)) (o : Option Nodes) (next : Document) → ((n : Nodes) → o ≡ Some n → Ascend n)
    → option_map (λ root. (root, path)) o ≡ Some next → Ascend next.0
root_keeps path None next ok e = absurd (none-some next e)
root_keeps path (Some n) next ok e = subst (λ (doc : Document). Ascend doc.0) (same_Some (n, path) next e) (ok n refl)

define_keeps : (doc next : Document) (e : Expression) → Ascend doc.0 → define doc e ≡ Some next → Ascend next.0
unfolding define
define_keeps doc next (key, key_value d) h made =
    root_keeps doc.1 (along_header doc.1 (put key d) doc.0) next
    (λ n is. along_header_keeps doc.1 (put key d) (along_dots_keeps key.0 (at_key key.1 (key_value d)) (at_key_keeps key.1 (key_value d))) doc.0 n h is) made
define_keeps doc next (key, std_table) h made =
    root_keeps (key.0 ++ key.1 ∷ []) (along_header key.0 (at_key key.1 std_table) doc.0) next
    (λ n is. along_header_keeps key.0 (at_key key.1 std_table) (at_key_keeps key.1 std_table) doc.0 n h is) made
define_keeps doc next (key, array_table) h made =
    root_keeps (key.0 ++ key.1 ∷ []) (along_header key.0 (at_key key.1 array_table) doc.0) next
    (λ n is. along_header_keeps key.0 (at_key key.1 array_table) (at_key_keeps key.1 array_table) doc.0 n h is) made

abbrev goes_on : ℕ → Document → Expression × List ℕ → Option Document
goes_on n doc e = option_and_then (λ next. lines n next e.1) (define doc e.0)

define_on : (n : ℕ) (doc last : Document) (e : Expression × List ℕ) (o : Option Document) → define doc e.0 ≡ o → Ascend doc.0
    → ((next : Document) → Ascend next.0 → lines n next e.1 ≡ Some last → Ascend last.0) → option_and_then (λ next. lines n next e.1) o ≡ Some last → Ascend last.0
define_on n doc last e None is h more made = absurd (none-some last made)
define_on n doc last e (Some next) is h more made = more next (define_keeps doc next e.0 h is) made

line_on : (n : ℕ) (doc last : Document) (o : Option (Expression × List ℕ)) → Ascend doc.0
    → ((next : Document) (rest : List ℕ) → Ascend next.0 → lines n next rest ≡ Some last → Ascend last.0) → option_and_then (goes_on n doc) o ≡ Some last → Ascend last.0
line_on n doc last None h more made = absurd (none-some last made)
line_on n doc last (Some e) h more made = define_on n doc last e (define doc e.0) refl h (λ next. more next e.1) made

turn_on : (n : ℕ) (doc last : Document) (over : Bool) (o : Option (Expression × List ℕ)) → Ascend doc.0
    → ((next : Document) (rest : List ℕ) → Ascend next.0 → lines n next rest ≡ Some last → Ascend last.0)
    → (if over then Some doc else option_and_then (goes_on n doc) o) ≡ Some last → Ascend last.0
turn_on n doc last true o h more made = subst (λ (d : Document). Ascend d.0) (same_Some doc last made) h
turn_on n doc last false o h more made = line_on n doc last o h more made

lines_keep : (n : ℕ) (doc last : Document) (text : List ℕ) → Ascend doc.0 → lines n doc text ≡ Some last → Ascend last.0
unfolding lines
lines_keep zero doc last text h e = absurd (none-some last e)
lines_keep (suc n) doc last text h e =
    turn_on n doc last _ _ h (λ next rest. lines_keep n next last rest) e

close_ascends : (ns : Nodes) → Ascend ns → IsAscending IsBytesBefore (keys_of (close ns))
close_ascends no_nodes h = tt
close_ascends (node k x no_nodes) h = tt
close_ascends (node k x (node l y ns)) h = (h.0.0, close_ascends (node l y ns) h.1)

closed_ascends : (table : Members) (o : Option Document) → ((doc : Document) → o ≡ Some doc → Ascend doc.0) → option_map (λ doc. close doc.0) o ≡ Some table
    → IsAscending IsBytesBefore (keys_of table)
closed_ascends table None ok e = absurd (none-some table e)
closed_ascends table (Some doc) ok e = subst (λ (t : Members). IsAscending IsBytesBefore (keys_of t)) (same_Some (close doc.0) table e) (close_ascends doc.0 (ok doc refl))

parsed_ascends : (bytes : List ℕ) (table : Members) → parse_document bytes ≡ Some table → IsAscending IsBytesBefore (keys_of table)
unfolding parse_document
parsed_ascends bytes table e =
    closed_ascends table (lines (suc (length bytes)) (no_nodes, []) (skip_bom bytes))
    (λ doc is. lines_keep (suc (length bytes)) (no_nodes, []) doc (skip_bom bytes) tt is) e

pub keys_ascend : (bytes : List ℕ) (table : Members) → document_of bytes ≡ Some table → IsAscending IsBytesBefore (keys_of table)
keys_ascend bytes table e = by (is_utf8 bytes) e
  where
    by : (b : Bool) → (if b then parse_document bytes else None) ≡ Some table → IsAscending IsBytesBefore (keys_of table)
    by true h = parsed_ascends bytes table h
    by false h = absurd (none-some table h)
