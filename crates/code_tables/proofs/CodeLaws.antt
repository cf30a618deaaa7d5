-- A code is read from its text and from no other bytes, and else the first wrong line is told.
use Rattle.std.proofs.Common.{◌≡◌, ℕ, zero, suc, ◌+◌, ◌*◌, ◌^◌, ◌<◌, ◌≤◌, cond, eqb, List, [], ◌∷◌, ◌++◌, length, map, Option, Some, None, refl, sym, ap, ◌∙◌, subst, arith, append_assoc, inl, inr}
use Rattle.std.specs.Prelude.{◌⊎◌, ◌↔◌, ◌≢◌, codes, All, Result, Ok, Err}
use Rattle.std.specs.Fmt.{decimal}
use Rattle.std.specs.List.{AllByRecursion}
use Rattle.std.proofs.lemmas.Fmt.{decimal_digit}
use Rattle.std.proofs.lemmas.List.{append-nil, nil_from_length}
use Rattle.std.proofs.lemmas.List.Elements.{All-from_recursion, recursion_from_All}
use Rattle.symbol_base.specs.Word.{IsBefore}
use Rattle.constraint_spec.specs.declared.GraphEdge.{GraphEdge}
use Rattle.constraint_spec.specs.Constraint.{ConstraintData}
use Rattle.symbol_base.specs.Ascending.{IsAscending}
use Rattle.constraint_spec.specs.Ranges.{IsEdgeBefore, IsForbiddable, IsEdgeOf}
use Rattle.code_spec.specs.declared.CodeRow.{CodeRow}
use Rattle.code_spec.specs.Code.{CodeData, IsCode, IsRowOf, IsStateOf}
use Rattle.code_text_spec.specs.CodeText.{spaced, digits, limit, edge_line, row_line, state_lines, table_lines, code_lines, code_text, IsCodeText}
use Rattle.code_text_spec.specs.LineRules.{Place, at_version, at_row, IsGraphSize, Keeps, keeps_row, keeps_last_row, IsWrongLine}
use Rattle.text_reading.specs.Lines.{text_of, Leads}
use Rattle.text_reading.specs.LineReader.{lines_along, HoldsAlong, after_all}
use Rattle.text_reading.proofs.LineReaders.{BindErr, in_front, behind_it, bind_ok, bind_err, ok_is}
use Rattle.code_text_spec.proofs.Lines.{length-code_lines}
use Rattle.code_tables.specs.inside.Reading.{Parts, parts_at, code_of, line_behind, code_at}
use Rattle.code_tables.proofs.LineKinds.{IsNext}
use Rattle.code_tables.proofs.WordLines.{words_lines}
use Rattle.code_tables.proofs.GraphLines.{sizes_from, sizes_to, edges_lines, IsEdgeBelow}
use Rattle.code_tables.proofs.TableLines.{two_numbers, IsRow, IsRowsOfState, state_rows, table_rows, after_states}
use Rattle.code_tables.proofs.Whole.{AreParts, parts_lines, parts_are_read, ends}

-- ---- the lines of the parts are the lines of the code

lines_by_map : {A : Type 0} (line : A → List ℕ) (before : Option A) (items : List A) → lines_along (λ before x. line x ∷ []) (λ before x. Some x) before items ≡ map line items
lines_by_map line before [] = refl
lines_by_map line before (x ∷ items) = ap (λ (ls : List (List ℕ)). line x ∷ ls) (lines_by_map line (Some x) items)

state_lines_are : (c : CodeData) (state word : ℕ) (rows : List CodeRow) → c.constraint.alphabet ≡ 2 → lines_along (λ word row. row_line 2 c.q state word row ∷ []) (λ word row. word + 1) word rows ≡ state_lines c state word rows
state_lines_are c state word [] two = refl
state_lines_are c state word (row ∷ rows) two = rw (two, state_lines_are c state (word + 1) rows two) refl

table_lines_are : (c : CodeData) (state : ℕ) (rows : List (List CodeRow)) → c.constraint.alphabet ≡ 2 → lines_along (state_rows c.q) (λ state rows. state + 1) state rows ≡ table_lines c state rows
table_lines_are c state [] two = refl
table_lines_are c state (rows ∷ others) two = rw (state_lines_are c state 0 rows two, table_lines_are c (state + 1) others two) refl

-- the lines in their order, whatever they are
in_order : (version alphabet d k forbid : List ℕ) (words : List (List ℕ)) (graph : List ℕ) (edges : List (List ℕ)) (rate window states : List ℕ) (table : List (List ℕ))
    → (version ∷ alphabet ∷ d ∷ k ∷ forbid ∷ []) ++ (words ++ ((graph ∷ []) ++ (edges ++ ((rate ∷ window ∷ states ∷ []) ++ table))))
    ≡ version ∷ ((alphabet ∷ d ∷ k ∷ forbid ∷ []) ++ words ++ (graph ∷ []) ++ edges) ++ rate ∷ window ∷ states ∷ table
in_order version alphabet d k forbid words graph edges rate window states table = simp append_assoc refl

lines_of_parts : (x : Parts) → AreParts x → parts_lines x ≡ code_lines (code_of x)
lines_of_parts x are =
    let c = code_of x in
    let two : decimal 2 ≡ codes "2" = decimal_digit 2 (omega arith) in
    in_order (codes "modcode 1") (codes "alphabet 2") (spaced (codes "d") (decimal x.0.0)) (spaced (codes "k") (limit x.0.1.0)) (spaced (codes "forbid") (decimal x.0.1.1)) (words_lines x.1.0) (two_numbers (codes "graph") x.1.1.0) (edges_lines x.1.1.1.0)
    (two_numbers (codes "rate") x.1.1.1.1.0.0) (two_numbers (codes "window") x.1.1.1.1.0.1.0) (spaced (codes "states") (decimal x.1.1.1.1.0.1.1)) (table_rows x.1.1.1.1.0.0.1 x.1.1.1.1.1)
    ∙ rw (lines_by_map digits None x.1.0, lines_by_map edge_line None x.1.1.1.0, table_lines_are c 0 x.1.1.1.1.1 refl, ← are.1.0.0, ← are.1.1.1.0.0, ← are.1.1.1.1.1.0, two) refl

-- ---- what the parts keep is what the code keeps

ascends : {X : Type 0} (P : X → Type 0) (R : X → X → Type 0) (before : Option X) (items : List X) → HoldsAlong (IsNext P R) (λ before x. Some x) before items → AllByRecursion P items × IsAscending R items
ascends P R before [] holds = (tt, tt)
ascends P R before (x ∷ []) holds = ((holds.0.0, tt), tt)
ascends P R before (x ∷ y ∷ items) holds =
    let rest = ascends P R (Some x) (y ∷ items) holds.1 in
    ((holds.0.0, rest.0), (holds.1.0.1, rest.1))

along_behind : {X : Type 0} (P : X → Type 0) (R : X → X → Type 0) (before : X) (items : List X) → AllByRecursion P items → IsAscending R (before ∷ items) → HoldsAlong (IsNext P R) (λ before x. Some x) (Some before) items
along_behind P R before [] all ascending = tt
along_behind P R before (x ∷ items) all ascending = ((all.0, ascending.0), along_behind P R x items all.1 ascending.1)

along : {X : Type 0} (P : X → Type 0) (R : X → X → Type 0) (items : List X) → AllByRecursion P items → IsAscending R items → HoldsAlong (IsNext P R) (λ before x. Some x) None items
along P R [] all ascending = tt
along P R (x ∷ items) all ascending = ((all.0, tt), along_behind P R x items all.1 ascending)

rows_from : (c : CodeData) (states word : ℕ) (rows : List CodeRow) → c.constraint.alphabet ≡ 2 → states ≡ length c.rows → HoldsAlong (λ word. IsRow c.q states) (λ word row. word + 1) word rows → AllByRecursion (IsRowOf c) rows
rows_from c states word [] two count holds = tt
rows_from c states word (row ∷ rows) two count holds =
    let below : row.block.value < c.constraint.alphabet ^ c.q = rw two holds.0.0 in
    ((below, omega (arith, holds.0.1, count)), rows_from c states (word + 1) rows two count holds.1)

states_from : (c : CodeData) (states state : ℕ) (rows : List (List CodeRow)) → c.constraint.alphabet ≡ 2 → states ≡ length c.rows → HoldsAlong (λ state. IsRowsOfState c.p c.q states) (λ state rows. state + 1) state rows → AllByRecursion (IsStateOf c) rows
states_from c states state [] two count holds = tt
states_from c states state (rows ∷ others) two count holds =
    ((holds.0.0, All-from_recursion (IsRowOf c) rows (rows_from c states 0 rows two count holds.0.1)), states_from c states (state + 1) others two count holds.1)

to_rows : (c : CodeData) (states word : ℕ) (rows : List CodeRow) → c.constraint.alphabet ≡ 2 → states ≡ length c.rows → AllByRecursion (IsRowOf c) rows → HoldsAlong (λ word. IsRow c.q states) (λ word row. word + 1) word rows
to_rows c states word [] two count holds = tt
to_rows c states word (row ∷ rows) two count holds =
    let below : row.block.value < 2 ^ c.q = rw two at holds.0.0 in
    ((below, omega (arith, holds.0.1, count)), to_rows c states (word + 1) rows two count holds.1)

to_states : (c : CodeData) (states state : ℕ) (rows : List (List CodeRow)) → c.constraint.alphabet ≡ 2 → states ≡ length c.rows → AllByRecursion (IsStateOf c) rows → HoldsAlong (λ state. IsRowsOfState c.p c.q states) (λ state rows. state + 1) state rows
to_states c states state [] two count holds = tt
to_states c states state (rows ∷ others) two count holds =
    ((holds.0.0, to_rows c states 0 rows two count (recursion_from_All (IsRowOf c) rows holds.0.1)), to_states c states (state + 1) others two count holds.1)

-- a graph has states exactly where it has edges
graph_from : (states count : ℕ) (edges : List GraphEdge) → IsGraphSize states count → length edges ≡ count → (states ≡ 0) ↔ (edges ≡ [])
graph_from states count edges (inl none) long = ((λ h. nil_from_length edges (omega (arith, long, none.1))), (λ h. none.0))
graph_from states count edges (inr some) long = ((λ h. absurd (omega (arith, h, some.0))), (λ h. absurd (omega (arith, ap (λ (es : List GraphEdge). length es) h, long, some.2))))

graph_to : (states : ℕ) (edges : List GraphEdge) → states ≤ 256 → length edges ≤ 2048 → (states ≡ 0) ↔ (edges ≡ []) → IsGraphSize states (length edges)
graph_to zero [] few many graph = inl (refl, refl)
graph_to (suc states) [] few many graph = absurd (omega (arith, graph.1 refl))
graph_to zero (e ∷ edges) few many graph = absurd (omega (arith, ap (λ (es : List GraphEdge). length es) (graph.0 refl)))
graph_to (suc states) (e ∷ edges) few many graph = inr (omega arith, few, omega arith, many)

few_graph : (states count : ℕ) → IsGraphSize states count → count ≤ 2048
few_graph states count (inl none) = omega (arith, none.1)
few_graph states count (inr some) = some.3

pub code_from_parts : (x : Parts) → AreParts x → IsCode (code_of x)
code_from_parts x are =
    let c = code_of x in
    let words = ascends (IsForbiddable 2) IsBefore None x.1.0 are.1.0.1 in
    let edges = ascends (IsEdgeBelow x.1.1.0.0) IsEdgeBefore None x.1.1.1.0 are.1.1.1.0.1 in
    let graph : IsGraphSize x.1.1.0.0 x.1.1.0.1 = sizes_from x.1.1.0.0 x.1.1.0.1 are.1.1.0 in
    let sizes = are.1.1.1.1.0 in
    let table = are.1.1.1.1.1 in
    let count : x.1.1.1.1.0.1.1 ≡ length x.1.1.1.1.1 = sym table.0 in
    record {
      constraint = record {
        alphabet = (omega arith, omega arith);
        d = are.0.0.1;
        k = are.0.1.0;
        forbid_count = omega (arith, are.1.0.0, are.0.1.1.1);
        forbid_words = All-from_recursion (IsForbiddable 2) x.1.0 words.0;
        forbid_order = words.1;
        states = are.1.1.0.0.1;
        graph = graph_from x.1.1.0.0 x.1.1.0.1 x.1.1.1.0 graph are.1.1.1.0.0;
        edge_count = omega (arith, few_graph x.1.1.0.0 x.1.1.0.1 graph, are.1.1.1.0.0);
        edges = All-from_recursion (IsEdgeOf c.constraint) x.1.1.1.0 edges.0;
        edge_order = edges.1;
      };
      alphabet = refl;
      p = sizes.0.0;
      q = sizes.0.1;
      past = sizes.1.0.0.1;
      ahead = sizes.1.0.1.1;
      states = (omega (arith, sizes.1.1.0, count), omega (arith, sizes.1.1.1, count));
      rows = All-from_recursion (IsStateOf c) x.1.1.1.1.1 (states_from c x.1.1.1.1.0.1.1 0 x.1.1.1.1.1 refl count table.1);
    }

-- the parts of a code
abbrev pub parts_of : CodeData → Parts
parts_of c = ((c.constraint.d, (c.constraint.k, length c.constraint.forbid)), (c.constraint.forbid, ((c.constraint.states, length c.constraint.edges), (c.constraint.edges, (((c.p, c.q), ((c.past, c.ahead), length c.rows)), c.rows)))))

same_code : (c : CodeData) → c.constraint.alphabet ≡ 2 → c ≡ code_of (parts_of c)
same_code c two = λ i. record {
  constraint = record { alphabet = two i; d = c.constraint.d; k = c.constraint.k; forbid = c.constraint.forbid; states = c.constraint.states; edges = c.constraint.edges };
  p = c.p;
  q = c.q;
  past = c.past;
  ahead = c.ahead;
  rows = c.rows;
}

forbid_over : (c : ConstraintData) → c.alphabet ≡ 2 → All (IsForbiddable c.alphabet) c.forbid → All (IsForbiddable 2) c.forbid
forbid_over c two h = subst (λ (a : ℕ). All (IsForbiddable a) c.forbid) two h

edges_below : (c : ConstraintData) (edges : List GraphEdge) → c.alphabet ≡ 2 → AllByRecursion (IsEdgeOf c) edges → AllByRecursion (IsEdgeBelow c.states) edges
edges_below c [] two all = tt
edges_below c (e ∷ edges) two all = ((all.0.0, omega (arith, all.0.1, two), all.0.2), edges_below c edges two all.1)

parts_from_code : (c : CodeData) → IsCode c → AreParts (parts_of c)
parts_from_code c code =
    let k = code.constraint in
    let graph = graph_to c.constraint.states c.constraint.edges k.states k.edge_count k.graph in (
      ((omega arith, k.d), (k.k, (omega arith, k.forbid_count))),
      (
        (refl, along (IsForbiddable 2) IsBefore c.constraint.forbid (recursion_from_All (IsForbiddable 2) c.constraint.forbid (forbid_over c.constraint code.alphabet k.forbid_words)) k.forbid_order),
        (
          sizes_to c.constraint.states (length c.constraint.edges) graph,
          (
            (refl, along (IsEdgeBelow c.constraint.states) IsEdgeBefore c.constraint.edges (edges_below c.constraint c.constraint.edges code.alphabet (recursion_from_All (IsEdgeOf c.constraint) c.constraint.edges k.edges)) k.edge_order),
            (
              (((code.p.0, code.p.1), (code.q.0, code.q.1)), (((omega arith, code.past), (omega arith, code.ahead)), (code.states.0, code.states.1))),
              (refl, to_states c (length c.rows) 0 c.rows code.alphabet refl (recursion_from_All (IsStateOf c) c.rows code.rows)),
            ),
          ),
        ),
      ),
    )

-- ---- what is spelled is read, and what is read is spelled so

again_from : (x : Parts) → AreParts x → code_at (text_of (parts_lines x)) ≡ Ok (code_of x)
unfolding code_at
again_from x are =
    let read : parts_at 1 (text_of (parts_lines x)) ≡ Ok (x, []) =
    ap (λ (t : List ℕ). parts_at 1 t) (sym (append-nil (text_of (parts_lines x)))) ∙ parts_are_read.again 1 x [] are in
    rw read refl

pub code_again : (bytes : List ℕ) (c : CodeData) → IsCodeText bytes c → code_at bytes ≡ Ok c
code_again bytes c is =
    let parts = parts_from_code c is.code in
    let same = same_code c is.code.alphabet in
    ap (λ (t : List ℕ). code_at t) (is.spelled ∙ ap (λ d. code_text d) same ∙ ap (λ (ls : List (List ℕ)). text_of ls) (sym (lines_of_parts (parts_of c) parts))) ∙ again_from (parts_of c) parts ∙ ap (λ (d : CodeData). let r : Result CodeData ℕ = Ok d in r) (sym same)

-- the test at the end
end_ok : (x : Parts) (rest : List ℕ) (c : CodeData) → (let r : Result CodeData ℕ = cond (eqb (length rest) 0) (Ok (code_of x)) (Err (line_behind x)) in r) ≡ Ok c → (rest ≡ []) × (code_of x ≡ c)
end_ok x [] c e = (refl, ok_is (code_of x) c e)
end_ok x (byte ∷ rest) c e = absurd (grind arith)

end_err : (x : Parts) (rest : List ℕ) (n : ℕ) → (let r : Result CodeData ℕ = cond (eqb (length rest) 0) (Ok (code_of x)) (Err (line_behind x)) in r) ≡ Err n → (rest ≢ []) × (line_behind x ≡ n)
end_err x [] n e = absurd cc
end_err x (byte ∷ rest) n e = ((λ h. absurd (omega (arith, ap (λ (b : List ℕ). length b) h))), grind arith)

pub code_takes : (bytes : List ℕ) (c : CodeData) → code_at bytes ≡ Ok c → IsCodeText bytes c
unfolding code_at
code_takes bytes c e =
    let one : (x : Parts × List ℕ) × (parts_at 1 bytes ≡ Ok x) × (cond (eqb (length x.1) 0) (Ok (code_of x.0)) (Err (line_behind x.0)) ≡ Ok c) =
    bind_ok (parts_at 1 bytes) (λ x. cond (eqb (length x.1) 0) (Ok (code_of x.0)) (Err (line_behind x.0))) c e in
    let x : Parts × List ℕ = one.0 in
    let last = end_ok x.0 x.1 c one.2 in
    let own = parts_are_read.takes 1 bytes x.0 x.1 one.1 in
    subst (λ (d : CodeData). IsCodeText bytes d) last.1 (record {
      code = code_from_parts x.0 own.1;
      spelled = own.0 ∙ ap (λ (t : List ℕ). text_of (parts_lines x.0) ++ t) last.0 ∙ append-nil (text_of (parts_lines x.0)) ∙ ap (λ (ls : List (List ℕ)). text_of ls) (lines_of_parts x.0 own.1);
    })

-- ---- the first wrong line

row_inside : (p q states state word : ℕ) (text : List ℕ) (next : Place) → Keeps (at_row p q states state word) text next → state < states
row_inside p q states state word text next (keeps_row a b c s w r inside few block to) = inside
row_inside p q states state word text next (keeps_last_row a b c s w r inside last block to) = inside

wrong_at_end : (bytes : List ℕ) (n : ℕ) (x : Parts) (rest : List ℕ) → AreParts x → bytes ≡ text_of (parts_lines x) ++ rest → rest ≢ [] → line_behind x ≡ n → IsWrongLine bytes n
wrong_at_end bytes n x rest are front some same =
    let states : after_all (λ state rows. state + 1) 0 x.1.1.1.1.1 ≡ x.1.1.1.1.0.1.1 = after_states 0 x.1.1.1.1.1 ∙ omega (arith, are.1.1.1.1.1.0) in
    let count = ap (λ (ls : List (List ℕ)). length ls) (lines_of_parts x are) ∙ length-code_lines (code_of x) (code_from_parts x are) in
    let rows : length x.1.1.1.1.1 ≡ x.1.1.1.1.0.1.1 = are.1.1.1.1.1.0 in
    let all : length (parts_lines x) ≡ 9 + x.0.1.1 + x.1.1.0.1 + x.1.1.1.1.0.1.1 * 2 ^ x.1.1.1.1.0.0.0 =
    count ∙ rw (rows, are.1.0.0, are.1.1.1.0.0) refl in
    record {
      lines = parts_lines x;
      rest = rest;
      here = ends x.1.1.1.1;
      front = front;
      kept = parts_are_read.leads x are;
      breaks = record {
        line = λ line after next spelled keeps. absurd (let inside = row_inside x.1.1.1.1.0.0.0 x.1.1.1.1.0.0.1 x.1.1.1.1.0.1.1 (after_all (λ state rows. state + 1) 0 x.1.1.1.1.1) 0 line next keeps in omega (arith, inside, states));
        end = λ is_end. some;
      };
      number = omega (arith, same, all);
    }

wrong_from : (bytes : List ℕ) (n : ℕ) → BindErr (parts_at 1 bytes) (λ x. cond (eqb (length x.1) 0) (Ok (code_of x.0)) (Err (line_behind x.0))) n → IsWrongLine bytes n
wrong_from bytes n (in_front e) = parts_are_read.wrong 1 bytes n e
wrong_from bytes n (behind_it x here e) =
    let last = end_err x.0 x.1 n e in
    let own = parts_are_read.takes 1 bytes x.0 x.1 here in
    wrong_at_end bytes n x.0 x.1 own.1 own.0 last.0 last.1

pub code_wrong : (bytes : List ℕ) (n : ℕ) → code_at bytes ≡ Err n → IsWrongLine bytes n
unfolding code_at
code_wrong bytes n e = wrong_from bytes n (bind_err (parts_at 1 bytes) (λ x. cond (eqb (length x.1) 0) (Ok (code_of x.0)) (Err (line_behind x.0))) n e)

-- ---- a code or a wrong line

found : (bytes : List ℕ) (r : Result CodeData ℕ) → code_at bytes ≡ r → ((c : CodeData) × IsCodeText bytes c) ⊎ ((n : ℕ) × IsWrongLine bytes n)
found bytes (Ok c) e = inl (c, code_takes bytes c e)
found bytes (Err n) e = inr (n, code_wrong bytes n e)

pub code_or_wrong : (bytes : List ℕ) → ((c : CodeData) × IsCodeText bytes c) ⊎ ((n : ℕ) × IsWrongLine bytes n)
code_or_wrong bytes = found bytes (code_at bytes) refl

pub one_code : (bytes : List ℕ) (c e : CodeData) → IsCodeText bytes c → IsCodeText bytes e → c ≡ e
one_code bytes c e one two = ok_is c e (sym (code_again bytes c one) ∙ code_again bytes e two)

-- the lines of a code lead to the end of its text
pub code_leads : (c : CodeData) → IsCode c → Leads Keeps at_version (code_lines c) (at_row c.p c.q (length c.rows) (length c.rows) 0)
code_leads c code =
    let parts = parts_from_code c code in
    let lines : parts_lines (parts_of c) ≡ code_lines c = lines_of_parts (parts_of c) parts ∙ ap (λ d. code_lines d) (sym (same_code c code.alphabet)) in
    let states : after_all (λ state rows. state + 1) 0 c.rows ≡ length c.rows = after_states 0 c.rows ∙ omega arith in
    subst (λ (s : ℕ). Leads Keeps at_version (code_lines c) (at_row c.p c.q (length c.rows) s 0)) states
    (subst (λ (ls : List (List ℕ)). Leads Keeps at_version ls (ends (parts_of c).1.1.1.1)) lines (parts_are_read.leads (parts_of c) parts))
