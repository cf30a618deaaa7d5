-- Each line that keeps its rule is the only one in front of its text, so there is one first wrong line, and none in the text of a code.
use Rattle.std.proofs.Common.{◌≡◌, ℕ, ◌^◌, ◌<◌, ◌≤◌, List, ◌∷◌, ◌++◌, length, Some, None, refl, ap, arith, inl, inr}
use Rattle.std.specs.Prelude.{◌⊎◌, codes, Result, Ok, Err}
use Rattle.std.specs.Fmt.{decimal}
use Rattle.constraint_spec.specs.declared.GraphEdge.{GraphEdge}
use Rattle.code_spec.specs.declared.CodeRow.{CodeRow}
use Rattle.code_spec.specs.Code.{CodeData, IsCode}
use Rattle.code_text_spec.specs.CodeText.{spaced, digits, limit, edge_line, row_line, code_lines, code_text, IsCodeText}
use Rattle.code_text_spec.specs.LineRules.{Place, at_version, at_alphabet, at_d, at_k, at_forbid, at_words, at_edges, at_window, at_states, at_row, Keeps, keeps_version, keeps_alphabet, keeps_d, keeps_k, keeps_forbid, keeps_word, keeps_graph, keeps_edge, keeps_rate, keeps_window, keeps_states, keeps_row, keeps_last_row, IsEnd, behind_last_row, IsWrongLine}
use Rattle.text_reading.proofs.LineSteps.{IsOneWay, one_value, one_behind, first_wrong_is_one, whole_is_not_wrong}
use Rattle.code_tables.specs.inside.Reading.{code_at, d_at, k_at, forbid_at, forbidden_at, graph_at, edge_at, rate_at, window_at, states_at, code_row_at}
use Rattle.code_tables.proofs.LineKinds.{IsRange, IsLimit, d_reads, k_text_reads, forbid_reads}
use Rattle.code_tables.proofs.WordLines.{IsNextWord, word_reads}
use Rattle.code_tables.proofs.GraphLines.{IsGraph, graph_text_reads, IsNextEdge, edge_reads, sizes_to}
use Rattle.code_tables.proofs.TableLines.{two_numbers, IsRate, IsWindow, rate_reads, window_reads, states_read, IsRow, row_reads, words_are_few}
use Rattle.code_tables.specs.declared.fault.CodeTextFault.{CodeTextFault}
use Rattle.code_tables.specs.declared.fault.CodeTextFault.TheVariants.{BadCode, NoMemory}
use Rattle.code_tables.specs.ReadCode.{ReadsCode}
use Rattle.code_tables.proofs.CodeLaws.{code_leads, code_takes, code_wrong, one_code}

-- the numbers that a place has from earlier lines are in their ranges
abbrev pub IsGood : Place → Type 0
IsGood at_version = Unit {0}
IsGood at_alphabet = Unit {0}
IsGood at_d = Unit {0}
IsGood (at_k d) = Unit {0}
IsGood at_forbid = Unit {0}
IsGood (at_words left before) = Unit {0}
IsGood (at_edges states left before) = states ≤ 256
IsGood (at_window p q) = p ≤ 8
IsGood (at_states p q) = p ≤ 8
IsGood (at_row p q states state word) = (p ≤ 8) × (states ≤ 512)

pub stays_good : (here : Place) (line : List ℕ) (next : Place) → IsGood here → Keeps here line next → IsGood next
stays_good here line next good keeps_version = tt
stays_good here line next good keeps_alphabet = tt
stays_good here line next good (keeps_d d most) = tt
stays_good here line next good (keeps_k d k range) = tt
stays_good here line next good (keeps_forbid count most) = tt
stays_good here line next good (keeps_word left before w is order) = tt
stays_good here line next good (keeps_graph before s e sizes) = (sizes_to s e sizes).0.1
stays_good here line next good (keeps_edge s left before e from label to order) = good
stays_good here line next good (keeps_rate s before p q one eight least most) = eight
stays_good here line next good (keeps_window p q past ahead few many) = good
stays_good here line next good (keeps_states p q count one few) = (good, few)
stays_good here line next good (keeps_row p q s state word r inside few block to) = good
stays_good here line next good (keeps_last_row p q s state word r inside last block to) = good

row_way : (p q s state word : ℕ) (r t : CodeRow) (rest behind : List ℕ) → p ≤ 8 → s ≤ 512 → state < s → word < 2 ^ p → IsRow q s r → IsRow q s t → row_line 2 q state word r ++ 10 ∷ rest ≡ row_line 2 q state word t ++ 10 ∷ behind → rest ≡ behind
row_way p q s state word r t rest behind eight some inside few is_r is_t same =
    (one_value (code_row_at q s state word) (row_line 2 q state word) (IsRow q s) (row_reads q s state word (omega arith) (omega (arith, words_are_few p eight)) (omega arith) (omega arith)) r t rest behind is_r is_t same).1

one_way : (here : Place) (line other rest behind : List ℕ) (next after : Place) → IsGood here → Keeps here line next → Keeps here other after → line ++ 10 ∷ rest ≡ other ++ 10 ∷ behind → (next ≡ after) × (rest ≡ behind)
one_way here line other rest behind next after good keeps_version keeps_version same = (refl, one_behind (codes "modcode 1") rest behind same)
one_way here line other rest behind next after good keeps_alphabet keeps_alphabet same = (refl, one_behind (codes "alphabet 2") rest behind same)
one_way here line other rest behind next after good (keeps_d d most) (keeps_d e few) same =
    let one = one_value d_at (λ d. spaced (codes "d") (decimal d)) (IsRange 0 100) d_reads d e rest behind (omega arith, most) (omega arith, few) same in
    (ap at_k one.0, one.1)
one_way here line other rest behind next after good (keeps_k d k range) (keeps_k e l limits) same =
    (refl, (one_value (k_at d) (λ k. spaced (codes "k") (limit k)) (IsLimit d) (k_text_reads d) k l rest behind range limits same).1)
one_way here line other rest behind next after good (keeps_forbid count most) (keeps_forbid n few) same =
    let one = one_value forbid_at (λ n. spaced (codes "forbid") (decimal n)) (IsRange 0 128) forbid_reads count n rest behind (omega arith, most) (omega arith, few) same in
    (ap (λ m. at_words m None) one.0, one.1)
one_way here line other rest behind next after good (keeps_word left before w is order) (keeps_word l b v are rank) same =
    let one = one_value (forbidden_at before) digits (IsNextWord before) (word_reads before) w v rest behind (is, order) (are, rank) same in
    (ap (λ (u : List ℕ). at_words left (Some u)) one.0, one.1)
one_way here line other rest behind next after good (keeps_graph before s e sizes) (keeps_graph b t f numbers) same =
    let one = one_value graph_at (two_numbers (codes "graph")) IsGraph graph_text_reads (s, e) (t, f) rest behind (sizes_to s e sizes) (sizes_to t f numbers) same in
    (ap (λ (g : ℕ × ℕ). at_edges g.0 g.1 None) one.0, one.1)
one_way here line other rest behind next after good (keeps_edge s left before e from label to order) (keeps_edge t l b f source mark target rank) same =
    let one = one_value (edge_at s before) edge_line (IsNextEdge s before) (edge_reads s good (omega (arith, from)) before) e f rest behind ((from, label, to), order) ((source, mark, target), rank) same in
    (ap (λ (g : GraphEdge). at_edges s left (Some g)) one.0, one.1)
one_way here line other rest behind next after good (keeps_rate s before p q one eight least most) (keeps_rate t b m n some few low high) same =
    let pair = one_value rate_at (two_numbers (codes "rate")) IsRate rate_reads (p, q) (m, n) rest behind ((one, eight), (least, most)) ((some, few), (low, high)) same in
    (ap (λ (g : ℕ × ℕ). at_window g.0 g.1) pair.0, pair.1)
one_way here line other rest behind next after good (keeps_window p q past ahead few many) (keeps_window m n back front low high) same =
    (refl, (one_value window_at (two_numbers (codes "window")) IsWindow window_reads (past, ahead) (back, front) rest behind ((omega arith, few), (omega arith, many)) ((omega arith, low), (omega arith, high)) same).1)
one_way here line other rest behind next after good (keeps_states p q count one few) (keeps_states m n number some many) same =
    let single = one_value states_at (λ n. spaced (codes "states") (decimal n)) (IsRange 1 512) states_read count number rest behind (one, few) (some, many) same in
    (ap (λ c. at_row p q c 0 0) single.0, single.1)
one_way here line other rest behind next after good (keeps_row p q s state word r inside few block to) (keeps_row a b c d e t within more bits target) same =
    (refl, row_way p q s state word r t rest behind good.0 good.1 inside (omega (arith, few)) (block, to) (bits, target) same)
one_way here line other rest behind next after good (keeps_row p q s state word r inside few block to) (keeps_last_row a b c d e t within last bits target) same =
    absurd (omega (arith, few, last))
one_way here line other rest behind next after good (keeps_last_row p q s state word r inside last block to) (keeps_row a b c d e t within few bits target) same =
    absurd (omega (arith, few, last))
one_way here line other rest behind next after good (keeps_last_row p q s state word r inside last block to) (keeps_last_row a b c d e t within done bits target) same =
    (refl, row_way p q s state word r t rest behind good.0 good.1 inside (omega (arith, last)) (block, to) (bits, target) same)

lines_go_one_way : IsOneWay Keeps IsGood
lines_go_one_way = record { way = one_way; stays = stays_good }

pub one_wrong_line : (bytes : List ℕ) (m n : ℕ) → IsWrongLine bytes m → IsWrongLine bytes n → m ≡ n
one_wrong_line bytes m n one two = first_wrong_is_one lines_go_one_way at_version 1 bytes m n tt one two

stops_at_end : (here next : Place) (line : List ℕ) → IsEnd here → Keeps here line next → ⊥
stops_at_end here next line (behind_last_row p q states) (keeps_row a b c s w r inside few block to) = omega (arith, inside)
stops_at_end here next line (behind_last_row p q states) (keeps_last_row a b c s w r inside last block to) = omega (arith, inside)

pub no_wrong_line : (bytes : List ℕ) (c : CodeData) (n : ℕ) → IsCodeText bytes c → IsWrongLine bytes n → ⊥
no_wrong_line bytes c n is wrong =
    whole_is_not_wrong lines_go_one_way stops_at_end at_version (at_row c.p c.q (length c.rows) (length c.rows) 0) (code_lines c) 1 n bytes tt (code_leads c is.code) (behind_last_row c.p c.q (length c.rows)) is.spelled wrong

told_from : (bytes : List ℕ) (n : ℕ) (r : Result CodeData ℕ) → code_at bytes ≡ r → IsWrongLine bytes n → r ≡ Err n
told_from bytes n (Ok c) e wrong = absurd (no_wrong_line bytes c n (code_takes bytes c e) wrong)
told_from bytes n (Err m) e wrong = ap (λ (k : ℕ). let r : Result CodeData ℕ = Err k in r) (one_wrong_line bytes m n (code_wrong bytes m e) wrong)

-- the first wrong line is what reading tells
pub code_told : (bytes : List ℕ) (n : ℕ) → IsWrongLine bytes n → code_at bytes ≡ Err n
code_told bytes n wrong = told_from bytes n (code_at bytes) refl wrong

-- what reading the text of a code may answer
pub read_back : (c : CodeData) (result : Result CodeData CodeTextFault) → IsCode c → ReadsCode (code_text c) result → (result ≡ Ok c) ⊎ (result ≡ Err NoMemory)
read_back c (Ok e) code is = inl (ap (λ (d : CodeData). let r : Result CodeData CodeTextFault = Ok d in r) (one_code (code_text c) e c is (record { code = code; spelled = refl })))
read_back c (Err (BadCode n)) code is = absurd (no_wrong_line (code_text c) c n (record { code = code; spelled = refl }) is)
read_back c (Err NoMemory) code is = inr refl
