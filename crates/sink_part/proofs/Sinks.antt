-- The sinks of a graph with weights are the sets to which its end states lead, and there is one.
use Rattle.std.proofs.Common.{◌≡◌, ℕ, zero, suc, ◌+◌, ◌<◌, ◌≤◌, ◌⊎◌, List, [], ◌∷◌, ◌++◌, length, get_or, Bool, true, false, cond, inl, inr, refl, ap, sym, ◌∙◌, subst, arith}
use Rattle.std.specs.Prelude.{Contains, slice_index}
use Rattle.std.specs.List.{count_by}
use Rattle.std.proofs.lemmas.Bool.{cases_lt, cases_Bool, false≢true}
use Rattle.std.proofs.lemmas.List.{get_or_past}
use Rattle.std.proofs.lemmas.List.Elements.{Contains-get_or, All-contains}
use Rattle.std.proofs.lemmas.List.Sums.{sum_by-cons}
use Rattle.symbol_base.specs.Ascending.{IsAscending}
use Rattle.symbol_base.specs.Walk.{IsWalk}
use Rattle.symbol_base.proofs.AscendingNumbers.{ascending_same, filter_ascends}
use Rattle.symbol_base.proofs.Walks.{walk-join, walk-more}
use Rattle.label_graphs.specs.Graph.{EdgeData, IsGraph}
use Rattle.label_graphs.specs.Kept.{marked_states}
use Rattle.label_graphs.specs.Sink.{IsPositiveEdge, IsLedTo, IsSink, IsLeastSink, total_weight}
use Rattle.label_graphs.specs.Vector.{IsNonzero}
use Rattle.label_graphs.specs.inside.Numbers.{is_marked}
use Rattle.label_graphs.proofs.OneSink.{stays_in}
use Rattle.label_graphs.proofs.Renumbered.{target_of}
use Rattle.sink_part.specs.inside.Leads.{IsTable, AreLeads, IsEnd, IsLightest, marks_of, leads, total_from}
use Rattle.label_graphs.proofs.Marks.{marked_inside, marked_listed, listed_marked}

-- walks through states of positive weight end in such a state
led_positive : (rows : List (List EdgeData)) (weights : List ℕ) (blocks : List ℕ) (from to : ℕ) → IsWalk (IsPositiveEdge rows weights) from blocks to
    → 0 < get_or weights from 0 → 0 < get_or weights to 0
led_positive rows weights [] from to walk positive = subst (λ s. 0 < get_or weights s 0) walk positive
led_positive rows weights (block ∷ blocks) from to walk positive = led_positive rows weights blocks walk.0 to walk.2 walk.1.2

-- the states to which a state leads
abbrev pub led_states : List (List Bool) → ℕ → List ℕ
led_states table from = marked_states (marks_of table from)

-- a state that is listed is led to
pub listed_led : (rows : List (List EdgeData)) (weights : List ℕ) (table : List (List Bool)) (from to : ℕ) → IsTable table → AreLeads rows weights table
    → from < length rows → Contains (led_states table from) to → (to < length rows) × IsLedTo rows weights from to
listed_led rows weights table from to square known inside listed =
    let marked = listed_marked (marks_of table from) to listed in
    let below = marked_inside (marks_of table from) to marked in
    let size = known.size in
    let wide : length (marks_of table from) ≡ length table = square.square from [] (omega (arith, inside, size)) in
    let to_in : to < length rows = omega (arith, below, wide, size) in
    (to_in, (known.each from to inside to_in).0 marked)

-- and a state that is led to is listed
pub led_listed : (rows : List (List EdgeData)) (weights : List ℕ) (table : List (List Bool)) (from to : ℕ) → AreLeads rows weights table
    → from < length rows → to < length rows → IsLedTo rows weights from to → Contains (led_states table from) to
led_listed rows weights table from to known inside to_in led = marked_listed (marks_of table from) to ((known.each from to inside to_in).1 led)

led_on : (rows : List (List EdgeData)) (weights : List ℕ) (from middle to : ℕ) → IsLedTo rows weights from middle → IsLedTo rows weights middle to → IsLedTo rows weights from to
led_on rows weights from middle to first second = (first.0 ++ second.0, walk-join (IsPositiveEdge rows weights) first.0 second.0 from middle to first.1 second.1)

-- what an end state leads to is a sink
pub end_is_sink : (rows : List (List EdgeData)) (weights : List ℕ) (table : List (List Bool)) (state : ℕ) → IsGraph rows → IsTable table → AreLeads rows weights table
    → state < length rows → IsEnd weights table state → IsSink rows weights (led_states table state)
end_is_sink rows weights table state graph square known inside end =
    let size = known.size in
    let states = led_states table state in
    let here = led_listed rows weights table state state known inside inside ([], refl) in
    let there : (s : ℕ) → Contains states s → (s < length rows) × IsLedTo rows weights state s = λ s listed. listed_led rows weights table state s square known inside listed in
    let back : (s : ℕ) → Contains states s → IsLedTo rows weights s state =
    λ s listed.
    let s_in = (there s listed).0 in
    (known.each s state s_in inside).0 (end.closed s (omega (arith, s_in, size)) (listed_marked (marks_of table state) s listed)) in
    record {
      some = omega (arith, here.1);
      order = filter_ascends (is_marked (marks_of table state)) 0 (length (marks_of table state));
      positive = λ k d k_in.
          let listed = Contains-get_or states k d k_in in
          let led = there (get_or states k d) listed in
          (led.0, led_positive rows weights led.1.0 state (get_or states k d) led.1.1 end.positive);
      closed = λ from block to listed edge.
          let led = there from listed in
          let to_in = target_of rows from block to graph led.0 edge.0 in
          led_listed rows weights table state to known inside to_in
          (led.1.0 ++ block ∷ [], walk-more (IsPositiveEdge rows weights) led.1.0 block state from to led.1.1 edge);
      joined = λ from to from_listed to_listed. led_on rows weights from state to (back from from_listed) (there to to_listed).1;
    }

-- the first state of a sink is an end state that leads to the sink
pub record IsOfEnd (rows : List (List EdgeData)) (weights : List ℕ) (table : List (List Bool)) (others : List ℕ) : Type 0 where
  pub inside : slice_index others 0 < length rows
  pub end : IsEnd weights table (slice_index others 0)
  pub same : others ≡ led_states table (slice_index others 0)

pub sink_is_of_end : (rows : List (List EdgeData)) (weights : List ℕ) (table : List (List Bool)) (others : List ℕ) → IsTable table → AreLeads rows weights table
    → IsSink rows weights others → IsOfEnd rows weights table others
sink_is_of_end rows weights table others square known sink =
    let size = known.size in
    let first = slice_index others 0 in
    let here : Contains others first = Contains-get_or others 0 0 sink.some in
    let each : (s : ℕ) → Contains others s → (s < length rows) × (0 < get_or weights s 0) =
    λ s found. All-contains (λ s. (s < length rows) × (0 < slice_index weights s)) others s sink.positive found in
    let inside = (each first here).0 in
    let stays : (s : ℕ) → IsLedTo rows weights first s → Contains others s = λ s led. stays_in rows weights others led.0 first s sink here led.1 in
    record {
      inside = inside;
      end = record {
        positive = (each first here).1;
        closed = λ to to_in marked.
            let to_row : to < length rows = omega (arith, to_in, size) in
            let listed = stays to ((known.each first to inside to_row).0 marked) in
            (known.each to first to_row inside).1 (sink.joined to first listed here);
      };
      same = ascending_same others (led_states table first) sink.order (filter_ascends (is_marked (marks_of table first)) 0 (length (marks_of table first)))
          (λ s found. led_listed rows weights table first s known inside (each s found).0 (sink.joined first s here found))
          (λ s listed. stays s (listed_led rows weights table first s square known inside listed).1);
    }

-- the first item of an ascending list is none of the others' greater
first_least : (xs : List ℕ) (x : ℕ) → IsAscending (λ s t. s < t) xs → Contains xs x → slice_index xs 0 ≤ x
first_least [] x order found = absurd (omega (arith, found.1))
first_least (y ∷ []) x order found =
    let place : found.0 ≡ 0 = omega (arith, found.1) in
    let same : y ≡ x = subst (λ k. get_or (y ∷ []) k x ≡ x) place found.2 in
    omega (arith, same)
first_least (y ∷ z ∷ xs) x order (zero, inside, is) = let same : y ≡ x = is in omega (arith, same)
first_least (y ∷ z ∷ xs) x order (suc k, inside, is) =
    let rest : z ≤ x = first_least (z ∷ xs) x order.1 (k, omega (arith, inside), is) in
    omega (arith, rest, order.0)

-- the lightest end state leads to the least sink
pub lightest_is_least : (rows : List (List EdgeData)) (weights : List ℕ) (table : List (List Bool)) (state : ℕ) → IsGraph rows → IsTable table
    → AreLeads rows weights table → IsLightest weights table (length table) state → IsLeastSink rows weights (led_states table state)
lightest_is_least rows weights table state graph square known lightest =
    let size = known.size in
    let inside : state < length rows = (let below = lightest.inside in omega (arith, below, size)) in
    let sink = end_is_sink rows weights table state graph square known inside lightest.end in
    let here = led_listed rows weights table state state known inside inside ([], refl) in
    let first = first_least (led_states table state) state sink.order here in
    record {
      sink = sink;
      least = λ others other.
          let end = sink_is_of_end rows weights table others square known other in
          let total : total_from weights table (slice_index others 0) ≡ total_weight weights others = ap (total_weight weights) (sym end.same) in
          elim (lightest.least (slice_index others 0) (let below = end.inside in omega (arith, below, size)) end.end) [
            | inl less ↦ inl (omega (arith, less, total))
            | inr both ↦ inr (both.0 ∙ total, omega (arith, first, both.1))
          ];
    }

-- marks of which each stands in the other list too are no more than those
bit : Bool → ℕ
bit b = cond b 1 0

bit_le : (m n : Bool) → (n ≡ true → m ≡ true) → cond {A = ℕ} n 1 0 ≤ cond m 1 0
bit_le true true part = omega arith
bit_le true false part = omega arith
bit_le false true part = absurd (false≢true (part refl))
bit_le false false part = omega arith

count-cons : (m : Bool) (ms : List Bool) → count_by (λ mark. mark) (m ∷ ms) ≡ cond m 1 0 + count_by (λ mark. mark) ms
count-cons m ms = sum_by-cons (λ (mark : Bool). cond {A = ℕ} mark 1 0) m ms

no_more : (ms ns : List Bool) → length ns ≡ length ms → ((t : ℕ) → get_or ns t false ≡ true → get_or ms t false ≡ true)
    → count_by (λ mark. mark) ns ≤ count_by (λ mark. mark) ms
no_more [] [] size part = omega arith
no_more [] (n ∷ ns) size part = absurd (omega (arith, size))
no_more (m ∷ ms) [] size part = absurd (omega (arith, size))
no_more (m ∷ ms) (n ∷ ns) size part =
    let rest = no_more ms ns (omega (arith, size)) (λ t. part (suc t)) in
    let here = bit_le m n (part 0) in
    let one = count-cons m ms in
    let other = count-cons n ns in
    omega (arith, rest, here, one, other)

fewer : (ms ns : List Bool) (s : ℕ) → length ns ≡ length ms → ((t : ℕ) → get_or ns t false ≡ true → get_or ms t false ≡ true)
    → get_or ms s false ≡ true → get_or ns s false ≡ false → count_by (λ mark. mark) ns < count_by (λ mark. mark) ms
fewer [] ns s size part marked fails = absurd (false≢true marked)
fewer (m ∷ ms) [] s size part marked fails = absurd (omega (arith, size))
fewer (m ∷ ms) (n ∷ ns) zero size part marked fails =
    let rest = no_more ms ns (omega (arith, size)) (λ t. part (suc t)) in
    let one = count-cons m ms in
    let other = count-cons n ns in
    let up : cond {A = ℕ} m 1 0 ≡ 1 = ap (λ (b : Bool). cond {A = ℕ} b 1 0) marked in
    let down : cond {A = ℕ} n 1 0 ≡ 0 = ap (λ (b : Bool). cond {A = ℕ} b 1 0) fails in
    omega (arith, rest, one, other, up, down)
fewer (m ∷ ms) (n ∷ ns) (suc s) size part marked fails =
    let rest = fewer ms ns s (omega (arith, size)) (λ t. part (suc t)) marked fails in
    let here = bit_le m n (part 0) in
    let one = count-cons m ms in
    let other = count-cons n ns in
    omega (arith, rest, here, one, other)

-- a state that does not lead back
abbrev HasEscape : List (List Bool) → ℕ → ℕ → Type 0
HasEscape table from n = (to : ℕ) × (to < n) × (leads table from to ≡ true) × (leads table to from ≡ false)

closed_by : (table : List (List Bool)) (from n : ℕ)
    → ((to : ℕ) → to < n → leads table from to ≡ true → leads table to from ≡ true) ⊎ HasEscape table from n
closed_by table from zero = inl (λ to inside marked. absurd (omega (arith, inside)))
closed_by table from (suc n) = elim (closed_by table from n) [
  | inr escape ↦ inr (escape.0, omega (arith, escape.1), escape.2, escape.3)
  | inl closed ↦ elim (cases_Bool (leads table n from)) [
    | inl back ↦ inl (λ to inside marked. elim (cases_lt to n) [
      | inl low ↦ closed to low marked
      | inr high ↦ (let last : n ≡ to = omega (arith, inside, high) in subst (λ t. leads table t from ≡ true) last back)
    ])
    | inr none ↦ elim (cases_Bool (leads table from n)) [
      | inl there ↦ inr (n, omega arith, there, none)
      | inr nowhere ↦ inl (λ to inside marked. elim (cases_lt to n) [
        | inl low ↦ closed to low marked
        | inr high ↦ (
            let last : to ≡ n = omega (arith, inside, high) in
            absurd (false≢true (sym nowhere ∙ subst (λ t. leads table from t ≡ true) last marked)))
      ])
    ]
  ]
]

-- from each state of positive weight one comes to an end state
end_from : (rows : List (List EdgeData)) (weights : List ℕ) (table : List (List Bool)) → IsTable table → AreLeads rows weights table
    → (bound state : ℕ) → count_by (λ mark. mark) (marks_of table state) < bound → state < length rows → 0 < get_or weights state 0
    → (end : ℕ) × (end < length table) × IsEnd weights table end
end_from rows weights table square known zero state less inside positive = absurd (omega (arith, less))
end_from rows weights table square known (suc bound) state less inside positive =
    let size = known.size in
    elim (closed_by table state (length table)) [
      | inl closed ↦ (state, omega (arith, inside, size), record { positive = positive; closed = closed })
      | inr escape ↦ (
          let next = escape.0 in
          let next_in : next < length rows = (let below = escape.1 in omega (arith, below, size)) in
          let led = (known.each state next inside next_in).0 escape.2 in
          let wide : length (marks_of table state) ≡ length table = square.square state [] (omega (arith, inside, size)) in
          let next_wide : length (marks_of table next) ≡ length table = square.square next [] (omega (arith, next_in, size)) in
          let down = fewer (marks_of table state) (marks_of table next) state (next_wide ∙ sym wide)
          (λ t marked.
          let t_in : t < length rows = (let below = marked_inside (marks_of table next) t marked in omega (arith, below, next_wide, size)) in
          (known.each state t inside t_in).1 (led_on rows weights state next t led ((known.each next t next_in t_in).0 marked)))
          ((known.each state state inside inside).1 ([], refl)) escape.3 in
          end_from rows weights table square known bound next (omega (arith, down, less)) next_in (led_positive rows weights led.0 state next led.1 positive))
    ]

-- so there is one
pub some_end : (rows : List (List EdgeData)) (weights : List ℕ) (table : List (List Bool)) → IsTable table → AreLeads rows weights table
    → length weights ≡ length rows → IsNonzero weights → (end : ℕ) × (end < length table) × IsEnd weights table end
some_end rows weights table square known sizes nonzero =
    let state = nonzero.0 in
    let inside : state < length rows = elim (cases_lt state (length weights)) [
      | inl below ↦ omega (arith, below, sizes)
      | inr past ↦ absurd (let none = get_or_past weights state 0 past in let some = nonzero.1 in omega (arith, none, some))
    ] in
    end_from rows weights table square known (suc (count_by (λ mark. mark) (marks_of table state))) state (omega arith) inside nonzero.1
