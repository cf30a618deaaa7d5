-- The longest walk of pairs, and the least pair on a cycle, tell the memory.
use Rattle.std.proofs.Common.{◌≡◌, ◌≢◌, ℕ, zero, suc, ◌+◌, ◌*◌, ◌/◌, ◌%◌, ◌^◌, ◌<◌, ◌≤◌, ◌⊎◌, List, [], ◌∷◌, ◌++◌, length, length-append, get_or, set, replicate, cond, Less, Equal, Greater, lt-ltb, le-ltb, Bool, true, false, Option, Some, None, inl, inr, refl, ap, sym, ◌∙◌, subst, arith}
use Rattle.std.specs.Prelude.{nat_eq, nat_lt, unwrap_or}
use Rattle.std.specs.Ordering.{nat_cmp, ord_max, is_lt}
use Rattle.std.proofs.lemmas.Option.{none-some}
use Rattle.std.proofs.lemmas.Bool.{cases_eq, cases_lt, cases_order, true≢false}
use Rattle.std.proofs.lemmas.List.{get_or_append_left, get_or_push, get_or-set_same, get_or-set_other, get_or_past, length-replicate}
use Rattle.std.proofs.lemmas.Nat.{div-mul-add, mod-mul-add, div-add-mod', mul-add-lt}
use Rattle.std.proofs.Math.Nat.{mul-le-mul_right}
use Rattle.symbol_base.specs.Walk.{IsWalk}
use Rattle.symbol_base.specs.Word.{IsBefore}
use Rattle.symbol_base.proofs.Walks.{walk-join}
use Rattle.label_graphs.specs.Graph.{EdgeData, HasEdge, IsGraph}
use Rattle.label_graphs.specs.Memory.{EndTogether, IsMemory, ReadBack, IsLeastReadBack}
use Rattle.least_walks.specs.LeastWalk.{IsLeastWalk}
use Rattle.min_cover.specs.inside.Pairs.{pair_count, pair_step, Leads, HasWalk, IsOnCycle}
use Rattle.min_cover.specs.inside.Finishing.{number_at, IsOrder}
use Rattle.min_cover.specs.inside.Order.{IsAbove, IsLongest, NoneSpans, AreSpanned, IsLeastBack}
use Rattle.min_cover.proofs.CoverMemory.{one_end}
use Rattle.min_cover.proofs.Pigeons.{pigeons}
use Rattle.min_cover.proofs.PairLaws.{IsSingle, step_parts, states_inside, walks_of_pairs, pairs_of_walks}

-- an order has no more places than there are numbers
pub order_size : (step : ℕ → ℕ → Option ℕ) (count : ℕ) (finished places : List ℕ) (cyclic : Bool) → IsOrder step count finished places cyclic
    → length finished ≤ count
order_size step count finished places cyclic order = elim (cases_lt count (length finished)) [
  | inl more ↦ absurd (pigeons count (λ i. number_at finished i) (λ i i_in. (order.listed i (omega (arith, i_in, more))).0)
      (λ i j less j_in same.
      let first = (order.listed i (omega (arith, less, j_in, more))).1 in
      let second = (order.listed j (omega (arith, j_in, more))).1 in
      omega (arith, less, sym first ∙ ap (λ p. number_at places p) same ∙ second)))
  | inr most ↦ most
]

-- a shorter walk begins where a walk does
pub walk_cut : (step : ℕ → ℕ → Option ℕ) (m : ℕ) (word : List ℕ) (here there : ℕ) → IsWalk (Leads step) here word there → m ≤ length word
    → HasWalk step here m
walk_cut step zero word here there walk most = ([], here, refl, refl)
walk_cut step (suc m) [] here there walk most = absurd (omega (arith, most))
walk_cut step (suc m) (symbol ∷ word) here there walk most =
    let rest = walk_cut step m word walk.0 there walk.2 (omega (arith, most)) in
    (symbol ∷ rest.0, rest.1, ap suc rest.2, (walk.0, walk.1, rest.3))

repeated : (step : ℕ → ℕ → Option ℕ) (here : ℕ) → IsOnCycle step here → (m : ℕ)
    → (word : List ℕ) × (m ≤ length word) × IsWalk (Leads step) here word here
repeated step here back zero = ([], omega arith, refl)
repeated step here back (suc m) =
    let rest = repeated step here back m in
    (back.0 ++ rest.0, omega (arith, back.1, rest.1, length-append back.0 rest.0), walk-join (Leads step) back.0 rest.0 here here here back.2 rest.2)

-- from a cycle walks of every length begin
pub cycle_walks : (step : ℕ → ℕ → Option ℕ) (here : ℕ) → IsOnCycle step here → (m : ℕ) → HasWalk step here m
cycle_walks step here back m = let long = repeated step here back m in walk_cut step m long.0 here here long.2 long.1

-- where the longest walks of all that symbols lead to are known
longest_here : (step : ℕ → ℕ → Option ℕ) (values : List ℕ) (here above : ℕ) → IsAbove step values here above
    → ((symbol there : ℕ) → Leads step here symbol there → IsLongest step there (number_at values there)) → IsLongest step here above
longest_here step values here above is known = record {
  has = elim is.some [
    | inl none ↦ ([], here, sym none, refl)
    | inr some ↦ (
        let walk = (known some.0 some.1 some.2).has in
        (some.0 ∷ walk.0, walk.1, (let size = walk.2 in let more = some.3 in omega (arith, size, more)), (some.1, some.2, walk.3)))
  ];
  most = most_here;
}
  where
    most_here : (word : List ℕ) (there : ℕ) → IsWalk (Leads step) here word there → length word ≤ above
    most_here [] there walk = omega arith
    most_here (symbol ∷ word) there walk =
        let less = is.all symbol walk.0 walk.1 in
        let most = (known symbol walk.0 walk.1).most word there walk.2 in
        omega (arith, less, most)

-- the longest walk from the next pair of the order is known
pub longest_more : (step : ℕ → ℕ → Option ℕ) (count : ℕ) (finished places longest : List ℕ) (place above : ℕ) → IsOrder step count finished places false
    → ((p symbol q : ℕ) → p < count → Leads step p symbol q → q < count) → place < length finished → length longest ≡ count
    → ((i : ℕ) → i < place → IsLongest step (number_at finished i) (number_at longest (number_at finished i)))
    → IsAbove step longest (number_at finished place) above
    → (i : ℕ) → i < place + 1 → IsLongest step (number_at finished i) (number_at (set longest (number_at finished place) above) (number_at finished i))
longest_more step count finished places longest place above order closed place_in size known is i i_in =
    let here = number_at finished place in
    let at = order.listed place place_in in
    let new = set longest here above in
    let here_in : here < length longest = omega (arith, size, at.0) in
    elim (cases_lt i place) [
      | inl before ↦ (
          let other : number_at finished i ≢ here = λ same.
          omega (arith, before, sym (order.listed i (omega (arith, before, place_in))).1 ∙ ap (λ p. number_at places p) same ∙ at.1) in
          subst (λ d. IsLongest step (number_at finished i) d) (sym (get_or-set_other longest here (number_at finished i) above 0 other)) (known i before))
      | inr after ↦ (
          let last : place ≡ i = omega (arith, after, i_in) in
          let this : IsLongest step here (number_at new here) =
          subst (λ d. IsLongest step here d) (sym (get_or-set_same longest here above 0 here_in))
          (longest_here step longest here above is
          (λ symbol there leads.
          let there_in = closed here symbol there at.0 leads in
          let below = order.falls refl here symbol there at.0 leads in
          let found = order.counted there there_in in
          subst (λ q. IsLongest step q (number_at longest q)) found.1 (known (number_at places there) (omega (arith, below, at.1))))) in
          subst (λ i. IsLongest step (number_at finished i) (number_at new (number_at finished i))) last this)
    ]

module _ (rows : List (List EdgeData)) (graph : IsGraph rows) where
  -- walks with one word of a length that some walk of pairs has don't all end together
  pub not_together : (p m : ℕ) → p < pair_count rows → p / length rows ≢ p % length rows → HasWalk (pair_step rows) p m
      → EndTogether (length rows) (HasEdge rows) m → ⊥
  not_together p m p_in apart walk together =
      let n = length rows in
      let states = states_inside n p p_in in
      let both = walks_of_pairs rows graph walk.0 p walk.1 p_in apart walk.3 in
      both.2 (together walk.0 (p / n) (walk.1 / n) (p % n) (walk.1 % n) walk.2 states.0 states.1 both.0 both.1)

  -- the memory is one more than the longest walk of pairs
  pub memory_is : IsSingle rows → (longest : List ℕ) (memory : ℕ)
      → ((p : ℕ) → p < pair_count rows → IsLongest (pair_step rows) p (number_at longest p))
      → ((p : ℕ) → p < pair_count rows → p / length rows ≢ p % length rows → number_at longest p < memory)
      → (memory ≡ 0) ⊎ ((p : ℕ) × (p < pair_count rows) × (p / length rows ≢ p % length rows) × (number_at longest p + 1 ≡ memory))
      → IsMemory (length rows) (HasEdge rows) memory
  memory_is single longest memory known all some =
      let n = length rows in
      record {
        together = λ word u x v y size u_in v_in first second. elim (cases_eq x y) [
          | inl same ↦ same
          | inr apart ↦ (
              let p = u * n + v in
              let before : u ≢ v = λ same. apart (one_end (HasEdge rows) single word u x y first (subst (λ t. IsWalk (HasEdge rows) t word y) (sym same) second)) in
              let quotient : p / n ≡ u = div-mul-add u n v v_in in
              let rest : p % n ≡ v = mod-mul-add u n v v_in in
              let p_in = mul-add-lt u n v n u_in v_in in
              let less = all p p_in (λ same. before (sym quotient ∙ same ∙ rest)) in
              let most = (known p p_in).most word (x * n + y) (pairs_of_walks rows graph single word u v x y u_in v_in apart first second) in
              absurd (omega (arith, less, most, size)))
        ];
        least = λ m less together. elim some [
          | inl none ↦ absurd (omega (arith, less, none))
          | inr pair ↦ (
              let long = (known pair.0 pair.1).has in
              let cut = walk_cut (pair_step rows) m long.0 pair.0 long.1 long.3 (let size = long.2 in let next = pair.3 in omega (arith, size, next, less)) in
              not_together pair.0 m pair.1 pair.2 cut together)
        ];
      }

  -- a pair on a cycle is one of different states
  pub cycle_apart : (p : ℕ) → IsOnCycle (pair_step rows) p → p / length rows ≢ p % length rows
  cycle_apart p back = first_apart back.0 back.1 back.2
    where
      first_apart : (word : List ℕ) → 0 < length word → IsWalk (Leads (pair_step rows)) p word p → p / length rows ≢ p % length rows
      first_apart [] some walk = absurd (omega (arith, some))
      first_apart (symbol ∷ word) some walk = (step_parts rows p symbol walk.0 walk.1).0

  -- where a pair lies on a cycle no length is enough
  pub cycle_together : (p : ℕ) → p < pair_count rows → IsOnCycle (pair_step rows) p → (m : ℕ) → EndTogether (length rows) (HasEdge rows) m → ⊥
  cycle_together p p_in back m together = not_together p m p_in (cycle_apart p back) (cycle_walks (pair_step rows) p back m) together

  -- two states that read one word back are a pair on a cycle
  pub read_cycle : IsSingle rows → (u v : ℕ) (word : List ℕ) → u < length rows → v < length rows → u ≢ v → ReadBack (HasEdge rows) u v word
      → IsWalk (Leads (pair_step rows)) (u * length rows + v) word (u * length rows + v)
  read_cycle single u v word u_in v_in apart back = pairs_of_walks rows graph single word u v u v u_in v_in apart back.first back.second

  -- and a pair on a cycle is two states that read one word back
  pub cycle_read : (p : ℕ) → p < pair_count rows → (word : List ℕ) → 0 < length word → IsWalk (Leads (pair_step rows)) p word p
      → ReadBack (HasEdge rows) (p / length rows) (p % length rows) word
  cycle_read p p_in word some walk =
      let both = walks_of_pairs rows graph word p p p_in (cycle_apart p (word, some, walk)) walk in
      record { some = some; first = both.0; second = both.1 }

  -- the same pair the other way round lies on a cycle too
  pub cycle_turned : IsSingle rows → (p : ℕ) → p < pair_count rows → IsOnCycle (pair_step rows) p
      → IsOnCycle (pair_step rows) (p % length rows * length rows + p / length rows)
  cycle_turned single p p_in back =
      let n = length rows in
      let states = states_inside n p p_in in
      let read = cycle_read p p_in back.0 back.1 back.2 in
      let apart = cycle_apart p back in (
        back.0,
        back.1,
        read_cycle single (p % n) (p / n) back.0 states.1 states.0 (λ same. apart (sym same))
            (record { some = back.1; first = read.second; second = read.first }),
      )

  -- the least pair on a cycle with its least word is the least one that reads a word back
  pub least_read : IsSingle rows → (p : ℕ) (word : List ℕ) → p < pair_count rows → p / length rows < p % length rows → IsLeastBack (pair_step rows) p word
      → ((q : ℕ) → q < p → q / length rows < q % length rows → IsOnCycle (pair_step rows) q → ⊥)
      → IsLeastReadBack (length rows) (HasEdge rows) (p / length rows) (p % length rows) word
  least_read single p word p_in less is none =
      let n = length rows in
      let u = p / n in
      let v = p % n in
      let states = states_inside n p p_in in
      let whole : u * n + v ≡ p = div-add-mod' p n in
      record {
        order = less;
        inside = states.1;
        back = cycle_read p p_in word is.some is.walk;
        least_word = λ other back.
            is.least other back.some
            (subst (λ q. IsWalk (Leads (pair_step rows)) q other q) whole (read_cycle single u v other states.0 states.1 (λ same. omega (arith, less, same)) back));
        least_pair = λ x y other x_less y_in back.
            let x_in : x < n = omega (arith, x_less, y_in) in
            let q = x * n + y in
            let quotient : q / n ≡ x = div-mul-add x n y y_in in
            let rest : q % n ≡ y = mod-mul-add x n y y_in in
            let walk = read_cycle single x y other x_in y_in (λ same. omega (arith, x_less, same)) back in
            let later : p ≤ q = elim (cases_lt q p) [
              | inl before ↦ absurd (none q before (subst (λ a. a < q % n) (sym quotient) (subst (λ b. x < b) (sym rest) x_less)) (other, back.some, walk))
              | inr after ↦ after
            ] in
            elim (cases_order u x) [
              | inl same ↦ inr (same, (let front : u * n ≡ x * n = ap (λ a. a * n) same in omega (arith, front, whole, later)))
              | inr apart ↦ elim apart [
                | inl before ↦ inl before
                | inr after ↦ (
                    let front : (x + 1) * n ≤ u * n = mul-le-mul_right n (omega (arith, after)) in
                    absurd (omega (arith, front, whole, later, y_in)))
              ]
            ];
      }

-- a walk from a place that no arc spans comes to lower places
walk_below : (step : ℕ → ℕ → Option ℕ) (count : ℕ) (finished places : List ℕ) (cyclic : Bool) → IsOrder step count finished places cyclic
    → ((p symbol q : ℕ) → p < count → Leads step p symbol q → q < count) → (k : ℕ) → NoneSpans step finished places k
    → (word : List ℕ) (symbol p q : ℕ) → p < count → number_at places p ≤ k → IsWalk (Leads step) p (symbol ∷ word) q → number_at places q < k
walk_below step count finished places cyclic order closed k none [] symbol p q p_in low walk =
    let at = order.counted p p_in in
    let next = none (number_at places p) symbol walk.0 low at.0 (subst (λ r. Leads step r symbol walk.0) (sym at.1) walk.1) in
    subst (λ r. number_at places r < k) walk.2 next
walk_below step count finished places cyclic order closed k none (more ∷ word) symbol p q p_in low walk =
    let at = order.counted p p_in in
    let next = none (number_at places p) symbol walk.0 low at.0 (subst (λ r. Leads step r symbol walk.0) (sym at.1) walk.1) in
    walk_below step count finished places cyclic order closed k none word more walk.0 q (closed p symbol walk.0 p_in walk.1) (omega (arith, next)) walk.2

-- a pair at a place that no arc spans lies on no cycle
pub unspanned : (step : ℕ → ℕ → Option ℕ) (count : ℕ) (finished places : List ℕ) (cyclic : Bool) → IsOrder step count finished places cyclic
    → ((p symbol q : ℕ) → p < count → Leads step p symbol q → q < count) → (p : ℕ) → p < count → NoneSpans step finished places (number_at places p)
    → IsOnCycle step p → ⊥
unspanned step count finished places cyclic order closed p p_in none back = go back.0 back.1 back.2
  where
    go : (word : List ℕ) → 0 < length word → IsWalk (Leads step) p word p → ⊥
    go [] some walk = omega (arith, some)
    go (symbol ∷ word) some walk =
        let less = walk_below step count finished places cyclic order closed (number_at places p) none word symbol p p p_in (omega arith) walk in
        omega (arith, less)

-- one more place is looked at
pub spanned_more : (step : ℕ → ℕ → Option ℕ) (finished places : List ℕ) (spanned : List Bool) (mark : Bool) (place end end' above : ℕ)
    → length spanned ≡ place → IsAbove step places (number_at finished place) above → end ≤ end' → above ≤ end' → (mark ≡ false → end' ≤ place)
    → ((i symbol there : ℕ) → i < place → Leads step (number_at finished i) symbol there → number_at places there < end)
    → AreSpanned step finished places spanned
    → ((i symbol there : ℕ) → i < place + 1 → Leads step (number_at finished i) symbol there → number_at places there < end')
    × AreSpanned step finished places (spanned ++ mark ∷ [])
spanned_more step finished places spanned mark place end end' above size is grows above_in fits far known =
    let longer : length (spanned ++ mark ∷ []) ≡ length spanned + 1 = length-append spanned (mark ∷ []) in
    let far' : (i symbol there : ℕ) → i < place + 1 → Leads step (number_at finished i) symbol there → number_at places there < end' =
    λ i symbol there i_in leads. elim (cases_lt i place) [
      | inl before ↦ (let less = far i symbol there before leads in omega (arith, less, grows))
      | inr after ↦ (
          let last : i ≡ place = omega (arith, after, i_in) in
          let less = is.all symbol there (subst (λ i. Leads step (number_at finished i) symbol there) last leads) in
          omega (arith, less, above_in))
    ] in (
      far',
      λ at at_in unmarked i symbol there i_low i_in leads. elim (cases_lt at (length spanned)) [
        | inl before ↦ known at before (sym (get_or_append_left spanned (mark ∷ []) false at before) ∙ unmarked) i symbol there i_low i_in leads
        | inr after ↦ (
            let last : length spanned ≡ at = omega (arith, after, at_in, longer) in
            let is_false : mark ≡ false = sym (get_or_push spanned mark false at last) ∙ unmarked in
            let top = fits is_false in
            let less = far' i symbol there (omega (arith, i_low, last, size)) leads in
            omega (arith, less, top, last, size))
      ],
    )

max_by : (s t : Bool) (a b : ℕ) → cond (is_lt (cond s Less (cond t Equal Greater))) a b ≡ cond s a b
max_by true t a b = refl
max_by false true a b = refl
max_by false false a b = refl

-- the greater of two numbers is at least both, and one of them
pub max_is : (a b r : ℕ) → r ≡ ord_max nat_cmp a b → (a ≤ r) × (b ≤ r) × ((r ≡ a) ⊎ (r ≡ b))
max_is a b r is =
    let whole : r ≡ cond (nat_lt b a) a b = is ∙ max_by (nat_lt b a) (nat_eq b a) a b in
    elim (cases_lt b a) [
      | inl less ↦ (let at : r ≡ a = whole ∙ ap (λ t. cond t a b) (lt-ltb b a less) in (omega (arith, at), omega (arith, at, less), inl at))
      | inr most ↦ (let at : r ≡ b = whole ∙ ap (λ t. cond t a b) (le-ltb b a most) in (omega (arith, at, most), omega (arith, at), inr at))
    ]

-- the values up to one more symbol are below the greater bound
pub above_more : (step : ℕ → ℕ → Option ℕ) (values : List ℕ) (here symbol to above above' value : ℕ) → Leads step here symbol to → value ≡ number_at values to
    → above' ≡ ord_max nat_cmp above (value + 1)
    → ((s t : ℕ) → s < symbol → Leads step here s t → number_at values t < above)
    → (above ≡ 0) ⊎ ((s : ℕ) × (t : ℕ) × Leads step here s t × (number_at values t + 1 ≡ above))
    → ((s t : ℕ) → s < symbol + 1 → Leads step here s t → number_at values t < above')
    × ((above' ≡ 0) ⊎ ((s : ℕ) × (t : ℕ) × Leads step here s t × (number_at values t + 1 ≡ above')))
above_more step values here symbol to above above' value leads value_is is all some =
    let top = max_is above (value + 1) above' is in (
      λ s t s_in there. elim (cases_lt s symbol) [
        | inl before ↦ (let less = all s t before there in omega (arith, less, top.0))
        | inr after ↦ (
            let same : s ≡ symbol = omega (arith, s_in, after) in
            let to_is : to ≡ t = value_is_of to t (sym leads ∙ ap (λ a. step here a) (sym same) ∙ there) in
            omega (arith, top.1, value_is, ap (λ q. number_at values q) to_is))
      ],
      elim top.2 [
        | inl old ↦ elim some [
          | inl none ↦ inl (old ∙ none)
          | inr found ↦ inr (found.0, found.1, found.2, found.3 ∙ sym old)
        ]
        | inr new ↦ inr (symbol, to, leads, (let v = value_is in omega (arith, new, v)))
      ],
    )
  where
    value_is_of : (x y : ℕ) → ◌≡◌ {A = Option ℕ} (Some x) (Some y) → x ≡ y
    value_is_of x y same = ap (λ o. unwrap_or o 0) same

-- no values below a symbol that leads nowhere are new
pub above_same : (step : ℕ → ℕ → Option ℕ) (values : List ℕ) (here symbol above above' : ℕ) → None ≡ step here symbol → above' ≡ above
    → ((s t : ℕ) → s < symbol → Leads step here s t → number_at values t < above)
    → (s t : ℕ) → s < symbol + 1 → Leads step here s t → number_at values t < above'
above_same step values here symbol above above' none same all s t s_in there = elim (cases_eq s symbol) [
  | inl this ↦ absurd (none-some t (none ∙ ap (λ a. step here a) (sym this) ∙ there))
  | inr other ↦ (let less = all s t (omega (arith, s_in, other)) there in omega (arith, less, same))
]

-- the places of an order are small numbers
pub places_small : (step : ℕ → ℕ → Option ℕ) (count : ℕ) (finished places : List ℕ) (cyclic : Bool) → IsOrder step count finished places cyclic → count ≤ 65536
    → (q : ℕ) → number_at places q < 2 ^ 32
places_small step count finished places cyclic order few q = elim (cases_lt q count) [
  | inl inside ↦ (
      let at = (order.counted q inside).0 in
      let size = order_size step count finished places cyclic order in
      omega (arith, at, size, few))
  | inr outside ↦ (
      let none : number_at places q ≡ 0 = get_or_past places q 0 (let size = order.placed in omega (arith, size, outside)) in
      omega (arith, none))
]

-- labels of a walk are symbols
pub walk_labels : (step : ℕ → ℕ → Option ℕ) (bound : ℕ) → ((p symbol q : ℕ) → Leads step p symbol q → symbol < bound) → (word : List ℕ) (here there : ℕ)
    → IsWalk (Leads step) here word there → (k d : ℕ) → k < length word → get_or word k d < bound
walk_labels step bound below [] here there walk k d k_in = absurd (omega (arith, k_in))
walk_labels step bound below (symbol ∷ word) here there walk zero d k_in = below here symbol walk.0 walk.1
walk_labels step bound below (symbol ∷ word) here there walk (suc k) d k_in = walk_labels step bound below word walk.0 there walk.2 k d (omega (arith, k_in))

-- the only goal is the start
goal_is : (count here v : ℕ) → get_or (set (replicate count false) here true) v false ≡ true → v ≡ here
goal_is count here v marked = elim (cases_eq v here) [
  | inl same ↦ same
  | inr other ↦ absurd (true≢false (sym marked ∙ get_or-set_other (replicate count false) here v true false other ∙ get_or_replicate count v))
]
  where
    get_or_replicate : (n i : ℕ) → get_or (replicate n false) i false ≡ false
    get_or_replicate zero i = refl
    get_or_replicate (suc n) zero = refl
    get_or_replicate (suc n) (suc i) = get_or_replicate n i

-- the least walk back to the only goal
pub least_back : (step : ℕ → ℕ → Option ℕ) (count here : ℕ) (goals : List Bool) (word : List ℕ) → here < count → goals ≡ set (replicate count false) here true
    → IsLeastWalk (record { nodes = count; arc = Leads step }) goals here word → IsLeastBack step here word
least_back step count here goals word here_in goals_are is =
    let there : is.goal ≡ here = goal_is count here is.goal (ap (λ g. get_or g is.goal false) (sym goals_are) ∙ is.reached) in
    let marked : get_or goals here false ≡ true =
    ap (λ g. get_or g here false) goals_are ∙ get_or-set_same (replicate count false) here true false (omega (arith, length-replicate count false, here_in)) in
    record {
      some = is.some;
      walk = subst (λ t. IsWalk (Leads step) here word t) there is.walk;
      least = λ other other_some walk. least_of other other_some walk marked;
    }
  where
    least_of : (other : List ℕ) → 0 < length other → IsWalk (Leads step) here other here → get_or goals here false ≡ true → (word ≡ other) ⊎ IsBefore word other
    least_of [] other_some walk marked = absurd (omega (arith, other_some))
    least_of (label ∷ others) other_some walk marked = is.least label others here walk marked

-- no walk to the only goal is no cycle
pub none_back : (step : ℕ → ℕ → Option ℕ) (count here : ℕ) (goals : List Bool) → here < count → goals ≡ set (replicate count false) here true
    → ((label : ℕ) (others : List ℕ) (v : ℕ) → IsWalk (Leads step) here (label ∷ others) v → get_or goals v false ≡ true → ⊥) → IsOnCycle step here → ⊥
none_back step count here goals here_in goals_are none back =
    let marked : get_or goals here false ≡ true =
    ap (λ g. get_or g here false) goals_are ∙ get_or-set_same (replicate count false) here true false (omega (arith, length-replicate count false, here_in)) in
    go back.0 back.1 back.2 marked
  where
    go : (word : List ℕ) → 0 < length word → IsWalk (Leads step) here word here → get_or goals here false ≡ true → ⊥
    go [] some walk marked = omega (arith, some)
    go (label ∷ others) some walk marked = none label others here walk marked
