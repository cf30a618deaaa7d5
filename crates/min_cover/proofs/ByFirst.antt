-- Classes numbered by first members: how many there are, and that a refinement into as many changes none.
use Rattle.std.proofs.Common.{◌≡◌, ℕ, zero, suc, ◌+◌, ◌-◌, ◌<◌, ◌≤◌, inl, inr, ap, sym, ◌∙◌, subst, arith}
use Rattle.std.proofs.lemmas.Bool.{cases_order}
use Rattle.min_cover.specs.inside.Search.{IsByFirst}

-- what rises by each step stands at least as high as its place
rises_above : (g : ℕ → ℕ) (bound : ℕ) → ((i j : ℕ) → i < j → j < bound → g i < g j) → (m : ℕ) → m < bound → m ≤ g m
rises_above g bound rises zero inside = omega arith
rises_above g bound rises (suc m) inside =
    let low = rises_above g bound rises m (omega (arith, inside)) in
    let step = rises m (suc m) (omega arith) inside in
    omega (arith, low, step)

rises_by : (g : ℕ → ℕ) (bound : ℕ) → ((i j : ℕ) → i < j → j < bound → g i < g j) → (m k : ℕ) → m + k < bound → g m + k ≤ g (m + k)
rises_by g bound rises m zero inside = let same : m ≡ m + 0 = omega arith in subst (λ n. g m + 0 ≤ g n) same (omega arith)
rises_by g bound rises m (suc k) inside =
    let same : suc (m + k) ≡ m + suc k = omega arith in
    let low = rises_by g bound rises m k (omega (arith, inside)) in
    let step = rises (m + k) (suc (m + k)) (omega arith) (omega (arith, inside)) in
    subst (λ n. g m + suc k ≤ g n) same (omega (arith, low, step))

-- there are no more classes than states
pub classes_few : (count : ℕ) (class : ℕ → ℕ) (classes : ℕ) (first : ℕ → ℕ) → IsByFirst count class classes first → classes ≤ count
classes_few count class zero first firsts = omega arith
classes_few count class (suc m) first firsts =
    let low = rises_above first (suc m) firsts.ascending m (omega arith) in
    let inside = (firsts.member m (omega arith)).0 in
    omega (arith, low, inside)

-- the finer class of a class's first member begins there too
anchor : (count : ℕ) (class : ℕ → ℕ) (classes : ℕ) (first finer : ℕ → ℕ) (more : ℕ) (finest : ℕ → ℕ)
    → IsByFirst count class classes first → IsByFirst count finer more finest
    → ((p q : ℕ) → p < count → q < count → finer p ≡ finer q → class p ≡ class q)
    → (m : ℕ) → m < classes → finest (finer (first m)) ≡ first m
anchor count class classes first finer more finest one two refines m m_in =
    let q = first m in
    let here = one.member m m_in in
    let there = two.inside q here.0 in
    let p = finest (finer q) in
    let back = two.member (finer q) there.0 in
    let same : class p ≡ m = refines p q back.0 here.0 back.1 ∙ here.1 in
    let low : first m ≤ p = subst (λ n. first n ≤ p) same (one.inside p back.0).1 in
    let high = there.1 in
    omega (arith, low, high)

-- so they rise with the classes
anchors_rise : (count : ℕ) (class : ℕ → ℕ) (classes : ℕ) (first finer : ℕ → ℕ) (more : ℕ) (finest : ℕ → ℕ)
    → IsByFirst count class classes first → IsByFirst count finer more finest
    → ((p q : ℕ) → p < count → q < count → finer p ≡ finer q → class p ≡ class q)
    → (i m : ℕ) → i < m → m < classes → finer (first i) < finer (first m)
anchors_rise count class classes first finer more finest one two refines i m less m_in =
    let i_in : i < classes = omega (arith, less, m_in) in
    let low = anchor count class classes first finer more finest one two refines i i_in in
    let high = anchor count class classes first finer more finest one two refines m m_in in
    let up = one.ascending i m less m_in in
    elim (cases_order (finer (first i)) (finer (first m))) [
      | inl same ↦ absurd (let both : first i ≡ first m = sym low ∙ ap finest same ∙ high in omega (arith, both, up))
      | inr apart ↦ elim apart [
        | inl fine ↦ fine
        | inr wrong ↦ absurd (
            let down = two.ascending (finer (first m)) (finer (first i)) wrong (two.inside (first i) (one.member i i_in).0).0 in
            omega (arith, down, low, high, up))
      ]
    ]

-- a refinement has no fewer classes
pub refined_more : (count : ℕ) (class : ℕ → ℕ) (classes : ℕ) (first finer : ℕ → ℕ) (more : ℕ) (finest : ℕ → ℕ)
    → IsByFirst count class classes first → IsByFirst count finer more finest
    → ((p q : ℕ) → p < count → q < count → finer p ≡ finer q → class p ≡ class q) → classes ≤ more
refined_more count class zero first finer more finest one two refines = omega arith
refined_more count class (suc m) first finer more finest one two refines =
    let rises = anchors_rise count class (suc m) first finer more finest one two refines in
    let low = rises_above (λ n. finer (first n)) (suc m) rises m (omega arith) in
    let high = (two.inside (first m) (one.member m (omega arith)).0).0 in
    omega (arith, low, high)

fixed : (count : ℕ) (class : ℕ → ℕ) (classes : ℕ) (first finer finest : ℕ → ℕ)
    → IsByFirst count class classes first → IsByFirst count finer classes finest
    → ((p q : ℕ) → p < count → q < count → finer p ≡ finer q → class p ≡ class q)
    → (m : ℕ) → m < classes → finer (first m) ≡ m
fixed count class classes first finer finest one two refines m m_in =
    let rises = anchors_rise count class classes first finer classes finest one two refines in
    let g = λ (n : ℕ). finer (first n) in
    let k = classes - 1 - m in
    let end : m + k ≡ classes - 1 = omega (arith, m_in) in
    let end_in : m + k < classes = omega (arith, m_in, end) in
    let low = rises_above g classes rises m m_in in
    let up = rises_by g classes rises m k end_in in
    let top : g (m + k) < classes = (two.inside (first (m + k)) (one.member (m + k) end_in).0).0 in
    omega (arith, low, up, top, end, m_in)

-- a refinement into as many classes is the same
pub refined_same : (count : ℕ) (class : ℕ → ℕ) (classes : ℕ) (first finer finest : ℕ → ℕ)
    → IsByFirst count class classes first → IsByFirst count finer classes finest
    → ((p q : ℕ) → p < count → q < count → finer p ≡ finer q → class p ≡ class q)
    → (q : ℕ) → q < count → finer q ≡ class q
refined_same count class classes first finer finest one two refines q q_in =
    let n = finer q in
    let n_in = (two.inside q q_in).0 in
    let here = one.member n n_in in
    let stays = fixed count class classes first finer finest one two refines n n_in in
    sym here.1 ∙ refines (first n) q here.0 q_in stays
