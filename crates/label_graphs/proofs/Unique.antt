-- The words of a cover have no other one.
use Rattle.std.proofs.Common.{◌≡◌, ◌↔◌, ℕ, zero, suc, ◌-◌, ◌<◌, ◌≤◌, ◌⊎◌, inl, inr, List, [], ◌∷◌, ◌++◌, refl, ap, sym, ◌∙◌, subst, length, arith}
use Rattle.symbol_base.specs.Word.{IsBefore, IsSmallerAtFirst}
use Rattle.symbol_base.specs.Walk.{IsWalk}
use Rattle.symbol_base.proofs.Walks.{walk-join, walk-part}
use Rattle.label_graphs.specs.Cover.{IsReadFrom, TellsApart, IsCover}
use Rattle.label_graphs.proofs.WordOrder.{before-trans}
use Rattle.std.proofs.lemmas.Bool.{cases_order}

not_below : (v : List ℕ) → IsSmallerAtFirst v [] → ⊥
not_below [] smaller = smaller
not_below (s ∷ v) smaller = smaller

level_next :
    (n : ℕ) (R : List ℕ → Type 0) (s : ℕ) (u v : List ℕ) → length v ≡ suc n → R v → IsSmallerAtFirst v (s ∷ u)
    → ((t : ℕ) (v : List ℕ) → t < s → length v ≡ n → R (t ∷ v) → ⊥)
    → (v : List ℕ) × (length v ≡ n) × R (s ∷ v) × IsSmallerAtFirst v u
level_next n R s u [] size holds smaller lower = absurd smaller
level_next n R s u (t ∷ v) size holds (inl less) lower = absurd (lower t v less (omega (arith, size)) holds)
level_next n R s u (t ∷ v) size holds (inr both) lower =
    (v, omega (arith, size), subst (λ x. R (x ∷ v)) both.0 holds, both.1)

-- no words of one length go down for ever
level_by :
    (n : ℕ) (R : List ℕ → Type 0)
    → ((Q : List ℕ → Type 0) → ((w : List ℕ) → length w ≡ n → Q w → (v : List ℕ) × (length v ≡ n) × Q v × IsSmallerAtFirst v w)
    → (w : List ℕ) → length w ≡ n → Q w → ⊥)
    → ((w : List ℕ) → length w ≡ suc n → R w → (v : List ℕ) × (length v ≡ suc n) × R v × IsSmallerAtFirst v w)
    → (b s : ℕ) (u : List ℕ) → s < b → length u ≡ n → R (s ∷ u) → ⊥
level_by n R lower down zero s u less size holds = omega (arith, less)
level_by n R lower down (suc b) s u less size holds =
    lower (λ u. R (s ∷ u))
    (λ u size holds.
    let next = down (s ∷ u) (ap suc size) holds in
    level_next n R s u next.0 next.1 next.2 next.3
    (λ t v t_less v_size v_holds. level_by n R lower down b t v (omega (arith, t_less, less)) v_size v_holds))
    u size holds

level :
    (n : ℕ) (R : List ℕ → Type 0)
    → ((w : List ℕ) → length w ≡ n → R w → (v : List ℕ) × (length v ≡ n) × R v × IsSmallerAtFirst v w)
    → (w : List ℕ) → length w ≡ n → R w → ⊥
level zero R down [] size holds = let next = down [] refl holds in not_below next.0 next.3
level zero R down (s ∷ w) size holds = omega (arith, size)
level (suc n) R down [] size holds = omega (arith, size)
level (suc n) R down (s ∷ w) size holds =
    let tail : length w ≡ n = omega (arith, size) in
    level_by n R (level n) down (suc s) s w (omega arith) tail holds

descent_by :
    (Q : List ℕ → Type 0) (n : ℕ) → ((v : List ℕ) → length v < n → Q v → ⊥) → (w v : List ℕ) → length w ≡ n → Q v
    → IsBefore v w → (v : List ℕ) × (length v ≡ n) × Q v × IsSmallerAtFirst v w
descent_by Q n shorter w v size holds (inl less) = absurd (shorter v (omega (arith, less, size)) holds)
descent_by Q n shorter w v size holds (inr both) = (v, both.0 ∙ size, holds, both.1)

descent :
    (Q : List ℕ → Type 0) → ((w : List ℕ) → Q w → (v : List ℕ) × Q v × IsBefore v w) → (b : ℕ) (w : List ℕ) → length w < b
    → Q w → ⊥
descent Q down zero w less holds = omega (arith, less)
descent Q down (suc b) w less holds =
    level (length w) Q
    (λ u size u_holds.
    let next = down u u_holds in
    descent_by Q (length w) (λ v v_less v_holds. descent Q down b v (omega (arith, v_less, less)) v_holds) u next.0
    size next.1 next.2)
    w refl holds

-- no words go down for ever
pub no-descent :
    (Q : List ℕ → Type 0) → ((w : List ℕ) → Q w → (v : List ℕ) × Q v × IsBefore v w) → (w : List ℕ) → Q w → ⊥
no-descent Q down w holds = descent Q down (suc (length w)) w (omega arith) holds

walk_one :
    (edge : ℕ → ℕ → ℕ → Type 0) → ((u s v w : ℕ) → edge u s v → edge u s w → v ≡ w) → (x : List ℕ) (a b c : ℕ)
    → IsWalk edge a x b → IsWalk edge a x c → b ≡ c
walk_one edge single [] a b c one two = sym one ∙ two
walk_one edge single (s ∷ x) a b c one two =
    let same = single a s one.0 two.0 one.1 two.1 in
    walk_one edge single x one.0 b c one.2 (subst (λ t. IsWalk edge t x c) (sym same) two.2)

walk_inside :
    (W : List ℕ → Type 0) (n : ℕ) (e : ℕ → ℕ → ℕ → Type 0) → IsCover W n e → (x : List ℕ) (a b : ℕ) → a < n
    → IsWalk e a x b → b < n
walk_inside W n e cover [] a b a_in walk = let same : a ≡ b = walk in omega (arith, same, a_in)
walk_inside W n e cover (s ∷ x) a b a_in walk =
    walk_inside W n e cover x walk.0 b (cover.inside a s walk.0 walk.1).1 walk.2

-- one word leads to the one state in one cover, and to the other in the other
abbrev IsSame : (e f : ℕ → ℕ → ℕ → Type 0) → ℕ → ℕ → Type 0
IsSame e f u v = (w : List ℕ) × IsWalk e 0 w u × IsWalk f 0 w v

across :
    (W : List ℕ → Type 0) (n m : ℕ) (e f : ℕ → ℕ → ℕ → Type 0) → IsCover W n e → IsCover W m f → (w : List ℕ) (u : ℕ)
    → IsWalk e 0 w u → (v : ℕ) × (v < m) × IsWalk f 0 w v
across W n m e f one two w u walk =
    let word = (one.words w).1 (u, walk) in
    let read = (two.words w).0 word in
    (read.0, walk_inside W m f two w 0 read.0 two.some read.1, read.1)

partner :
    (W : List ℕ → Type 0) (n m : ℕ) (e f : ℕ → ℕ → ℕ → Type 0) → IsCover W n e → IsCover W m f → (u : ℕ) → u < n
    → (v : ℕ) × (v < m) × IsSame e f u v
partner W n m e f one two u u_in =
    let way = one.reached u u_in in
    let other = across W n m e f one two way.0 u way.1 in
    (other.0, other.1, (way.0, way.1, other.2))

-- what can be read from a state can be read from its partner
same_reads :
    (W : List ℕ → Type 0) (n m : ℕ) (e f : ℕ → ℕ → ℕ → Type 0) → IsCover W n e → IsCover W m f → (u v : ℕ) (w : List ℕ)
    → IsSame e f u v → IsReadFrom e u w → IsReadFrom f v w
same_reads W n m e f one two u v w same read =
    let whole = walk-join e same.0 w 0 u read.0 same.1 read.1 in
    let other = across W n m e f one two (same.0 ++ w) read.0 whole in
    let parts = walk-part f same.0 w 0 other.0 other.2 in
    let at = walk_one f two.single same.0 0 parts.0 v parts.1 same.2 in
    (other.0, subst (λ s. IsWalk f s w other.0) at parts.2)

turn : (e f : ℕ → ℕ → ℕ → Type 0) (u v : ℕ) → IsSame e f u v → IsSame f e v u
turn e f u v same = (same.0, same.2, same.1)

not_apart :
    (W : List ℕ → Type 0) (n m : ℕ) (e f : ℕ → ℕ → ℕ → Type 0) → IsCover W n e → IsCover W m f → (u v v2 : ℕ)
    → IsSame e f u v → IsSame e f u v2 → (w : List ℕ) → TellsApart f v v2 w → ⊥
not_apart W n m e f one two u v v2 a b w (inl told) =
    told.1 (same_reads W n m e f one two u v2 w b (same_reads W m n f e two one v u w (turn e f u v a) told.0))
not_apart W n m e f one two u v v2 a b w (inr told) =
    told.0 (same_reads W n m e f one two u v w a (same_reads W m n f e two one v2 u w (turn e f u v2 b) told.1))

one_partner_by :
    (W : List ℕ → Type 0) (n m : ℕ) (e f : ℕ → ℕ → ℕ → Type 0) → IsCover W n e → IsCover W m f → (u v v2 : ℕ) → v < m
    → v2 < m → IsSame e f u v → IsSame e f u v2 → (v ≡ v2) ⊎ ((v < v2) ⊎ (v2 < v)) → v ≡ v2
one_partner_by W n m e f one two u v v2 v_in v2_in a b (inl same) = same
one_partner_by W n m e f one two u v v2 v_in v2_in a b (inr (inl less)) =
    let told = two.apart v v2 less v2_in in absurd (not_apart W n m e f one two u v v2 a b told.0 told.1)
one_partner_by W n m e f one two u v v2 v_in v2_in a b (inr (inr less)) =
    let told = two.apart v2 v less v_in in absurd (not_apart W n m e f one two u v2 v b a told.0 told.1)

-- a state has one partner
one_partner :
    (W : List ℕ → Type 0) (n m : ℕ) (e f : ℕ → ℕ → ℕ → Type 0) → IsCover W n e → IsCover W m f → (u v v2 : ℕ) → v < m
    → v2 < m → IsSame e f u v → IsSame e f u v2 → v ≡ v2
one_partner W n m e f one two u v v2 v_in v2_in a b =
    one_partner_by W n m e f one two u v v2 v_in v2_in a b (cases_order v v2)

-- a word that leads to a state leads to its partner
leads_too :
    (W : List ℕ → Type 0) (n m : ℕ) (e f : ℕ → ℕ → ℕ → Type 0) → IsCover W n e → IsCover W m f → (u v : ℕ) (w : List ℕ)
    → v < m → IsSame e f u v → IsWalk e 0 w u → IsWalk f 0 w v
leads_too W n m e f one two u v w v_in same walk =
    let other = across W n m e f one two w u walk in
    let at = one_partner W n m e f one two u other.0 v other.1 v_in (w, walk, other.2) same in
    subst (λ s. IsWalk f 0 w s) at other.2

in_order_by :
    (W : List ℕ → Type 0) (n m : ℕ) (e f : ℕ → ℕ → ℕ → Type 0) → IsCover W n e → IsCover W m f → (u v x y : ℕ) → u < v
    → v < n → x < m → y < m → IsSame e f u x → IsSame e f v y → (x ≡ y) ⊎ ((x < y) ⊎ (y < x)) → x < y
in_order_by W n m e f one two u v x y less v_in x_in y_in a b (inr (inl fine)) = fine
in_order_by W n m e f one two u v x y less v_in x_in y_in a b (inl same) =
    let u_in : u < n = omega (arith, less, v_in) in
    let both = one_partner W m n f e two one x u v u_in v_in (turn e f u x a)
    (subst (λ s. IsSame f e s v) (sym same) (turn e f v y b)) in
    absurd (omega (arith, both, less))
in_order_by W n m e f one two u v x y less v_in x_in y_in a b (inr (inr wrong)) =
    let u_in : u < n = omega (arith, less, v_in) in
    absurd (no-descent (λ w. IsWalk e 0 w v)
    (λ w walk.
    let low = one.order u v less v_in w walk in
    let there = leads_too W n m e f one two u x low.0 x_in a low.1 in
    let lower = two.order y x wrong x_in low.0 there in (
      lower.0,
      leads_too W m n f e two one y v lower.0 v_in (turn e f v y b) lower.1,
      before-trans lower.0 low.0 w lower.2 low.2,
    ))
    b.0 b.1)

-- partners stand in the order of the states
in_order :
    (W : List ℕ → Type 0) (n m : ℕ) (e f : ℕ → ℕ → ℕ → Type 0) → IsCover W n e → IsCover W m f → (u v x y : ℕ) → u < v
    → v < n → x < m → y < m → IsSame e f u x → IsSame e f v y → x < y
in_order W n m e f one two u v x y less v_in x_in y_in a b =
    in_order_by W n m e f one two u v x y less v_in x_in y_in a b (cases_order x y)

at_least :
    (W : List ℕ → Type 0) (n m : ℕ) (e f : ℕ → ℕ → ℕ → Type 0) → IsCover W n e → IsCover W m f → (u x : ℕ) → u < n
    → x < m → IsSame e f u x → u ≤ x
at_least W n m e f one two zero x u_in x_in same = omega arith
at_least W n m e f one two (suc u) x u_in x_in same =
    let low_in : u < n = omega (arith, u_in) in
    let low = partner W n m e f one two u low_in in
    let rest = at_least W n m e f one two u low.0 low_in low.1 low.2 in
    let less = in_order W n m e f one two u (suc u) low.0 x (omega arith) u_in low.1 x_in low.2 same in
    omega (arith, rest, less)

-- a state is its own partner
itself :
    (W : List ℕ → Type 0) (n m : ℕ) (e f : ℕ → ℕ → ℕ → Type 0) → IsCover W n e → IsCover W m f → (u x : ℕ) → u < n
    → x < m → IsSame e f u x → u ≡ x
itself W n m e f one two u x u_in x_in same =
    let low = at_least W n m e f one two u x u_in x_in same in
    let high = at_least W m n f e two one x u x_in u_in (turn e f u x same) in
    omega (arith, low, high)

no_more :
    (W : List ℕ → Type 0) (n m : ℕ) (e f : ℕ → ℕ → ℕ → Type 0) → IsCover W n e → IsCover W m f → n ≤ m
no_more W n m e f one two =
    let some = one.some in
    let last : n - 1 < n = omega (arith, some) in
    let other = partner W n m e f one two (n - 1) last in
    let same = itself W n m e f one two (n - 1) other.0 last other.1 other.2 in
    let fits = other.1 in
    omega (arith, same, fits, some)

edge_of_walk :
    (f : ℕ → ℕ → ℕ → Type 0) (u s v from to : ℕ) → u ≡ from → v ≡ to → IsWalk f from (s ∷ []) to → f u s v
edge_of_walk f u s v from to at there step =
    subst (λ x. f x s v) (sym at) (subst (λ x. f from s x) (step.2 ∙ sym there) step.1)

edge_too :
    (W : List ℕ → Type 0) (n m : ℕ) (e f : ℕ → ℕ → ℕ → Type 0) → IsCover W n e → IsCover W m f → (u s v : ℕ) → e u s v
    → f u s v
edge_too W n m e f one two u s v edge =
    let ends = one.inside u s v edge in
    let way = one.reached u ends.0 in
    let whole = walk-join e way.0 (s ∷ []) 0 u v way.1 (v, edge, refl) in
    let other = across W n m e f one two (way.0 ++ s ∷ []) v whole in
    let to = itself W n m e f one two v other.0 ends.1 other.1 (way.0 ++ s ∷ [], whole, other.2) in
    let parts = walk-part f way.0 (s ∷ []) 0 other.0 other.2 in
    let from_in = walk_inside W m f two way.0 0 parts.0 two.some parts.1 in
    let from = itself W n m e f one two u parts.0 ends.0 from_in (way.0, way.1, parts.1) in
    let step = parts.2 in
    edge_of_walk f u s v parts.0 other.0 from to step

-- the words have one cover
pub one-cover :
    (W : List ℕ → Type 0) (n m : ℕ) (e f : ℕ → ℕ → ℕ → Type 0) → IsCover W n e → IsCover W m f
    → (n ≡ m) × ((u s v : ℕ) → e u s v ↔ f u s v)
one-cover W n m e f one two =
    let a = no_more W n m e f one two in
    let b = no_more W m n f e two one in (
      omega (arith, a, b),
      λ u s v. (edge_too W n m e f one two u s v, edge_too W m n f e two one u s v),
    )
