-- An exploration finds the cover.
use Rattle.std.proofs.Common.{◌≡◌, ◌≢◌, ℕ, ◌<◌, ◌⊎◌, inl, inr, List, [], ◌∷◌, ◌++◌, Option, Some, None, refl, ap, sym, ◌∙◌, subst, is_some, true, false, Bool, append_assoc, append-nil, arith}
use Rattle.std.proofs.lemmas.Bool.{cases_order}
use Rattle.min_cover.specs.inside.Machine.{reads, IsAlike, IsUpTo, IsExplored}
use Rattle.label_graphs.specs.Cover.{IsReadFrom, TellsApart, IsCover}
use Rattle.symbol_base.specs.Walk.{IsWalk}
use Rattle.min_cover.proofs.Machines.{reads-some, reads-none, alike-next}
use Rattle.min_cover.proofs.LongerWords.{up_to-snoc, up_to-trans, before-up_to}

alike-trans : (step : ℕ → ℕ → Option ℕ) (p q r : ℕ) → IsAlike step p q → IsAlike step q r → IsAlike step p r
alike-trans step p q r a b w = a w ∙ b w

alike-sym : (step : ℕ → ℕ → Option ℕ) (p q : ℕ) → IsAlike step p q → IsAlike step q p
alike-sym step p q a w = sym (a w)

-- where a state alike to a number's goes, the number's edge goes
on_edge :
    (step : ℕ → ℕ → Option ℕ) (start count : ℕ) (key : ℕ → ℕ) (word : ℕ → List ℕ) (edge : ℕ → ℕ → ℕ → Type 0)
    → IsExplored step start count key word edge → (q i symbol t : ℕ) → IsAlike step q (key i) → i < count
    → step q symbol ≡ Some t → (m : ℕ) × edge i symbol m × (m < count) × IsAlike step t (key m)
on_edge step start count key word edge e q i symbol t alike i_in goes =
    let next = alike-next step q (key i) symbol t alike goes in
    let edged = e.full i symbol next.0 i_in next.1 in
    let back = e.follows i symbol edged.0 edged.1 in
    let same : next.0 ≡ back.2.0 = cc in (
      edged.0,
      edged.1,
      back.1,
      alike-trans step t next.0 (key edged.0) next.2
          (subst (λ x. IsAlike step x (key edged.0)) (sym same) back.2.2),
    )

walk_by :
    (step : ℕ → ℕ → Option ℕ) (start count : ℕ) (key : ℕ → ℕ) (word : ℕ → List ℕ) (edge : ℕ → ℕ → ℕ → Type 0)
    → IsExplored step start count key word edge → (w : List ℕ) (q i symbol t : ℕ) (o : Option ℕ)
    → ((q i : ℕ) → IsAlike step q (key i) → i < count → reads step q w ≡ Some t
    → (m : ℕ) × IsWalk edge i w m × (m < count) × IsAlike step t (key m))
    → IsAlike step q (key i) → i < count → step q symbol ≡ o → reads step q (symbol ∷ w) ≡ Some t
    → (m : ℕ) × IsWalk edge i (symbol ∷ w) m × (m < count) × IsAlike step t (key m)
walk_by step start count key word edge e w q i symbol t None rest alike i_in goes read =
    let none = reads-none step q symbol w goes in absurd (cc)
walk_by step start count key word edge e w q i symbol t (Some p) rest alike i_in goes read =
    let edged = on_edge step start count key word edge e q i symbol p alike i_in goes in
    let walk = rest p edged.0 edged.3 edged.2 (sym (reads-some step q symbol w p goes) ∙ read) in
    (walk.0, (edged.0, edged.1, walk.1), walk.2, walk.3)

-- what the machine reads labels a walk
walk_on :
    (step : ℕ → ℕ → Option ℕ) (start count : ℕ) (key : ℕ → ℕ) (word : ℕ → List ℕ) (edge : ℕ → ℕ → ℕ → Type 0)
    → IsExplored step start count key word edge → (w : List ℕ) (q i t : ℕ) → IsAlike step q (key i) → i < count
    → reads step q w ≡ Some t → (m : ℕ) × IsWalk edge i w m × (m < count) × IsAlike step t (key m)
walk_on step start count key word edge e [] q i t alike i_in read =
    let same : q ≡ t = cc in
    (i, refl, i_in, subst (λ x. IsAlike step x (key i)) same alike)
walk_on step start count key word edge e (symbol ∷ w) q i t alike i_in read =
    walk_by step start count key word edge e w q i symbol t (step q symbol)
    (λ q i alike i_in read. walk_on step start count key word edge e w q i t alike i_in read) alike i_in refl read

-- what labels a walk, the machine reads
read_back :
    (step : ℕ → ℕ → Option ℕ) (start count : ℕ) (key : ℕ → ℕ) (word : ℕ → List ℕ) (edge : ℕ → ℕ → ℕ → Type 0)
    → IsExplored step start count key word edge → (w : List ℕ) (q i m : ℕ) → IsAlike step q (key i)
    → IsWalk edge i w m → is_some (reads step q w) ≡ true
read_back step start count key word edge e [] q i m alike walk = refl
read_back step start count key word edge e (symbol ∷ w) q i m alike walk =
    let back = e.follows i symbol walk.0 walk.1 in
    let next = alike-next step (key i) q symbol back.2.0 (alike-sym step q (key i) alike) back.2.1 in
    let here = alike-trans step next.0 back.2.0 (key walk.0) (alike-sym step back.2.0 next.0 next.2) back.2.2 in
    ap is_some (reads-some step q symbol w next.0 next.1)
    ∙ read_back step start count key word edge e w next.0 walk.0 m here walk.2

some_of : (o : Option ℕ) → is_some o ≡ true → (t : ℕ) × (o ≡ Some t)
some_of None e = absurd (cc)
some_of (Some t) e = (t, refl)

readable :
    (step : ℕ → ℕ → Option ℕ) (start count : ℕ) (key : ℕ → ℕ) (word : ℕ → List ℕ) (edge : ℕ → ℕ → ℕ → Type 0)
    → IsExplored step start count key word edge → (i : ℕ) (w : List ℕ) → i < count
    → is_some (reads step (key i) w) ≡ true → IsReadFrom edge i w
readable step start count key word edge e i w i_in read =
    let some = some_of (reads step (key i) w) read in
    let walk = walk_on step start count key word edge e w (key i) i some.0 (λ w. refl) i_in some.1 in
    (walk.0, walk.1)

unreadable :
    (step : ℕ → ℕ → Option ℕ) (start count : ℕ) (key : ℕ → ℕ) (word : ℕ → List ℕ) (edge : ℕ → ℕ → ℕ → Type 0)
    → IsExplored step start count key word edge → (i : ℕ) (w : List ℕ)
    → is_some (reads step (key i) w) ≡ false → IsReadFrom edge i w → ⊥
unreadable step start count key word edge e i w none walk =
    let some = read_back step start count key word edge e w (key i) i walk.0 (λ w. refl) walk.1 in
    let bad : true ≡ false = sym some ∙ none in absurd (cc)

same_by :
    (step : ℕ → ℕ → Option ℕ) (start count : ℕ) (key : ℕ → ℕ) (word : ℕ → List ℕ) (edge : ℕ → ℕ → ℕ → Type 0)
    → IsExplored step start count key word edge → (m n : ℕ) → m < count → n < count
    → IsAlike step (key m) (key n) → (m ≡ n) ⊎ ((m < n) ⊎ (n < m)) → m ≡ n
same_by step start count key word edge e m n m_in n_in alike (inl same) = same
same_by step start count key word edge e m n m_in n_in alike (inr (inl less)) =
    let apart = e.apart m n less n_in in absurd (apart.1 (alike apart.0))
same_by step start count key word edge e m n m_in n_in alike (inr (inr less)) =
    let apart = e.apart n m less m_in in absurd (apart.1 (sym (alike apart.0)))

-- numbers of alike states are the same
same_number :
    (step : ℕ → ℕ → Option ℕ) (start count : ℕ) (key : ℕ → ℕ) (word : ℕ → List ℕ) (edge : ℕ → ℕ → ℕ → Type 0)
    → IsExplored step start count key word edge → (m n : ℕ) → m < count → n < count
    → IsAlike step (key m) (key n) → m ≡ n
same_number step start count key word edge e m n m_in n_in alike =
    same_by step start count key word edge e m n m_in n_in alike (cases_order m n)

single :
    (step : ℕ → ℕ → Option ℕ) (start count : ℕ) (key : ℕ → ℕ) (word : ℕ → List ℕ) (edge : ℕ → ℕ → ℕ → Type 0)
    → IsExplored step start count key word edge → (u symbol m n : ℕ) → edge u symbol m → edge u symbol n → m ≡ n
single step start count key word edge e u symbol m n one two =
    let a = e.follows u symbol m one in
    let b = e.follows u symbol n two in
    let same : a.2.0 ≡ b.2.0 = cc in
    same_number step start count key word edge e m n a.1 b.1
    (alike-trans step (key m) a.2.0 (key n) (alike-sym step a.2.0 (key m) a.2.2)
    (subst (λ x. IsAlike step x (key n)) (sym same) b.2.2))

-- a walk's word is no lesser than the word of its end
no_lesser :
    (step : ℕ → ℕ → Option ℕ) (start count : ℕ) (key : ℕ → ℕ) (word : ℕ → List ℕ) (edge : ℕ → ℕ → ℕ → Type 0)
    → IsExplored step start count key word edge → (w u : List ℕ) (i m : ℕ) → IsUpTo (word i) u → IsWalk edge i w m
    → IsUpTo (word m) (u ++ w)
no_lesser step start count key word edge e [] u i m up walk =
    let whole : u ++ [] ≡ u = append-nil u in
    subst (λ x. IsUpTo (word x) (u ++ [])) walk (subst (λ x. IsUpTo (word i) x) (sym whole) up)
no_lesser step start count key word edge e (symbol ∷ w) u i m up walk =
    let here =
    up_to-trans (word walk.0) (word i ++ symbol ∷ []) (u ++ symbol ∷ []) (e.least i symbol walk.0 walk.1)
    (up_to-snoc (word i) u symbol up) in
    subst (λ x. IsUpTo (word m) x) (append_assoc u (symbol ∷ []) w)
    (no_lesser step start count key word edge e w (u ++ symbol ∷ []) walk.0 m here walk.2)

-- a number's word leads to it
word_leads :
    (step : ℕ → ℕ → Option ℕ) (start count : ℕ) (key : ℕ → ℕ) (word : ℕ → List ℕ) (edge : ℕ → ℕ → ℕ → Type 0)
    → IsExplored step start count key word edge → (v : ℕ) → v < count → IsWalk edge 0 (word v) v
word_leads step start count key word edge e v v_in =
    let read = ap (λ q. reads step q (word v)) e.root.1 ∙ e.found v v_in in
    let walk = walk_on step start count key word edge e (word v) (key 0) 0 (key v) (λ w. refl) e.root.0 read in
    let same = same_number step start count key word edge e v walk.0 v_in walk.2 walk.3 in
    subst (λ x. IsWalk edge 0 (word v) x) (sym same) walk.1

tells_by :
    (step : ℕ → ℕ → Option ℕ) (start count : ℕ) (key : ℕ → ℕ) (word : ℕ → List ℕ) (edge : ℕ → ℕ → ℕ → Type 0)
    → IsExplored step start count key word edge → (u v : ℕ) (w : List ℕ) (a b : Bool) → u < count → v < count
    → is_some (reads step (key u) w) ≡ a → is_some (reads step (key v) w) ≡ b → a ≢ b → TellsApart edge u v w
tells_by step start count key word edge e u v w true true u_in v_in a b differ = absurd (differ refl)
tells_by step start count key word edge e u v w false false u_in v_in a b differ = absurd (differ refl)
tells_by step start count key word edge e u v w true false u_in v_in a b differ =
    inl (readable step start count key word edge e u w u_in a, unreadable step start count key word edge e v w b)
tells_by step start count key word edge e u v w false true u_in v_in a b differ =
    inr (unreadable step start count key word edge e u w a, readable step start count key word edge e v w v_in b)

-- the graph that an exploration finds is the cover
pub explored-cover :
    (step : ℕ → ℕ → Option ℕ) (start count : ℕ) (key : ℕ → ℕ) (word : ℕ → List ℕ) (edge : ℕ → ℕ → ℕ → Type 0)
    → IsExplored step start count key word edge → IsCover (λ w. is_some (reads step start w) ≡ true) count edge
explored-cover step start count key word edge e = record {
  some = e.root.0;
  inside = λ u symbol v edged. let back = e.follows u symbol v edged in (back.0, back.1);
  single = single step start count key word edge e;
  words = λ w. (
    λ read. readable step start count key word edge e 0 w e.root.0
        (ap (λ q. is_some (reads step q w)) e.root.1 ∙ read),
    λ walk. sym (ap (λ q. is_some (reads step q w)) e.root.1)
        ∙ read_back step start count key word edge e w (key 0) 0 walk.0 (λ w. refl) walk.1,
  );
  reached = λ v v_in. (word v, word_leads step start count key word edge e v v_in);
  apart = λ u v less v_in.
      let u_in : u < count = omega (arith, less, v_in) in
      let told = e.apart u v less v_in in (
        told.0,
        tells_by step start count key word edge e u v told.0 (is_some (reads step (key u) told.0))
            (is_some (reads step (key v) told.0)) u_in v_in refl refl told.1,
      );
  order = λ u v less v_in y walk.
      let u_in : u < count = omega (arith, less, v_in) in
      let up = no_lesser step start count key word edge e y [] 0 v (inl e.root.2) walk in (
        word u,
        word_leads step start count key word edge e u u_in,
        before-up_to (word u) (word v) y (e.ascending u v less v_in) up,
      );
}
