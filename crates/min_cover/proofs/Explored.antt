-- A breadth-first search and classes numbered by first members give an exploration.
use Rattle.std.proofs.Common.{◌≡◌, ℕ, ◌+◌, ◌<◌, ◌≤◌, ◌⊎◌, inl, inr, List, [], ◌∷◌, ◌++◌, Option, Some, None, refl, ap, sym, ◌∙◌, subst, arith}
use Rattle.std.specs.Option.{option_map}
use Rattle.std.proofs.lemmas.Bool.{cases_lt}
use Rattle.symbol_base.specs.Word.{IsBefore}
use Rattle.min_cover.specs.inside.Machine.{reads, IsUpTo, IsExplored, IsStable, IsTold}
use Rattle.min_cover.specs.inside.Search.{IsNumbered, IsSearched, IsAhead, IsByFirst, class_edge}
use Rattle.min_cover.proofs.Machines.{reads-some, reads-none}
use Rattle.min_cover.proofs.Classes.{stable-alike}
use Rattle.label_graphs.proofs.WordOrder.{before-trans}
use Rattle.min_cover.proofs.LongerWords.{before-grow, last-grow, up_to-trans}

numbered_by :
    {S : Type 0} (step : S → ℕ → Option S) (count : ℕ) (key : ℕ → S) (next : ℕ → ℕ → Option ℕ)
    → IsNumbered step count key next → (i symbol : ℕ) (w : List ℕ) (o : Option ℕ)
    → ((t : ℕ) → t < count → reads step (key t) w ≡ option_map key (reads next t w))
    → i < count → next i symbol ≡ o → reads step (key i) (symbol ∷ w) ≡ option_map key (reads next i (symbol ∷ w))
numbered_by step count key next numbered i symbol w None rest i_in goes =
    let none : step (key i) symbol ≡ None = numbered.moves i symbol i_in ∙ ap (option_map key) goes in
    reads-none step (key i) symbol w none ∙ sym (ap (option_map key) (reads-none next i symbol w goes))
numbered_by step count key next numbered i symbol w (Some t) rest i_in goes =
    let some : step (key i) symbol ≡ Some (key t) = numbered.moves i symbol i_in ∙ ap (option_map key) goes in
    reads-some step (key i) symbol w (key t) some ∙ rest t (numbered.closed i symbol t i_in goes)
    ∙ sym (ap (option_map key) (reads-some next i symbol w t goes))

-- the machine on numbers reads what the machine reads
pub numbered-reads :
    {S : Type 0} (step : S → ℕ → Option S) (count : ℕ) (key : ℕ → S) (next : ℕ → ℕ → Option ℕ)
    → IsNumbered step count key next → (w : List ℕ) (i : ℕ) → i < count
    → reads step (key i) w ≡ option_map key (reads next i w)
numbered-reads step count key next numbered [] i i_in = refl
numbered-reads step count key next numbered (symbol ∷ w) i i_in =
    numbered_by step count key next numbered i symbol w (next i symbol)
    (λ t t_in. numbered-reads step count key next numbered w t t_in) i_in refl

-- with the next symbol the search is still ahead, and also of the word that it found there
pub ahead-symbol :
    (word : ℕ → List ℕ) (count i symbol : ℕ) → IsAhead word count i symbol → IsAhead word count i (symbol + 1)
ahead-symbol word count i symbol ahead m m_in =
    before-trans (word m) (word i ++ symbol ∷ []) (word i ++ (symbol + 1) ∷ []) (ahead m m_in)
    (last-grow (word i) symbol (symbol + 1) (omega arith))

-- with the next state it is ahead too
pub ahead-row :
    (word : ℕ → List ℕ) (count i symbol : ℕ) → IsAhead word count i symbol → IsBefore (word i) (word (i + 1))
    → IsAhead word count (i + 1) 0
ahead-row word count i symbol ahead less m m_in =
    before-trans (word m) (word i ++ symbol ∷ []) (word (i + 1) ++ 0 ∷ []) (ahead m m_in)
    (before-grow (word i) (word (i + 1)) symbol 0 less)

some_class : (class : ℕ → ℕ) (o : Option ℕ) (m : ℕ) → option_map class o ≡ Some m → (t : ℕ) × (o ≡ Some t) × (class t ≡ m)
some_class class None m e = absurd (cc)
some_class class (Some t) m e = (t, refl, cc)

same_or_more : (m n : ℕ) → m ≤ n → (m ≡ n) ⊎ (m < n)
same_or_more m n less = elim (cases_lt m n) [ inl below ↦ inr below | inr above ↦ inl (omega (arith, less, above)) ]

up_to_by : (word : ℕ → List ℕ) (count m n : ℕ) → ((i j : ℕ) → i < j → j < count → IsBefore (word i) (word j)) → n < count
    → (m ≡ n) ⊎ (m < n) → IsUpTo (word m) (word n)
up_to_by word count m n ascending n_in (inl same) = inl (ap word same)
up_to_by word count m n ascending n_in (inr less) = inr (ascending m n less n_in)

root_by :
    (count : ℕ) (class : ℕ → ℕ) (classes : ℕ) (first : ℕ → ℕ) → IsByFirst count class classes first → 0 < count
    → (0 ≡ class 0) ⊎ (0 < class 0) → first 0 ≡ 0
root_by count class classes first firsts some (inl same) =
    let low = firsts.inside 0 some in
    let low_at : first 0 ≤ 0 = subst (λ m. first m ≤ 0) (sym same) low.1 in omega (arith, low_at)
root_by count class classes first firsts some (inr more) =
    let low = firsts.inside 0 some in
    let less = firsts.ascending 0 (class 0) more low.0 in
    let at = low.1 in omega (arith, less, at)

-- stable classes, told apart and numbered by first members, of a breadth-first search
pub classes-explored :
    (next : ℕ → ℕ → Option ℕ) (count : ℕ) (word : ℕ → List ℕ) (class : ℕ → ℕ) (classes : ℕ) (first : ℕ → ℕ)
    → IsSearched next count word → IsByFirst count class classes first → IsStable next count class
    → IsTold next count class
    → IsExplored next 0 classes first (λ m. word (first m)) (class_edge next class classes first)
classes-explored next count word class classes first searched firsts stable told =
    let root = firsts.inside 0 searched.some in
    let root_at : first 0 ≡ 0 =
    root_by count class classes first firsts searched.some (same_or_more 0 (class 0) (omega arith)) in
    record {
      root = (omega (arith, root.0), root_at, ap word root_at ∙ searched.root);
      follows = λ i symbol m edge.
          let some = some_class class (next (first i) symbol) m edge.1 in
          let from = firsts.member i edge.0 in
          let t_in = searched.closed (first i) symbol some.0 from.0 some.1 in
          let at = firsts.inside some.0 t_in in
          let m_in : m < classes = subst (λ x. x < classes) some.2 at.0 in
          let to = firsts.member m m_in in (
            edge.0,
            m_in,
            (
              some.0,
              some.1,
              stable-alike next count class stable searched.closed some.0 (first m) t_in to.0 (some.2 ∙ sym to.1),
            ),
          );
      full = λ i symbol t i_in goes. (class t, (i_in, ap (option_map class) goes));
      found = λ m m_in. let at = firsts.member m m_in in searched.found (first m) at.0;
      least = λ i symbol m edge.
          let some = some_class class (next (first i) symbol) m edge.1 in
          let from = firsts.member i edge.0 in
          let t_in = searched.closed (first i) symbol some.0 from.0 some.1 in
          let at = firsts.inside some.0 t_in in
          let low : first m ≤ some.0 = subst (λ x. first x ≤ some.0) some.2 at.1 in
          up_to-trans (word (first m)) (word some.0) (word (first i) ++ symbol ∷ [])
          (up_to_by word count (first m) some.0 searched.ascending t_in
          (same_or_more (first m) some.0 low))
          (searched.least (first i) symbol some.0 from.0 some.1);
      ascending = λ i m less m_in.
          let at = firsts.member m m_in in
          searched.ascending (first i) (first m) (firsts.ascending i m less m_in) at.0;
      apart = λ i m less m_in.
          let i_in : i < classes = omega (arith, less, m_in) in
          let one = firsts.member i i_in in
          let two = firsts.member m m_in in
          told (first i) (first m) one.0 two.0 (λ same.
          let both : i ≡ m = sym one.1 ∙ same ∙ two.1 in omega (arith, both, less));
    }
