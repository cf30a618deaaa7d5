-- The steps of a breadth-first search.
use Rattle.std.proofs.Common.{◌≡◌, ℕ, ◌+◌, ◌<◌, ◌≤◌, ◌⊎◌, inl, inr, List, [], ◌∷◌, ◌++◌, Option, Some, None, refl, ap, sym, ◌∙◌, subst, arith}
use Rattle.std.specs.Option.{option_map}
use Rattle.symbol_base.specs.Word.{IsBefore}
use Rattle.std.proofs.lemmas.Bool.{cases_lt}
use Rattle.min_cover.specs.inside.Machine.{reads, IsUpTo}
use Rattle.min_cover.specs.inside.Search.{IsNumbered, IsSearched, IsSearching, IsAhead, IsDone}
use Rattle.min_cover.proofs.Machines.{reads-some, reads-none}
use Rattle.min_cover.proofs.LongerWords.{last-grow}
use Rattle.min_cover.proofs.Explored.{ahead-symbol, ahead-row, numbered-reads}

snoc_by :
    {S : Type 0} (step : S → ℕ → Option S) (q p t : S) (r symbol : ℕ) (w : List ℕ) (o : Option S)
    → ((n : S) → reads step n w ≡ Some p → reads step n (w ++ symbol ∷ []) ≡ Some t) → step q r ≡ o
    → reads step q (r ∷ w) ≡ Some p → reads step q (r ∷ (w ++ symbol ∷ [])) ≡ Some t
snoc_by step q p t r symbol w None rest e read = let none = reads-none step q r w e in absurd (cc)
snoc_by step q p t r symbol w (Some n) rest e read =
    reads-some step q r (w ++ symbol ∷ []) n e ∙ rest n (sym (reads-some step q r w n e) ∙ read)

-- reading on by one symbol
pub reads-snoc :
    {S : Type 0} (step : S → ℕ → Option S) (w : List ℕ) (q p t : S) (symbol : ℕ) → reads step q w ≡ Some p
    → step p symbol ≡ Some t → reads step q (w ++ symbol ∷ []) ≡ Some t
reads-snoc step [] q p t symbol read goes =
    let same : q ≡ p = cc in
    reads-some step q symbol [] t (ap (λ x. step x symbol) same ∙ goes)
reads-snoc step (r ∷ w) q p t symbol read goes =
    snoc_by step q p t r symbol w (step q r) (λ n read. reads-snoc step w n p t symbol read goes) refl read

last_or_before_by : (m n : ℕ) → m < n + 1 → (m < n) ⊎ (n ≤ m) → (m < n) ⊎ (m ≡ n)
last_or_before_by m n fits (inl less) = inl less
last_or_before_by m n fits (inr more) = inr (omega (arith, fits, more))

-- the last of a range, or one before it
pub last_or_before : (m n : ℕ) → m < n + 1 → (m < n) ⊎ (m ≡ n)
last_or_before m n fits = last_or_before_by m n fits (cases_lt m n)

done_here : (i symbol j s : ℕ) → j ≡ i → (s < symbol) ⊎ (s ≡ symbol) → IsDone i symbol j s ⊎ ((j ≡ i) × (s ≡ symbol))
done_here i symbol j s here (inl less) = inl (inr (here, less))
done_here i symbol j s here (inr same) = inr (here, same)

done_by :
    (i symbol j s : ℕ) → IsDone i (symbol + 1) j s → ((j ≡ i) × (s < symbol + 1) → (s < symbol) ⊎ (s ≡ symbol))
    → IsDone i symbol j s ⊎ ((j ≡ i) × (s ≡ symbol))
done_by i symbol j s (inl less) cases = inl (inl less)
done_by i symbol j s (inr here) cases = done_here i symbol j s here.0 (cases here)

done : (i symbol j s : ℕ) → IsDone i (symbol + 1) j s → IsDone i symbol j s ⊎ ((j ≡ i) × (s ≡ symbol))
done i symbol j s at = done_by i symbol j s at (λ here. last_or_before s symbol here.1)

moves_known :
    {S : Type 0} (step : S → ℕ → Option S) (key : ℕ → S) (next more : ℕ → ℕ → Option ℕ) (i symbol j s : ℕ)
    → (IsDone i symbol j s → step (key j) s ≡ option_map key (next j s))
    → (IsDone i symbol j s → more j s ≡ next j s) → step (key i) symbol ≡ option_map key (more i symbol)
    → IsDone i symbol j s ⊎ ((j ≡ i) × (s ≡ symbol)) → step (key j) s ≡ option_map key (more j s)
moves_known step key next more i symbol j s before kept goes (inl at) =
    before at ∙ sym (ap (option_map key) (kept at))
moves_known step key next more i symbol j s before kept goes (inr here) =
    ap (λ x. step (key x) s) here.0 ∙ ap (step (key i)) here.1 ∙ goes
    ∙ ap (λ x. option_map key (more i x)) (sym here.1) ∙ ap (λ x. option_map key (more x s)) (sym here.0)

least_known :
    (next more : ℕ → ℕ → Option ℕ) (count : ℕ) (word : ℕ → List ℕ) (i symbol j s t : ℕ) → IsAhead word count i symbol
    → (IsDone i symbol j s → next j s ≡ Some t → (t < count) × IsUpTo (word t) (word j ++ s ∷ []))
    → (IsDone i symbol j s → more j s ≡ next j s) → ((u : ℕ) → more i symbol ≡ Some u → u < count)
    → IsDone i symbol j s ⊎ ((j ≡ i) × (s ≡ symbol)) → more j s ≡ Some t
    → (t < count) × IsUpTo (word t) (word j ++ s ∷ [])
least_known next more count word i symbol j s t ahead before kept inside (inl at) e = before at (sym (kept at) ∙ e)
least_known next more count word i symbol j s t ahead before kept inside (inr here) e =
    let at : more i symbol ≡ Some t =
    ap (λ x. more i x) (sym here.1) ∙ ap (λ x. more x s) (sym here.0) ∙ e in
    let t_in = inside t at in
    let P = λ (x : ℕ). IsBefore (word t) (word x ++ s ∷ []) in
    let Q = λ (x : ℕ). IsBefore (word t) (word i ++ x ∷ []) in
    (t_in, inr (subst P (sym here.0) (subst Q (sym here.1) (ahead t t_in))))

-- a symbol that can't be read, or leads to a state that was found
pub search-known :
    {S : Type 0} (step : S → ℕ → Option S) (start : S) (next more : ℕ → ℕ → Option ℕ) (count : ℕ) (key : ℕ → S)
    (word : ℕ → List ℕ) (i symbol : ℕ) → i < count → IsSearching step start next count key word i symbol
    → ((j s : ℕ) → IsDone i symbol j s → more j s ≡ next j s) → step (key i) symbol ≡ option_map key (more i symbol)
    → ((t : ℕ) → more i symbol ≡ Some t → t < count)
    → IsSearching step start more count key word i (symbol + 1)
search-known step start next more count key word i symbol here searching kept goes inside = record {
  some = searching.some;
  here = searching.here;
  first = searching.first;
  root = searching.root;
  found = searching.found;
  ascending = searching.ascending;
  ahead = λ here. ahead-symbol word count i symbol (searching.ahead here);
  moves = λ j s at. moves_known step key next more i symbol j s (searching.moves j s) (kept j s) goes (done i symbol j s at);
  least = λ j s t at e. least_known next more count word i symbol j s t (searching.ahead here) (searching.least j s t)
      (kept j s) inside (done i symbol j s at) e;
}

-- the next state's first symbol
row_by :
    (i symbol j s : ℕ) → IsDone (i + 1) 0 j s → (j < i) ⊎ (j ≡ i) → (s < symbol) ⊎ (symbol ≤ s)
    → IsDone i symbol j s ⊎ ((j ≡ i) × (symbol ≤ s))
row_by i symbol j s at (inl less) place = inl (inl less)
row_by i symbol j s at (inr here) (inl less) = inl (inr (here, less))
row_by i symbol j s at (inr here) (inr more) = inr (here, more)

state_of : (i j s : ℕ) → IsDone (i + 1) 0 j s → j < i + 1
state_of i j s (inl less) = less
state_of i j s (inr none) = let bad = none.1 in absurd (omega (arith, bad))

moves_row :
    {S : Type 0} (step : S → ℕ → Option S) (key : ℕ → S) (next : ℕ → ℕ → Option ℕ) (i symbol j s : ℕ)
    → (IsDone i symbol j s → step (key j) s ≡ option_map key (next j s))
    → ((s : ℕ) → symbol ≤ s → (step (key i) s ≡ None) × (next i s ≡ None))
    → IsDone i symbol j s ⊎ ((j ≡ i) × (symbol ≤ s)) → step (key j) s ≡ option_map key (next j s)
moves_row step key next i symbol j s before over (inl at) = before at
moves_row step key next i symbol j s before over (inr here) =
    let none = over s here.1 in
    ap (λ x. step (key x) s) here.0 ∙ none.0 ∙ ap (option_map key) (sym none.1)
    ∙ ap (λ x. option_map key (next x s)) (sym here.0)

least_row :
    (next : ℕ → ℕ → Option ℕ) (count : ℕ) (word : ℕ → List ℕ) (i symbol j s t : ℕ)
    → (IsDone i symbol j s → next j s ≡ Some t → (t < count) × IsUpTo (word t) (word j ++ s ∷ []))
    → ((s : ℕ) → symbol ≤ s → next i s ≡ None)
    → IsDone i symbol j s ⊎ ((j ≡ i) × (symbol ≤ s)) → next j s ≡ Some t
    → (t < count) × IsUpTo (word t) (word j ++ s ∷ [])
least_row next count word i symbol j s t before over (inl at) e = before at e
least_row next count word i symbol j s t before over (inr here) e =
    let none = ap (λ x. next x s) here.0 ∙ over s here.1 in absurd (cc)

pub search-row :
    {S : Type 0} (step : S → ℕ → Option S) (start : S) (next : ℕ → ℕ → Option ℕ) (count : ℕ) (key : ℕ → S)
    (word : ℕ → List ℕ) (i symbol : ℕ) → i < count → IsSearching step start next count key word i symbol
    → ((s : ℕ) → symbol ≤ s → (step (key i) s ≡ None) × (next i s ≡ None))
    → IsSearching step start next count key word (i + 1) 0
search-row step start next count key word i symbol here searching over = record {
  some = searching.some;
  here = omega (arith, here);
  first = searching.first;
  root = searching.root;
  found = searching.found;
  ascending = searching.ascending;
  ahead = λ fits. ahead-row word count i symbol (searching.ahead here) (searching.ascending i (i + 1) (omega arith) fits);
  moves = λ j s at. moves_row step key next i symbol j s (searching.moves j s) over
      (row_by i symbol j s at (last_or_before j i (state_of i j s at)) (cases_lt s symbol));
  least = λ j s t at e. least_row next count word i symbol j s t (searching.least j s t) (λ s more. (over s more).1)
      (row_by i symbol j s at (last_or_before j i (state_of i j s at)) (cases_lt s symbol)) e;
}

inside_by :
    (next : ℕ → ℕ → Option ℕ) (count q r : ℕ) (w : List ℕ) (t : ℕ) (o : Option ℕ)
    → ((n : ℕ) → n < count → reads next n w ≡ Some t → t < count)
    → ((i symbol t : ℕ) → i < count → next i symbol ≡ Some t → t < count) → q < count → next q r ≡ o
    → reads next q (r ∷ w) ≡ Some t → t < count
inside_by next count q r w t None rest closed q_in e read = let none = reads-none next q r w e in absurd (cc)
inside_by next count q r w t (Some n) rest closed q_in e read =
    rest n (closed q r n q_in e) (sym (reads-some next q r w n e) ∙ read)

pub reads-inside :
    (next : ℕ → ℕ → Option ℕ) (count : ℕ) (w : List ℕ) (q t : ℕ)
    → ((i symbol t : ℕ) → i < count → next i symbol ≡ Some t → t < count) → q < count → reads next q w ≡ Some t → t < count
reads-inside next count [] q t closed q_in read = let same : q ≡ t = cc in omega (arith, same, q_in)
reads-inside next count (r ∷ w) q t closed q_in read =
    inside_by next count q r w t (next q r) (λ n n_in read. reads-inside next count w n t closed n_in read) closed q_in
    refl read

number_by :
    {S : Type 0} (key : ℕ → S) (count m : ℕ) (o : Option ℕ) → ((t : ℕ) → o ≡ Some t → t < count)
    → ((a m : ℕ) → a < count → m < count → key a ≡ key m → a ≡ m) → m < count → option_map key o ≡ Some (key m)
    → o ≡ Some m
number_by key count m None inside apart m_in e = absurd (cc)
number_by key count m (Some t) inside apart m_in e =
    let same : key t ≡ key m = cc in ap Some (apart t m (inside t refl) m_in same)

-- the search ends behind the last state
pub search-numbered :
    {S : Type 0} (step : S → ℕ → Option S) (start : S) (next : ℕ → ℕ → Option ℕ) (count : ℕ) (key : ℕ → S)
    (word : ℕ → List ℕ) (i symbol : ℕ) → IsSearching step start next count key word i symbol
    → i ≡ count → IsNumbered step count key next
search-numbered step start next count key word i symbol searching ends = record {
  moves = λ j s j_in. searching.moves j s (inl (omega (arith, j_in, ends)));
  closed = λ j s t j_in e. (searching.least j s t (inl (omega (arith, j_in, ends))) e).0;
}

pub search-searched :
    {S : Type 0} (step : S → ℕ → Option S) (start : S) (next : ℕ → ℕ → Option ℕ) (count : ℕ) (key : ℕ → S)
    (word : ℕ → List ℕ) (i symbol : ℕ) → IsSearching step start next count key word i symbol
    → i ≡ count → ((a m : ℕ) → a < count → m < count → key a ≡ key m → a ≡ m)
    → IsSearched next count word
search-searched step start next count key word i symbol searching ends apart =
    let numbered = search-numbered step start next count key word i symbol searching ends in
    let some = searching.some in
    record {
      closed = numbered.closed;
      some = some;
      root = searching.root;
      found = λ m m_in. number_by key count m (reads next 0 (word m))
          (λ t read. reads-inside next count (word m) 0 t numbered.closed some read) apart m_in
          (sym (numbered-reads step count key next numbered (word m) 0 some)
          ∙ ap (λ q. reads step q (word m)) searching.first ∙ searching.found m m_in);
      least = λ j s t j_in e. (searching.least j s t (inl (omega (arith, j_in, ends))) e).1;
      ascending = searching.ascending;
    }

-- what agrees below the count
map_kept :
    {S : Type 0} (key grown : ℕ → S) (count : ℕ) (o : Option ℕ) → ((m : ℕ) → m < count → grown m ≡ key m)
    → ((t : ℕ) → o ≡ Some t → t < count) → option_map grown o ≡ option_map key o
map_kept key grown count None kept inside = refl
map_kept key grown count (Some t) kept inside = ap Some (kept t (inside t refl))

found_grown :
    {S : Type 0} (step : S → ℕ → Option S) (start : S) (key grown : ℕ → S) (word longer : ℕ → List ℕ) (count m : ℕ)
    → ((m : ℕ) → m < count → reads step start (word m) ≡ Some (key m))
    → ((m : ℕ) → m < count → grown m ≡ key m) → ((m : ℕ) → m < count → longer m ≡ word m)
    → reads step start (longer count) ≡ Some (grown count)
    → (m < count) ⊎ (m ≡ count) → reads step start (longer m) ≡ Some (grown m)
found_grown step start key grown word longer count m found kept kept_word added (inl less) =
    ap (reads step start) (kept_word m less) ∙ found m less ∙ ap Some (sym (kept m less))
found_grown step start key grown word longer count m found kept kept_word added (inr same) =
    ap (λ x. reads step start (longer x)) same ∙ added ∙ ap (λ x. Some (grown x)) (sym same)

ascending_grown :
    (word longer : ℕ → List ℕ) (count a m : ℕ) → ((a m : ℕ) → a < m → m < count → IsBefore (word a) (word m))
    → ((m : ℕ) → m < count → longer m ≡ word m) → ((a : ℕ) → a < count → IsBefore (word a) (longer count)) → a < m
    → (m < count) ⊎ (m ≡ count) → IsBefore (longer a) (longer m)
ascending_grown word longer count a m ascending kept added less (inl m_in) =
    subst (λ x. IsBefore x (longer m)) (sym (kept a (omega (arith, less, m_in))))
    (subst (λ x. IsBefore (word a) x) (sym (kept m m_in)) (ascending a m less m_in))
ascending_grown word longer count a m ascending kept added less (inr same) =
    let a_in : a < count = omega (arith, less, same) in
    subst (λ x. IsBefore (longer a) (longer x)) (sym same)
    (subst (λ x. IsBefore x (longer count)) (sym (kept a a_in)) (added a a_in))

ahead_grown :
    (word longer : ℕ → List ℕ) (count i symbol m : ℕ) → i < count → IsAhead word count i symbol
    → ((m : ℕ) → m < count → longer m ≡ word m) → longer count ≡ word i ++ symbol ∷ []
    → (m < count) ⊎ (m ≡ count) → IsBefore (longer m) (longer i ++ (symbol + 1) ∷ [])
ahead_grown word longer count i symbol m i_in ahead kept added (inl m_in) =
    subst (λ x. IsBefore (longer m) (x ++ (symbol + 1) ∷ [])) (sym (kept i i_in))
    (subst (λ x. IsBefore x (word i ++ (symbol + 1) ∷ [])) (sym (kept m m_in))
    (ahead-symbol word count i symbol ahead m m_in))
ahead_grown word longer count i symbol m i_in ahead kept added (inr same) =
    subst (λ x. IsBefore (longer m) (x ++ (symbol + 1) ∷ [])) (sym (kept i i_in))
    (subst (λ x. IsBefore x (word i ++ (symbol + 1) ∷ [])) (sym (ap longer same ∙ added))
    (last-grow (word i) symbol (symbol + 1) (omega arith)))

done_state : (i symbol j s : ℕ) → IsDone i symbol j s → j < i + 1
done_state i symbol j s (inl less) = omega (arith, less)
done_state i symbol j s (inr here) = let same = here.0 in omega (arith, same)

moves_grown :
    {S : Type 0} (step : S → ℕ → Option S) (key grown : ℕ → S) (next more : ℕ → ℕ → Option ℕ) (count i symbol j s : ℕ)
    → i < count → ((m : ℕ) → m < count → grown m ≡ key m)
    → (IsDone i symbol j s → step (key j) s ≡ option_map key (next j s))
    → ((t : ℕ) → IsDone i symbol j s → next j s ≡ Some t → t < count)
    → (IsDone i symbol j s → more j s ≡ next j s) → step (key i) symbol ≡ Some (grown count)
    → more i symbol ≡ Some count
    → IsDone i symbol j s ⊎ ((j ≡ i) × (s ≡ symbol)) → step (grown j) s ≡ option_map grown (more j s)
moves_grown step key grown next more count i symbol j s i_in kept before inside same goes leads (inl at) =
    let low = done_state i symbol j s at in
    let j_in : j < count = omega (arith, low, i_in) in
    ap (λ x. step x s) (kept j j_in) ∙ before at
    ∙ sym (map_kept key grown count (next j s) kept (λ t e. inside t at e)) ∙ sym (ap (option_map grown) (same at))
moves_grown step key grown next more count i symbol j s i_in kept before inside same goes leads (inr here) =
    ap (λ x. step (grown x) s) here.0 ∙ ap (step (grown i)) here.1 ∙ ap (λ x. step x symbol) (kept i i_in) ∙ goes
    ∙ sym (ap (option_map grown) leads)
    ∙ ap (λ x. option_map grown (more i x)) (sym here.1) ∙ ap (λ x. option_map grown (more x s)) (sym here.0)

least_grown :
    (next more : ℕ → ℕ → Option ℕ) (word longer : ℕ → List ℕ) (count i symbol j s t : ℕ) → i < count
    → ((m : ℕ) → m < count → longer m ≡ word m) → longer count ≡ word i ++ symbol ∷ []
    → (IsDone i symbol j s → next j s ≡ Some t → (t < count) × IsUpTo (word t) (word j ++ s ∷ []))
    → (IsDone i symbol j s → more j s ≡ next j s) → more i symbol ≡ Some count
    → IsDone i symbol j s ⊎ ((j ≡ i) × (s ≡ symbol)) → more j s ≡ Some t
    → (t < count + 1) × IsUpTo (longer t) (longer j ++ s ∷ [])
least_grown next more word longer count i symbol j s t i_in kept added before same leads (inl at) e =
    let low = done_state i symbol j s at in
    let j_in : j < count = omega (arith, low, i_in) in
    let known = before at (sym (same at) ∙ e) in
    let t_in = known.0 in (
      omega (arith, t_in),
      subst (λ x. IsUpTo (longer t) (x ++ s ∷ [])) (sym (kept j j_in))
          (subst (λ x. IsUpTo x (word j ++ s ∷ [])) (sym (kept t t_in)) known.1),
    )
least_grown next more word longer count i symbol j s t i_in kept added before same leads (inr here) e =
    let at : Some t ≡ Some count =
    sym e ∙ ap (λ x. more x s) here.0 ∙ ap (λ x. more i x) here.1 ∙ leads in
    let t_at : t ≡ count = cc in
    let whole : longer t ≡ longer j ++ s ∷ [] =
    ap longer t_at ∙ added ∙ ap (λ x. x ++ symbol ∷ []) (sym (kept i i_in))
    ∙ ap (λ x. longer i ++ x ∷ []) (sym here.1) ∙ ap (λ x. longer x ++ s ∷ []) (sym here.0) in
    (omega (arith, t_at), inl whole)

-- a symbol that leads to a state that was not found yet: it gets the next number and the word of the place
pub search-grow :
    {S : Type 0} (step : S → ℕ → Option S) (start : S) (next more : ℕ → ℕ → Option ℕ) (count : ℕ) (key grown : ℕ → S)
    (word longer : ℕ → List ℕ) (i symbol : ℕ) → i < count → IsSearching step start next count key word i symbol
    → ((j s : ℕ) → IsDone i symbol j s → more j s ≡ next j s)
    → ((m : ℕ) → m < count → grown m ≡ key m) → ((m : ℕ) → m < count → longer m ≡ word m)
    → longer count ≡ word i ++ symbol ∷ [] → step (key i) symbol ≡ Some (grown count) → more i symbol ≡ Some count
    → IsSearching step start more (count + 1) grown longer i (symbol + 1)
search-grow step start next more count key grown word longer i symbol here searching same kept kept_word added goes leads =
    let some = searching.some in
    let new : reads step start (longer count) ≡ Some (grown count) =
    ap (reads step start) added
    ∙ reads-snoc step (word i) start (key i) (grown count) symbol (searching.found i here) goes in
    record {
      some = omega (arith, some);
      here = omega (arith, here);
      first = kept 0 some ∙ searching.first;
      root = kept_word 0 some ∙ searching.root;
      found = λ m m_in. found_grown step start key grown word longer count m searching.found kept kept_word new
          (last_or_before m count m_in);
      ascending = λ a m less m_in. ascending_grown word longer count a m searching.ascending kept_word
          (λ a a_in. subst (λ x. IsBefore (word a) x) (sym added) (searching.ahead here a a_in)) less (last_or_before m count m_in);
      ahead = λ later m m_in. ahead_grown word longer count i symbol m here (searching.ahead here) kept_word added (last_or_before m count m_in);
      moves = λ j s at. moves_grown step key grown next more count i symbol j s here kept (searching.moves j s)
          (λ t at e. (searching.least j s t at e).0) (same j s) goes leads (done i symbol j s at);
      least = λ j s t at e. least_grown next more word longer count i symbol j s t here kept_word added
          (searching.least j s t) (same j s) leads (done i symbol j s at) e;
    }
