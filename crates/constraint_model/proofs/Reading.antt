-- One more symbol before a part that was read: when it is no word, and else what its front is.
use Rattle.std.proofs.Common.{◌≡◌, ◌≢◌, ℕ, suc, ◌+◌, ◌-◌, ◌<◌, ◌≤◌, List, [], ◌∷◌, ◌++◌, length, reverse, drop, get_or, replicate, ◌⊎◌, inl, inr, ⊎_elim, refl, ap, sym, ◌∙◌, subst, ap₂, append_assoc, add-one, length-append, drop-cons, arith}
use Rattle.std.proofs.lemmas.List.{length-reverse, length-replicate, get_or-reverse}
use Rattle.std.proofs.lemmas.List.Elements.{All-from_recursion, recursion_from_All}
use Rattle.std.proofs.lemmas.Bool.{cases_eq}
use Rattle.symbol_base.specs.Word.{IsOver}
use Rattle.constraint_spec.specs.Word.{IsFactor}
use Rattle.constraint_spec.specs.Constraint.{IsWordOf}
use Rattle.constraint_spec.proofs.Factors.{IsFactor-nil, IsFactor-drop, IsFactor-cons_cases}
use Rattle.constraint_spec.proofs.Words.{IsWordOf-factor}
use Rattle.constraint_model.specs.inside.Front.{limited, IsDemand, IsLengthened, IsRead}
use Rattle.constraint_model.specs.declared.words.Front.{Front}
use Rattle.constraint_model.specs.declared.words.Limits.{Limits}
use Rattle.constraint_model.proofs.Runs.{run_at_most, one_behind, run_within, no_run}

-- the first symbol of a word over an alphabet
first_over : (alphabet symbol : ℕ) (w : List ℕ) → IsOver alphabet (symbol ∷ w) → symbol < alphabet
first_over alphabet symbol w over = (recursion_from_All (λ s. s < alphabet) (symbol ∷ w) over).0

-- one more symbol of the alphabet
over_more : (alphabet symbol : ℕ) (w : List ℕ) → symbol < alphabet → IsOver alphabet w → IsOver alphabet (symbol ∷ w)
over_more alphabet symbol w below over = All-from_recursion (λ s. s < alphabet) (symbol ∷ w) (below, recursion_from_All (λ s. s < alphabet) w over)

-- a 1 comes before a run of 0s of which another 1 stands behind
another_behind :
    (run : ℕ) (symbol : ℕ) (rest w : List ℕ) → symbol ≡ 1 → w ≡ replicate run 0 ++ (symbol ∷ rest)
    → IsFactor (1 ∷ (replicate run 0 ++ 1 ∷ [])) (1 ∷ w)
another_behind run symbol rest w is_one joined = record {
  before = [];
  after = rest;
  joined =
      ap (λ w. 1 ∷ w)
      (joined ∙ ap (λ s. replicate run 0 ++ (s ∷ rest)) is_one
      ∙ sym (append_assoc (replicate run 0) (1 ∷ []) rest));
}

-- a run of 0s before which no 1 may come has another 1 behind it, and is shorter than d
short_by_demand :
    (d least run : ℕ) (rest w : List ℕ) → IsDemand d rest least → run < least → w ≡ replicate run 0 ++ rest
    → ((n : ℕ) → IsFactor (1 ∷ (replicate n 0 ++ 1 ∷ [])) (1 ∷ w) → d ≤ n) → ⊥
short_by_demand d least run [] w demand short joined ones = omega (arith, demand)
short_by_demand d least run (symbol ∷ rest) w demand short joined ones =
    ⊎_elim
    (λ (is_one : symbol ≡ 1).
    omega (arith, demand.1 is_one, ones run (another_behind run symbol rest w is_one joined)))
    (λ (other : symbol ≢ 1). omega (arith, demand.2 other))
    (cases_eq symbol 1)

-- a 1 before too short a run of 0s, with another 1 behind, makes no word
pub no_word_short :
    (limits : Limits) (front : Front) (w : List ℕ) → IsRead limits front w → front.zeros < front.least
    → IsWordOf (limited limits) (1 ∷ w) → ⊥
no_word_short limits front w read short word =
    short_by_demand limits.d front.least front.zeros read.rest w read.demand short read.joined word.ones

-- a 0 before a run that is as long as may be makes no word
pub no_word_long :
    (limits : Limits) (front : Front) (w : List ℕ) → IsRead limits front w → limits.most ≤ front.zeros
    → IsWordOf (limited limits) (0 ∷ w) → ⊥
no_word_long limits front w read long word =
    let joined : replicate (suc front.zeros) 0 ++ read.rest ≡ 0 ∷ w = ap (λ w. 0 ∷ w) (sym read.joined) in
    let fits : limits.most + 1 ≤ suc front.zeros = omega arith in
    let found = run_within (limits.most + 1) (suc front.zeros) read.rest fits in
    word.zeros (subst (λ w. IsFactor (replicate (limits.most + 1) 0) w) joined found)

-- any symbol but 0 ends the run
run_ended :
    (d : ℕ) (front longer : Front) (symbol : ℕ) → IsLengthened d front symbol longer → symbol ≢ 0 → longer.zeros ≡ 0
run_ended d front longer symbol lengthened not_zero =
    ⊎_elim
    (λ (is_one : symbol ≡ 1). (lengthened.one is_one).0)
    (λ (not_one : symbol ≢ 1). (lengthened.other not_zero not_one).0)
    (cases_eq symbol 1)

-- a symbol that breaks a limit makes no word
pub no_word :
    (limits : Limits) (front longer : Front) (symbol : ℕ) (w : List ℕ) → IsRead limits front w
    → IsLengthened limits.d front symbol longer
    → ((symbol ≡ 1) × (front.zeros < front.least)) ⊎ ((limits.most < longer.zeros) ⊎ (limits.alphabet ≤ symbol))
    → IsWordOf (limited limits) (symbol ∷ w) → ⊥
no_word limits front longer symbol w read lengthened (inl short) word =
    no_word_short limits front w read short.1 (subst (λ s. IsWordOf (limited limits) (s ∷ w)) short.0 word)
no_word limits front longer symbol w read lengthened (inr (inl long)) word =
    ⊎_elim
    (λ (is_zero : symbol ≡ 0).
    no_word_long limits front w read (omega (arith, lengthened.zero is_zero))
    (subst (λ s. IsWordOf (limited limits) (s ∷ w)) is_zero word))
    (λ (not_zero : symbol ≢ 0). omega (arith, run_ended limits.d front longer symbol lengthened not_zero))
    (cases_eq symbol 0)
no_word limits front longer symbol w read lengthened (inr (inr outside)) word = omega (arith, first_over limits.alphabet symbol w word.symbols)

-- a word in front of which a symbol makes no run too short and none too long
word_more :
    (limits : Limits) (symbol : ℕ) (w : List ℕ) → symbol < limits.alphabet → IsWordOf (limited limits) w
    → ((n : ℕ) (after : List ℕ) → symbol ∷ w ≡ (1 ∷ (replicate n 0 ++ 1 ∷ [])) ++ after → limits.d ≤ n)
    → ((after : List ℕ) → symbol ∷ w ≡ replicate (limits.most + 1) 0 ++ after → ⊥)
    → IsWordOf (limited limits) (symbol ∷ w)
word_more limits symbol w over word no_short no_long = record {
  symbols = over_more limits.alphabet symbol w over word.symbols;
  ones =
      λ n found.
      ⊎_elim (λ front. no_short n front.0 front.1) (λ part. word.ones n part) (IsFactor-cons_cases _ symbol w found);
  zeros =
      λ found. ⊎_elim (λ front. no_long front.0 front.1) (λ part. word.zeros part) (IsFactor-cons_cases _ symbol w found);
  forbidden = λ v listed found. omega (arith, listed.1);
  walked = λ given. absurd (given refl);
}

-- 1 is not 0
one≢zero : ◌≢◌ {A = ℕ} 1 0
one≢zero e = cc

-- two 1s with a run of 0s between them, the first one before the front: the run has d 0s
d_behind :
    (limits : Limits) (front : Front) (n : ℕ) (w after : List ℕ) → IsRead limits front w → front.least ≤ front.zeros
    → 1 ∷ w ≡ (1 ∷ (replicate n 0 ++ 1 ∷ [])) ++ after → limits.d ≤ n
d_behind limits front n w after read enough e =
    let behind : w ≡ (replicate n 0 ++ 1 ∷ []) ++ after = cc in
    let same : replicate front.zeros 0 ++ read.rest ≡ replicate n 0 ++ (1 ∷ after) =
    sym read.joined ∙ behind ∙ append_assoc (replicate n 0) (1 ∷ []) after in
    omega (arith, one_behind _ _ front.zeros n read.rest after read.demand same)

-- a 0 before a part that was read makes its run of 0s one longer
pub read_zero :
    (limits : Limits) (front longer : Front) (w : List ℕ) → IsRead limits front w → 0 < limits.alphabet
    → longer.zeros ≡ front.zeros + 1 → longer.least ≡ front.least → longer.zeros ≤ limits.most
    → IsRead limits longer (0 ∷ w)
read_zero limits front longer w read over run least within =
    let more : suc front.zeros ≡ longer.zeros = omega arith in
    let joined : 0 ∷ w ≡ replicate longer.zeros 0 ++ read.rest =
    ap (λ w. 0 ∷ w) read.joined ∙ ap (λ n. replicate n 0 ++ read.rest) more in
    let demand : IsDemand limits.d read.rest longer.least =
    subst (λ n. IsDemand limits.d read.rest n) (sym least) read.demand in
    record {
      word =
          word_more limits 0 w over read.word (λ n after e. absurd (cc))
          (λ after e.
          omega (arith, run_at_most _ _ longer.zeros (limits.most + 1) read.rest after demand (sym joined ∙ e)));
      rest = read.rest;
      joined = joined;
      demand = demand;
    }

-- a 1 before a part that was read is where the next run of 0s ends
pub read_one :
    (limits : Limits) (front longer : Front) (w : List ℕ) → IsRead limits front w → 1 < limits.alphabet
    → front.least ≤ front.zeros → longer.zeros ≡ 0 → longer.least ≡ limits.d → IsRead limits longer (1 ∷ w)
read_one limits front longer w read over enough run least =
    record {
      word =
          word_more limits 1 w over read.word (λ n after e. d_behind limits front n w after read enough e)
          (λ after e. no_run limits.most 1 w after one≢zero e);
      rest = 1 ∷ w;
      joined = ap (λ n. replicate n 0 ++ (1 ∷ w)) (sym run);
      demand = (one≢zero, λ _. least, λ not_one. absurd (not_one refl));
    }

-- a symbol other than 0 and 1 is where a run of 0s ends that may be of any length
pub read_other :
    (limits : Limits) (front longer : Front) (symbol : ℕ) (w : List ℕ) → IsRead limits front w
    → symbol < limits.alphabet → symbol ≢ 0 → symbol ≢ 1 → longer.zeros ≡ 0 → longer.least ≡ 0
    → IsRead limits longer (symbol ∷ w)
read_other limits front longer symbol w read over not_zero not_one run least =
    record {
      word =
          word_more limits symbol w over read.word (λ n after e. absurd (not_one (cc)))
          (λ after e. no_run limits.most symbol w after not_zero e);
      rest = symbol ∷ w;
      joined = ap (λ n. replicate n 0 ++ (symbol ∷ w)) (sym run);
      demand = (not_zero, λ is_one. absurd (not_one is_one), λ _. least);
    }

-- a symbol that keeps the limits makes a longer part
pub read_more :
    (limits : Limits) (front longer : Front) (symbol : ℕ) (w : List ℕ) → IsRead limits front w
    → IsLengthened limits.d front symbol longer → (symbol ≡ 1 → front.least ≤ front.zeros)
    → longer.zeros ≤ limits.most → symbol < limits.alphabet → IsRead limits longer (symbol ∷ w)
read_more limits front longer symbol w read lengthened enough within over =
    ⊎_elim
    (λ (is_zero : symbol ≡ 0).
    let now = lengthened.zero is_zero in
    subst (λ s. IsRead limits longer (s ∷ w)) (sym is_zero)
    (read_zero limits front longer w read (omega arith) now.0 now.1 within))
    (λ (not_zero : symbol ≢ 0).
    ⊎_elim
    (λ (is_one : symbol ≡ 1).
    let now = lengthened.one is_one in
    subst (λ s. IsRead limits longer (s ∷ w)) (sym is_one)
    (read_one limits front longer w read (omega arith) (enough is_one) now.0 now.1))
    (λ (not_one : symbol ≢ 1).
    let now = lengthened.other not_zero not_one in
    read_other limits front longer symbol w read over not_zero not_one now.0 now.1)
    (cases_eq symbol 1))
    (cases_eq symbol 0)

-- the empty part is a word
nothing_is_word : (limits : Limits) → IsWordOf (limited limits) []
nothing_is_word limits = record {
  symbols = λ k d inside. absurd (omega arith);
  ones = λ n found. absurd (IsFactor-nil 1 _ found);
  zeros =
      let P : ℕ → Type 0 = λ n. IsFactor (replicate n 0) [] → ⊥ in
      subst P (sym (add-one limits.most)) (λ found. IsFactor-nil 0 _ found);
  forbidden = λ v listed found. omega (arith, listed.1);
  walked = λ given. absurd (given refl);
}

-- before anything is read
pub read_nothing : (limits : Limits) (w : List ℕ) → w ≡ [] → IsRead limits (record { zeros = 0; least = 0 }) w
read_nothing limits w nothing =
    subst (λ w. IsRead limits (record { zeros = 0; least = 0 }) w) (sym nothing) (record {
      word = nothing_is_word limits;
      rest = [];
      joined = refl;
      demand = refl;
    })

-- a run of 0s in front is no longer than the part that was read
pub zeros_le_length :
    (limits : Limits) (front : Front) (w : List ℕ) → IsRead limits front w → front.zeros ≤ length w
zeros_le_length limits front w read =
    let whole : length w ≡ front.zeros + length read.rest = ap length read.joined ∙ simp (length-append, length-replicate) in
    omega arith

-- the symbol at a place counted from the end comes before what follows it
pub suffix_more :
    (w : List ℕ) (n symbol : ℕ) → n < length (reverse w) → symbol ≡ get_or (reverse w) n symbol
    → drop (length w - (n + 1)) w ≡ symbol ∷ drop (length w - n) w
suffix_more w n symbol within is =
    let fits : n < length w = omega (arith, length-reverse w) in
    let place : length w - 1 - n ≡ length w - (n + 1) = omega arith in
    let here : symbol ≡ get_or w (length w - (n + 1)) symbol =
    is ∙ get_or-reverse w n symbol fits ∙ ap (λ i. get_or w i symbol) place in
    let below : length w - (n + 1) < length w = omega arith in
    let next : suc (length w - (n + 1)) ≡ length w - n = omega arith in
    drop-cons w (length w - (n + 1)) symbol below ∙ ap₂ (λ s rest. s ∷ rest) (sym here) (ap (λ i. drop i w) next)

-- a part from which no longer one is a word belongs to no word
pub no_word_of_suffix :
    (limits : Limits) (n : ℕ) (v w : List ℕ) → drop n w ≡ v → (IsWordOf (limited limits) v → ⊥)
    → IsWordOf (limited limits) w → ⊥
no_word_of_suffix limits n v w is no_word word =
    no_word (IsWordOf-factor (limited limits) v w word (subst (λ part. IsFactor part w) is (IsFactor-drop n w)))
