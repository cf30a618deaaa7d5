-- The run of 0s that a word begins with: it is the longest one there, and only one.
use Rattle.std.proofs.Common.{◌≡◌, ◌≢◌, ℕ, zero, suc, ◌+◌, ◌-◌, ◌≤◌, List, [], ◌∷◌, ◌++◌, replicate, refl, ap, sym, ◌∙◌, subst, append_assoc, add-one, arith}
use Rattle.std.proofs.lemmas.List.{replicate-append-replicate}
use Rattle.constraint_spec.specs.Word.{IsFactor}
use Rattle.constraint_model.specs.inside.Front.{IsDemand}

-- no longer run of 0s begins the word
pub run_at_most :
    (d least m n : ℕ) (rest after : List ℕ) → IsDemand d rest least → replicate m 0 ++ rest ≡ replicate n 0 ++ after
    → n ≤ m
run_at_most d least m zero rest after demand e = omega arith
run_at_most d least zero (suc n) [] after demand e = absurd (cc)
run_at_most d least zero (suc n) (symbol ∷ rest) after demand e = absurd (demand.0 (cc))
run_at_most d least (suc m) (suc n) rest after demand e =
    let same : replicate m 0 ++ rest ≡ replicate n 0 ++ after = cc in
    let shorter = run_at_most d least m n rest after demand same in omega arith

-- a 1 behind a run of 0s is the one behind the run that begins the word
pub one_behind :
    (d least m n : ℕ) (rest after : List ℕ) → IsDemand d rest least
    → replicate m 0 ++ rest ≡ replicate n 0 ++ (1 ∷ after) → (n ≡ m) × (least ≡ d)
one_behind d least zero zero [] after demand e = absurd (cc)
one_behind d least zero zero (symbol ∷ rest) after demand e = (refl, demand.1 (cc))
one_behind d least (suc m) zero rest after demand e = absurd (cc)
one_behind d least zero (suc n) [] after demand e = absurd (cc)
one_behind d least zero (suc n) (symbol ∷ rest) after demand e = absurd (demand.0 (cc))
one_behind d least (suc m) (suc n) rest after demand e =
    let same : replicate m 0 ++ rest ≡ replicate n 0 ++ (1 ∷ after) = cc in
    let found = one_behind d least m n rest after demand same in (omega arith, found.1)

-- a run of 0s begins each word that begins with a longer run
pub run_within : (m n : ℕ) (rest : List ℕ) → m ≤ n → IsFactor (replicate m 0) (replicate n 0 ++ rest)
run_within m n rest fits =
    let whole : n ≡ m + (n - m) = omega arith in
    record {
      before = [];
      after = replicate (n - m) 0 ++ rest;
      joined =
          ap (λ run. replicate run 0 ++ rest) whole
          ∙ ap (λ run. run ++ rest) (sym (replicate-append-replicate m (n - m) 0))
          ∙ append_assoc (replicate m 0) (replicate (n - m) 0) rest;
    }

-- a run of 0s begins no word that begins with another symbol
pub no_run : (n symbol : ℕ) (w after : List ℕ) → symbol ≢ 0 → symbol ∷ w ≡ replicate (n + 1) 0 ++ after → ⊥
no_run n symbol w after not_zero e =
    let P : ℕ → Type 0 = λ m. symbol ∷ w ≡ replicate m 0 ++ after in
    let zero_first : symbol ∷ w ≡ 0 ∷ (replicate n 0 ++ after) = subst P (add-one n) e in
    not_zero (cc)
