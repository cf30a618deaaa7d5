-- The ends of words, and words with one more symbol at the end.
use Rattle.std.proofs.Common.{◌≡◌, ℕ, zero, suc, ◌+◌, ◌-◌, ◌≤◌, List, [], ◌∷◌, ◌++◌, ◌⊎◌, inl, inr, length, replicate, refl, ap, sym, ◌∙◌, arith, append_assoc, append-nil, length-append}
use Rattle.std.proofs.lemmas.List.{same_from_push, length-replicate, replicate-append-replicate}
use Rattle.std.proofs.lemmas.Bool.{cases_lt}
use Rattle.constraint_spec.specs.Word.{IsFactor, IsPrefix, IsSuffix}

pub IsSuffix-nil : (w : List ℕ) → IsSuffix [] w
IsSuffix-nil w = record { before = w; joined = sym (append-nil w) }

pub IsSuffix-same : (w : List ℕ) → IsSuffix w w
IsSuffix-same w = record { before = []; joined = refl }

pub IsSuffix-cons : (v : List ℕ) (symbol : ℕ) (w : List ℕ) → IsSuffix v w → IsSuffix v (symbol ∷ w)
IsSuffix-cons v symbol w end = record { before = symbol ∷ end.before; joined = ap (λ w. symbol ∷ w) end.joined }

pub IsSuffix-trans : (u v w : List ℕ) → IsSuffix u v → IsSuffix v w → IsSuffix u w
IsSuffix-trans u v w inner outer = record {
  before = outer.before ++ inner.before;
  joined = outer.joined ∙ ap (λ v. outer.before ++ v) inner.joined ∙ sym (append_assoc outer.before inner.before u);
}

-- what ends a word is a part of it
pub IsFactor-suffix : (v w : List ℕ) → IsSuffix v w → IsFactor v w
IsFactor-suffix v w end =
    record { before = end.before; after = []; joined = end.joined ∙ ap (λ v. end.before ++ v) (sym (append-nil v)) }

-- a suffix is no longer than the word
pub IsSuffix-length : (v w : List ℕ) → IsSuffix v w → length v ≤ length w
IsSuffix-length v w end = omega (arith, ap length end.joined ∙ length-append end.before v)

suffix_by :
    (v : List ℕ) (symbol : ℕ) (w before : List ℕ) → symbol ∷ w ≡ before ++ v → (v ≡ symbol ∷ w) ⊎ IsSuffix v w
suffix_by v symbol w [] joined = inl (sym joined)
suffix_by v symbol w (first ∷ before) joined =
    let rest : w ≡ before ++ v = cc in inr (record { before = before; joined = rest })

-- a suffix is the whole word, or one of what follows its first symbol
pub IsSuffix-cons_cases :
    (v : List ℕ) (symbol : ℕ) (w : List ℕ) → IsSuffix v (symbol ∷ w) → (v ≡ symbol ∷ w) ⊎ IsSuffix v w
IsSuffix-cons_cases v symbol w end = suffix_by v symbol w end.before end.joined

nothing_by : (v before : List ℕ) → [] ≡ before ++ v → v ≡ []
nothing_by v [] joined = sym joined
nothing_by v (first ∷ before) joined = absurd (cc)

-- the empty word has no other suffix than itself
pub suffix_of_nothing : (v : List ℕ) → IsSuffix v [] → v ≡ []
suffix_of_nothing v end = nothing_by v end.before end.joined

nested_by : (u v before other : List ℕ) → before ++ u ≡ other ++ v → length other ≤ length before → IsSuffix u v
nested_by u v before [] same fits = record { before = before; joined = sym same }
nested_by u v [] (y ∷ other) same fits = absurd (omega arith)
nested_by u v (x ∷ before) (y ∷ other) same fits =
    let rest : before ++ u ≡ other ++ v = cc in nested_by u v before other rest (omega arith)

-- of two suffixes of a word the shorter is one of the longer
pub IsSuffix-nested : (u v w : List ℕ) → IsSuffix u w → IsSuffix v w → length u ≤ length v → IsSuffix u v
IsSuffix-nested u v w short long fits =
    let first : length w ≡ length short.before + length u = ap length short.joined ∙ length-append short.before u in
    let second : length w ≡ length long.before + length v = ap length long.joined ∙ length-append long.before v in
    nested_by u v short.before long.before (sym short.joined ∙ long.joined) (omega arith)

same_by : (u v before : List ℕ) → v ≡ before ++ u → length u ≡ length v → u ≡ v
same_by u v [] joined same = sym joined
same_by u v (x ∷ before) joined same =
    absurd (omega (arith, ap length joined ∙ length-append (x ∷ before) u))

-- a suffix as long as the word is the word
pub IsSuffix-whole : (u v : List ℕ) → IsSuffix u v → length u ≡ length v → u ≡ v
IsSuffix-whole u v end same = same_by u v end.before end.joined same

-- a suffix with one more symbol is one of the word with that symbol
pub suffix_more : (v w : List ℕ) (symbol : ℕ) → IsSuffix v w → IsSuffix (v ++ symbol ∷ []) (w ++ symbol ∷ [])
suffix_more v w symbol end = record {
  before = end.before;
  joined = ap (λ w. w ++ symbol ∷ []) end.joined ∙ append_assoc end.before v (symbol ∷ []);
}

-- and each that has a symbol comes so
pub suffix_less :
    (v w : List ℕ) (s t : ℕ) → IsSuffix (v ++ s ∷ []) (w ++ t ∷ []) → IsSuffix v w × (t ≡ s)
suffix_less v w s t end =
    let same = same_from_push w (end.before ++ v) t s (end.joined ∙ sym (append_assoc end.before v (s ∷ []))) in
    (record { before = end.before; joined = same.0 }, same.1)

last_by :
    (s : ℕ) (w : List ℕ) → (w ≡ []) ⊎ ((front : List ℕ) × (symbol : ℕ) × (w ≡ front ++ symbol ∷ []))
    → (front : List ℕ) × (symbol : ℕ) × (s ∷ w ≡ front ++ symbol ∷ [])
last_by s w (inl none) = ([], s, ap (λ w. s ∷ w) none)
last_by s w (inr some) = (s ∷ some.0, some.1, ap (λ w. s ∷ w) some.2)

-- a word is empty or has a last symbol
pub last_of : (w : List ℕ) → (w ≡ []) ⊎ ((front : List ℕ) × (symbol : ℕ) × (w ≡ front ++ symbol ∷ []))
last_of [] = inl refl
last_of (s ∷ w) = inr (last_by s w (last_of w))

factor_by :
    (v w before after : List ℕ) (symbol : ℕ) → w ++ symbol ∷ [] ≡ before ++ (v ++ after)
    → (after ≡ []) ⊎ ((front : List ℕ) × (last : ℕ) × (after ≡ front ++ last ∷ []))
    → IsSuffix v (w ++ symbol ∷ []) ⊎ IsFactor v w
factor_by v w before after symbol joined (inl none) =
    inl (record { before = before; joined = joined ∙ ap (λ after. before ++ (v ++ after)) none ∙ ap (λ v. before ++ v) (append-nil v) })
factor_by v w before after symbol joined (inr some) =
    let whole : w ++ symbol ∷ [] ≡ (before ++ (v ++ some.0)) ++ some.1 ∷ [] =
    joined ∙ ap (λ after. before ++ (v ++ after)) some.2 ∙ simp append_assoc in
    inr (record { before = before; after = some.0; joined = (same_from_push w (before ++ (v ++ some.0)) symbol some.1 whole).0 })

-- a part of a word with one more symbol ends it, or is a part of the word
pub IsFactor-push_cases :
    (v w : List ℕ) (symbol : ℕ) → IsFactor v (w ++ symbol ∷ []) → IsSuffix v (w ++ symbol ∷ []) ⊎ IsFactor v w
IsFactor-push_cases v w symbol part =
    factor_by v w part.before part.after symbol part.joined (last_of part.after)

-- a prefix of a prefix is a prefix
pub IsPrefix-front : (v u w : List ℕ) → IsPrefix (v ++ u) w → IsPrefix v w
IsPrefix-front v u w begins = record {
  after =
      u ++ begins.after;
  joined = begins.joined ∙ append_assoc v u begins.after;
}

-- a run of 0s has a 0 at its end
pub zeros_push : (n : ℕ) → ◌++◌ {A = ℕ} (replicate n 0) (0 ∷ []) ≡ replicate (suc n) 0
zeros_push zero = refl
zeros_push (suc n) = ap (λ w. 0 ∷ w) (zeros_push n)

-- a word that ends with a run of 0s ends with each shorter one
pub fewer_zeros : (m n : ℕ) (w : List ℕ) → m ≤ n → IsSuffix (replicate n 0) w → IsSuffix (replicate m 0) w
fewer_zeros m n w fits end =
    let whole : n - m + m ≡ n = omega arith in
    let shorter : IsSuffix (replicate m 0) (replicate n 0) = record {
      before = replicate (n - m) 0;
      joined = ap (λ n. replicate n 0) (sym whole) ∙ sym (replicate-append-replicate (n - m) m 0);
    } in
    IsSuffix-trans (replicate m 0) (replicate n 0) w shorter end

no_one : (m n : ℕ) (before : List ℕ) → replicate m 0 ≡ before ++ (1 ∷ replicate n 0) → ⊥
no_one zero n [] joined = cc
no_one (suc m) n [] joined = cc
no_one zero n (x ∷ before) joined = cc
no_one (suc m) n (x ∷ before) joined =
    let rest : replicate m 0 ≡ before ++ (1 ∷ replicate n 0) = cc in no_one m n before rest

-- no more than n 0s end a word that ends with a 1 and n 0s
pub zeros_behind_one :
    (m n : ℕ) (w : List ℕ) → IsSuffix (1 ∷ replicate n 0) w → IsSuffix (replicate m 0) w → m ≤ n
zeros_behind_one m n w one zeros = elim (cases_lt n m) [
  | inl more ↦ absurd (
      let inside = IsSuffix-nested (1 ∷ replicate n 0) (replicate m 0) w one zeros
      (omega (arith, length-replicate {A = ℕ} n 0, length-replicate {A = ℕ} m 0)) in
      no_one m n inside.before inside.joined)
  | inr fits ↦ fits
]
