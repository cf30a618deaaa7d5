-- Parts of words: how they stand in one another, and in a word with one more symbol in front.
use Rattle.std.proofs.Common.{◌≡◌, ℕ, ◌+◌, ◌<◌, ◌≤◌, List, [], ◌∷◌, ◌++◌, ◌⊎◌, inl, inr, refl, ap, sym, ◌∙◌, subst, append_assoc, append-nil, arith, length, take, drop, length-append, take-append-drop}
use Rattle.std.specs.List.{AllByRecursion}
use Rattle.std.proofs.lemmas.List.Elements.{All-from_recursion, recursion_from_All}
use Rattle.symbol_base.specs.Word.{IsOver}
use Rattle.constraint_spec.specs.Word.{IsFactor}

-- a word is a part of itself
pub IsFactor-same : (w : List ℕ) → IsFactor w w
IsFactor-same w = record { before = []; after = []; joined = sym (append-nil w) }

-- a front of a word is a part of it
pub IsFactor-front : (v after : List ℕ) → IsFactor v (v ++ after)
IsFactor-front v after = record { before = []; after = after; joined = refl }

-- an end of a word is a part of it
pub IsFactor-end : (before v : List ℕ) → IsFactor v (before ++ v)
IsFactor-end before v = record { before = before; after = []; joined = ap (λ end. before ++ end) (sym (append-nil v)) }

-- a part of a part is a part
pub IsFactor-trans : (u v w : List ℕ) → IsFactor u v → IsFactor v w → IsFactor u w
IsFactor-trans u v w inner outer = record {
  before = outer.before ++ inner.before;
  after = inner.after ++ outer.after;
  joined =
      outer.joined ∙ ap (λ v. outer.before ++ (v ++ outer.after)) inner.joined
      ∙ simp append_assoc;
}

-- a part of a word stays one when a symbol comes in front
pub IsFactor-cons : (v : List ℕ) (symbol : ℕ) (w : List ℕ) → IsFactor v w → IsFactor v (symbol ∷ w)
IsFactor-cons v symbol w part = record {
  before = symbol ∷ part.before;
  after = part.after;
  joined = ap (λ w. symbol ∷ w) part.joined;
}

by_before :
    (v : List ℕ) (symbol : ℕ) (w before after : List ℕ) → symbol ∷ w ≡ before ++ (v ++ after)
    → ((after : List ℕ) × (symbol ∷ w ≡ v ++ after)) ⊎ IsFactor v w
by_before v symbol w [] after joined = inl (after, joined)
by_before v symbol w (first ∷ before) after joined =
    let rest : w ≡ before ++ (v ++ after) = cc in inr (record { before = before; after = after; joined = rest })

-- a part of a word begins at its first symbol, or is a part of what follows that
pub IsFactor-cons_cases :
    (v : List ℕ) (symbol : ℕ) (w : List ℕ) → IsFactor v (symbol ∷ w)
    → ((after : List ℕ) × (symbol ∷ w ≡ v ++ after)) ⊎ IsFactor v w
IsFactor-cons_cases v symbol w part = by_before v symbol w part.before part.after part.joined

not_joined : (symbol : ℕ) (v before after : List ℕ) → [] ≡ before ++ (symbol ∷ v ++ after) → ⊥
not_joined symbol v [] after joined = cc
not_joined symbol v (first ∷ before) after joined = cc

-- the empty word has no part with a symbol
pub IsFactor-nil : (symbol : ℕ) (v : List ℕ) → IsFactor (symbol ∷ v) [] → ⊥
IsFactor-nil symbol v part = not_joined symbol v part.before part.after part.joined

AllByRecursion-front : (P : ℕ → Type 0) (v w : List ℕ) → AllByRecursion P (v ++ w) → AllByRecursion P v
AllByRecursion-front P [] w all = tt
AllByRecursion-front P (symbol ∷ v) w all = (all.0, AllByRecursion-front P v w all.1)

AllByRecursion-end : (P : ℕ → Type 0) (v w : List ℕ) → AllByRecursion P (v ++ w) → AllByRecursion P w
AllByRecursion-end P [] w all = all
AllByRecursion-end P (symbol ∷ v) w all = AllByRecursion-end P v w all.1

-- what holds of each symbol of a word holds of each of a part
AllByRecursion-factor :
    (P : ℕ → Type 0) (v w : List ℕ) → IsFactor v w → AllByRecursion P w → AllByRecursion P v
AllByRecursion-factor P v w part all =
    let whole = subst (λ word. AllByRecursion P word) part.joined all in
    AllByRecursion-front P v part.after (AllByRecursion-end P part.before (v ++ part.after) whole)

-- a part of a word is no longer than the word
pub IsFactor-length : (v w : List ℕ) → IsFactor v w → length v ≤ length w
IsFactor-length v w part =
    let joined : length w ≡ length part.before + (length v + length part.after) =
    ap length part.joined ∙ simp length-append in
    omega arith

-- a part of a word over an alphabet is over it
pub IsOver-factor : (alphabet : ℕ) (v w : List ℕ) → IsFactor v w → IsOver alphabet w → IsOver alphabet v
IsOver-factor alphabet v w part over =
    let P = λ (symbol : ℕ). symbol < alphabet in
    All-from_recursion P v (AllByRecursion-factor P v w part (recursion_from_All P w over))

-- what is left of a word without its first symbols is a part of it
pub IsFactor-drop : (n : ℕ) (w : List ℕ) → IsFactor (drop n w) w
IsFactor-drop n w = subst (λ whole. IsFactor (drop n w) whole) (take-append-drop n w) (IsFactor-end (take n w) (drop n w))
