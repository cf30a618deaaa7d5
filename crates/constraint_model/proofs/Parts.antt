-- A part of a word begins at some place of it.
use Rattle.std.proofs.Common.{◌≡◌, ℕ, ◌+◌, ◌-◌, ◌<◌, List, ◌++◌, length, take, drop, Bool, true, refl, ap, sym, ◌∙◌, subst, eqb, arith, length-append, take-append-drop}
use Rattle.std.specs.List.{starts_with}
use Rattle.std.proofs.lemmas.List.{drop_at}
use Rattle.std.proofs.lemmas.Bool.Decides.{Decides-eqb}
use Rattle.std.proofs.lemmas.Slice.{between_to_end}
use Rattle.std.proofs.lemmas.Slice.Eq.{starts_is}
use Rattle.constraint_spec.specs.Word.{IsFactor}

-- what begins at a place of a word is a part of it
part_at : (part word : List ℕ) (place : ℕ) (rest : List ℕ) → drop place word ≡ part ++ rest → IsFactor part word
part_at part word place rest begins = record {
  before = take place word;
  after = rest;
  joined = sym (take-append-drop place word) ∙ ap (λ end. take place word ++ end) begins;
}

-- whether what follows a place of a word starts with the part tells whether the part begins there
pub begins_there :
    (part word : List ℕ) (place : ℕ) (b : Bool) → b ≡ starts_with eqb (take (length word - place) (drop place word)) part
    → (b ≡ true → IsFactor part word) × ((rest : List ℕ) → drop place word ≡ part ++ rest → b ≡ true)
begins_there part word place b is =
    let end = between_to_end word place (length word) (omega arith) in
    let tested = starts_is Decides-eqb (drop place word) part b (subst (λ w. b ≡ starts_with eqb w part) end is) in
    ((λ yes. part_at part word place _ (tested.0 yes)), tested.1)

-- a part that begins at no place is none
pub begins_nowhere :
    (part word : List ℕ) → ((place : ℕ) → place < length word + 1 → (rest : List ℕ) → drop place word ≡ part ++ rest → ⊥)
    → IsFactor part word → ⊥
begins_nowhere part word nowhere found =
    let count : length word ≡ length found.before + length (part ++ found.after) = ap length found.joined ∙ length-append found.before (part ++ found.after) in
    nowhere (length found.before) (omega arith) found.after
    (ap (λ w. drop (length found.before) w) found.joined ∙ drop_at found.before (part ++ found.after) (length found.before) refl)
