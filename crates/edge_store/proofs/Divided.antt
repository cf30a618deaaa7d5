-- The items that are chosen by their marks, one mark after the other.
use Rattle.std.proofs.Common.{Bool, true, false, not, cond, if◌then◌else◌, ℕ, suc, ◌+◌, ◌<◌, ◌≤◌, ◌≡◌, List, [], ◌∷◌, ◌++◌, map, length, take, drop, get_or, refl, sym, ap, subst, ◌∙◌, append_assoc, append-nil, arith, drop_of_length-le, drop-cons, length-append}
use Rattle.std.specs.List.{filter, zip}

-- the first of the items goes to kept or to handed
pub counted : {X : Type 0} (mark : Bool) (items rest kept kept' handed handed' : List X) → 0 < length items → rest ≡ drop 1 items → kept' ≡ (if not mark then kept ++ take 1 items else kept) → handed' ≡ (if mark then handed ++ take 1 items else handed)
    → (length rest + 1 ≡ length items) × (length kept' + length handed' ≡ length kept + length handed + 1)
counted mark [] rest kept kept' handed handed' some gone k h = absurd (omega arith)
counted true (x ∷ items) rest kept kept' handed handed' some gone k h = let fewer = ap length gone in let same = ap length k in let more = ap length h ∙ length-append handed (x ∷ []) in (omega arith, omega arith)
counted false (x ∷ items) rest kept kept' handed handed' some gone k h = let fewer = ap length gone in let same = ap length h in let more = ap length k ∙ length-append kept (x ∷ []) in (omega arith, omega arith)

module _ {X : Type 0} (test : Bool → Bool) where
  abbrev pub chosen : List Bool → List X → List X
  chosen marks items = map (λ p. p.1) (filter (λ p. test p.0) (zip marks items))

  -- the first item is among them where its mark passes the test
  next : (mark : Bool) (marks : List Bool) (items had : List X) → 0 < length items → (if test mark then had ++ take 1 items else had) ++ chosen marks (drop 1 items) ≡ had ++ chosen (mark ∷ marks) items
  next mark marks [] had some = absurd (omega arith)
  next mark marks (x ∷ items) had some = go (test mark)
    where
      go : (b : Bool) → (if b then had ++ x ∷ [] else had) ++ chosen marks items ≡ had ++ map (λ p. p.1) (cond b ((mark, x) ∷ filter (λ p. test p.0) (zip marks items)) (filter (λ p. test p.0) (zip marks items)))
      go true = append_assoc had (x ∷ []) (chosen marks items)
      go false = refl

  -- had and what is still to choose make all; so do more and what is to choose after the next mark
  pub chosen-next : (marks : List Bool) (i : ℕ) (items rest had more all : List X) → i < length marks → 0 < length items → rest ≡ drop 1 items → more ≡ (if test (get_or marks i false) then had ++ take 1 items else had)
      → had ++ chosen (drop i marks) items ≡ all → more ++ chosen (drop (i + 1) marks) rest ≡ all
  chosen-next marks i items rest had more all within some gone taken all-is =
      let on : suc i ≡ i + 1 = omega arith in
      let mark = get_or marks i false in
      let opens : drop i marks ≡ mark ∷ drop (i + 1) marks = subst (λ j. drop i marks ≡ mark ∷ drop j marks) on (drop-cons marks i false within) in
      (λ j. taken j ++ chosen (drop (i + 1) marks) (gone j)) ∙ next mark (drop (i + 1) marks) items had some ∙ ap (λ ms. had ++ chosen ms items) (sym opens) ∙ all-is

  -- nothing is to choose after the last mark
  pub chosen-done : (marks : List Bool) (i : ℕ) (items had all : List X) → length marks ≤ i → had ++ chosen (drop i marks) items ≡ all → had ≡ all
  chosen-done marks i items had all past all-is = sym (append-nil had) ∙ ap (λ ms. had ++ chosen ms items) (sym (drop_of_length-le marks {i = i} past)) ∙ all-is
