-- Lists are cut into chunks of one length and a rest, in one way.
use Rattle.std.proofs.Common.{◌≡◌, ℕ, zero, suc, ◌<◌, ◌≤◌, List, [], ◌∷◌, ◌++◌, length, take, drop, refl, sym, ap, ap₂, ◌∙◌, subst, inl, inr, arith, append_assoc}
use Rattle.std.specs.Prelude.{All}
use Rattle.std.specs.List.{flat_map}
use Rattle.std.proofs.Math.Seq.{take-append_seam, drop-append_seam}
use Rattle.std.proofs.lemmas.Bool.{cases_lt}
use Rattle.std.proofs.lemmas.List.{length-append, length-take-le, length-drop, take-append-drop}
use Rattle.std.proofs.lemmas.List.Elements.{All-nil, All-cons, All-head, All-tail, All-take, All-drop}

-- a chunk is longer than what stands behind the last
chunk_or_rest : (chunk more rest others : List ℕ) (size : ℕ) → length chunk ≡ size → length rest < size → rest ≡ (chunk ++ more) ++ others → ⊥
chunk_or_rest chunk more rest others size counted short same =
    let long = ap (λ (list : List ℕ). length list) same in
    omega (arith, long, length-append (chunk ++ more) others, length-append chunk more, counted, short)

-- the first chunks are one, and what stands behind them is one
first_chunk : (a b xs ys r s : List ℕ) → length a ≡ length b → (a ++ xs) ++ r ≡ (b ++ ys) ++ s → (a ≡ b) × (xs ++ r ≡ ys ++ s)
first_chunk a b xs ys r s counted same =
    let joined : a ++ (xs ++ r) ≡ b ++ (ys ++ s) = sym (append_assoc a xs r) ∙ same ∙ append_assoc b ys s in (
      sym (take-append_seam a (xs ++ r)) ∙ ap₂ (λ n (list : List ℕ). take n list) counted joined ∙ take-append_seam b (ys ++ s),
      sym (drop-append_seam a (xs ++ r)) ∙ ap₂ (λ n (list : List ℕ). drop n list) counted joined ∙ drop-append_seam b (ys ++ s),
    )

pub chunks_one :
    {A : Type 0} (f : A → List ℕ) (size : ℕ) (P : A → Type 0) → ((x : A) → length (f x) ≡ size)
    → ((x y : A) → P x → P y → f x ≡ f y → x ≡ y)
    → (xs ys : List A) (r s : List ℕ) → All P xs → All P ys → length r < size → length s < size
    → flat_map f xs ++ r ≡ flat_map f ys ++ s → (xs ≡ ys) × (r ≡ s)
chunks_one f size P counted single [] [] r s all all' short short' same = (refl, same)
chunks_one f size P counted single [] (y ∷ ys) r s all all' short short' same =
    absurd (chunk_or_rest (f y) (flat_map f ys) r s size (counted y) short same)
chunks_one f size P counted single (x ∷ xs) [] r s all all' short short' same =
    absurd (chunk_or_rest (f x) (flat_map f xs) s r size (counted x) short' (sym same))
chunks_one f size P counted single (x ∷ xs) (y ∷ ys) r s all all' short short' same =
    let parts = first_chunk (f x) (f y) (flat_map f xs) (flat_map f ys) r s (counted x ∙ sym (counted y)) same in
    let others = chunks_one f size P counted single xs ys r s (All-tail P x xs all) (All-tail P y ys all') short short' parts.1 in
    (ap₂ (λ first list. first ∷ list) (single x y (All-head P x xs all) (All-head P y ys all') parts.0) others.0, others.1)

-- The list is made of the chunks of items, and behind them stands less than a chunk.
pub record Cut {A : Type 0} (f : A → List ℕ) (size : ℕ) (P : A → Type 0) (list : List ℕ) : Type 0 where
  pub items : List A
  pub rest : List ℕ
  pub all : list ≡ flat_map f items ++ rest
  pub below : All P items
  pub part : length rest < size

-- less than a chunk is cut into no chunks
cut_none : {A : Type 0} (f : A → List ℕ) (size : ℕ) (P : A → Type 0) (list : List ℕ) → length list < size → Cut f size P list
cut_none f size P list short = record { items = []; rest = list; all = refl; below = All-nil P; part = short }

-- one chunk before those that are cut
cut_more : {A : Type 0} (f : A → List ℕ) (size : ℕ) (P : A → Type 0) (first behind : List ℕ) (x : A) → f x ≡ first → P x → Cut f size P behind → Cut f size P (first ++ behind)
cut_more f size P first behind x is has cut = record {
  items = x ∷ cut.items;
  rest = cut.rest;
  all =
      ap₂ (λ (front back : List ℕ). front ++ back) (sym is) cut.all
      ∙ sym (append_assoc (f x) (flat_map f cut.items) cut.rest);
  below = All-cons P x cut.items has cut.below;
  part = cut.part;
}

-- Where each list of a chunk's length is an item's chunk, a list of at most so many numbers is cut.
cut_within :
    {A : Type 0} (f : A → List ℕ) (size : ℕ) (P : A → Type 0) (Q : ℕ → Type 0) → 0 < size
    → ((chunk : List ℕ) → length chunk ≡ size → All Q chunk → (x : A) × ((f x ≡ chunk) × P x))
    → (most : ℕ) (list : List ℕ) → length list ≤ most → All Q list → Cut f size P list
cut_within f size P Q some item zero list within all = cut_none f size P list (omega (arith, some, within))
cut_within f size P Q some item (suc most) list within all =
    elim (cases_lt (length list) size) [
      | inl short ↦ cut_none f size P list short
      | inr long ↦ (
          let first = item (take size list) (length-take-le size list long) (All-take Q size list all) in
          let less : length (drop size list) ≤ most = omega (arith, length-drop size list, some, within) in
          subst (λ (numbers : List ℕ). Cut f size P numbers) (take-append-drop size list)
          (cut_more f size P (take size list) (drop size list) first.0 first.1.0 first.1.1
          (cut_within f size P Q some item most (drop size list) less (All-drop Q size list all))))
    ]

-- so each list of such numbers is cut
pub chunks_some :
    {A : Type 0} (f : A → List ℕ) (size : ℕ) (P : A → Type 0) (Q : ℕ → Type 0) → 0 < size
    → ((chunk : List ℕ) → length chunk ≡ size → All Q chunk → (x : A) × ((f x ≡ chunk) × P x))
    → (list : List ℕ) → All Q list → Cut f size P list
chunks_some f size P Q some item list all = cut_within f size P Q some item (length list) list (omega arith) all
