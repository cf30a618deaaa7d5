-- On a cover the memory of the graph is that of the constraint.
use Rattle.std.proofs.Common.{◌≡◌, ◌↔◌, ℕ, ◌<◌, inl, inr, List, [], ◌∷◌, ◌++◌, length, sym, ◌∙◌, subst}
use Rattle.std.proofs.lemmas.Bool.{cases_order}
use Rattle.symbol_base.specs.Walk.{IsWalk}
use Rattle.symbol_base.proofs.Walks.{walk-join, walk-part}
use Rattle.constraint_spec.specs.Constraint.{ConstraintData, IsWordOf}
use Rattle.constraint_spec.proofs.Factors.{IsFactor-end}
use Rattle.constraint_spec.proofs.Words.{IsWordOf-factor}
use Rattle.label_graphs.specs.Cover.{IsReadFrom, TellsApart, IsCover}
use Rattle.label_graphs.specs.Memory.{EndTogether, IsMemory}
use Rattle.min_cover.specs.Memory.{JoinsBy, IsMemoryOf}

-- in a graph with one edge per symbol a word leads to one state
pub one_end : (edge : ℕ → ℕ → ℕ → Type 0) → ((u s v w : ℕ) → edge u s v → edge u s w → v ≡ w) → (word : List ℕ) (u x y : ℕ)
    → IsWalk edge u word x → IsWalk edge u word y → x ≡ y
one_end edge single [] u x y first second = sym first ∙ second
one_end edge single (s ∷ word) u x y first second =
    let same = single u s first.0 second.0 first.1 second.1 in
    one_end edge single word first.0 x y first.2 (subst (λ t. IsWalk edge t word y) (sym same) second.2)

-- a walk from a state ends in one
pub walk_inside : (count : ℕ) (edge : ℕ → ℕ → ℕ → Type 0) → ((u s v : ℕ) → edge u s v → (u < count) × (v < count)) → (word : List ℕ) (u v : ℕ)
    → u < count → IsWalk edge u word v → v < count
walk_inside count edge inside [] u v u_in walk = subst (λ t. t < count) walk u_in
walk_inside count edge inside (s ∷ word) u v u_in walk =
    walk_inside count edge inside word walk.0 v (inside u s walk.0 walk.1).1 walk.2

joins : (c : ConstraintData) (count : ℕ) (edge : ℕ → ℕ → ℕ → Type 0) → IsCover (IsWordOf c) count edge → (n : ℕ)
    → EndTogether count edge n → JoinsBy c n
joins c count edge cover n together u w v size first second =
    let front = (cover.words (u ++ w)).0 first in
    let back = (cover.words (w ++ v)).0 second in
    let fronts = walk-part edge u w 0 front.0 front.1 in
    let backs = walk-part edge w v 0 back.0 back.1 in
    let inside = walk_inside count edge cover.inside u 0 fronts.0 cover.some fronts.1 in
    let same : front.0 ≡ backs.0 = together w fronts.0 front.0 0 backs.0 size inside cover.some fronts.2 backs.1 in
    let rest : IsWalk edge front.0 v back.0 = subst (λ t. IsWalk edge t v back.0) (sym same) backs.2 in
    let middle = walk-join edge w v fronts.0 front.0 back.0 fronts.2 rest in
    (cover.words (u ++ (w ++ v))).1 (back.0, walk-join edge u (w ++ v) 0 fronts.0 back.0 fronts.1 middle)

-- what can be read from where one walk ends can be read from where the other does
reads_too : (c : ConstraintData) (count : ℕ) (edge : ℕ → ℕ → ℕ → Type 0) → IsCover (IsWordOf c) count edge → (n : ℕ)
    → JoinsBy c n → (word : List ℕ) (u x v y : ℕ) → length word ≡ n → u < count → v < count
    → IsWalk edge u word x → IsWalk edge v word y → (more : List ℕ) → IsReadFrom edge x more → IsReadFrom edge y more
reads_too c count edge cover n joined word u x v y size u_in v_in first second more read =
    let to_u = cover.reached u u_in in
    let to_v = cover.reached v v_in in
    let long = walk-join edge word more u x read.0 first read.1 in
    let whole = (cover.words (to_u.0 ++ (word ++ more))).1 (read.0, walk-join edge to_u.0 (word ++ more) 0 u read.0 to_u.1 long) in
    let part = IsWordOf-factor c (word ++ more) (to_u.0 ++ (word ++ more)) whole (IsFactor-end to_u.0 (word ++ more)) in
    let front = (cover.words (to_v.0 ++ word)).1 (y, walk-join edge to_v.0 word 0 v y to_v.1 second) in
    let read_all = (cover.words (to_v.0 ++ (word ++ more))).0 (joined to_v.0 word more size front part) in
    let parts = walk-part edge to_v.0 (word ++ more) 0 read_all.0 read_all.1 in
    let at_v : parts.0 ≡ v = one_end edge cover.single to_v.0 0 parts.0 v parts.1 to_v.1 in
    let rest = walk-part edge word more parts.0 read_all.0 parts.2 in
    let at_y : rest.0 ≡ y = one_end edge cover.single word v rest.0 y (subst (λ t. IsWalk edge t word rest.0) at_v rest.1) second in
    (read_all.0, subst (λ t. IsWalk edge t more read_all.0) at_y rest.2)

no_told : (edge : ℕ → ℕ → ℕ → Type 0) (x y : ℕ) → ((more : List ℕ) → IsReadFrom edge x more → IsReadFrom edge y more)
    → ((more : List ℕ) → IsReadFrom edge y more → IsReadFrom edge x more) → (word : List ℕ) → TellsApart edge x y word → ⊥
no_told edge x y there back word (inl first) = first.1 (there word first.0)
no_told edge x y there back word (inr second) = second.0 (back word second.1)

end_together : (c : ConstraintData) (count : ℕ) (edge : ℕ → ℕ → ℕ → Type 0) → IsCover (IsWordOf c) count edge → (n : ℕ)
    → JoinsBy c n → EndTogether count edge n
end_together c count edge cover n joined word u x v y size u_in v_in first second =
    let x_in = walk_inside count edge cover.inside word u x u_in first in
    let y_in = walk_inside count edge cover.inside word v y v_in second in
    let there = reads_too c count edge cover n joined word u x v y size u_in v_in first second in
    let back = reads_too c count edge cover n joined word v y u x size v_in u_in second first in
    elim (cases_order x y) [
      | inl same ↦ same
      | inr other ↦ elim other [
        | inl less ↦ (let told = cover.apart x y less y_in in absurd (no_told edge x y there back told.0 told.1))
        | inr more ↦ (let told = cover.apart y x more x_in in absurd (no_told edge y x back there told.0 told.1))
      ]
    ]

-- for each length
pub memory_agrees : (c : ConstraintData) (count : ℕ) (edge : ℕ → ℕ → ℕ → Type 0) → IsCover (IsWordOf c) count edge → (n : ℕ)
    → EndTogether count edge n ↔ JoinsBy c n
memory_agrees c count edge cover n = (joins c count edge cover n, end_together c count edge cover n)

-- so the least is the same
pub least_agrees : (c : ConstraintData) (count : ℕ) (edge : ℕ → ℕ → ℕ → Type 0) → IsCover (IsWordOf c) count edge → (n : ℕ)
    → IsMemory count edge n ↔ IsMemoryOf c n
least_agrees c count edge cover n = (
  λ memory. record {
    joins = joins c count edge cover n memory.together;
    least = λ m less joined. memory.least m less (end_together c count edge cover m joined);
  },
  λ memory. record {
    together = end_together c count edge cover n memory.joins;
    least = λ m less together. memory.least m less (joins c count edge cover m together);
  },
)
