-- The words that words_from lists are those that can be read.
use Rattle.std.proofs.Common.{◌≡◌, ℕ, zero, suc, ◌+◌, ◌*◌, ◌^◌, ◌<◌, List, [], ◌∷◌, length, get_or, Bool, true, false, cond, inl, inr, refl, ap, sym, ◌∙◌, subst, arith}
use Rattle.std.specs.Prelude.{Contains, filter, nat_eq}
use Rattle.std.specs.List.{flat_map}
use Rattle.std.proofs.Math.Nat.{pow-zero, pow-succ'}
use Rattle.std.proofs.lemmas.List.{length-append}
use Rattle.std.proofs.lemmas.List.Elements.{Contains-append_left, Contains-append_right, Contains-append_cases, filter-append}
use Rattle.symbol_base.specs.Block.{number_of}
use Rattle.symbol_base.specs.Walk.{IsWalk}
use Rattle.symbol_base.proofs.AscendingNumbers.{first_or_rest}
use Rattle.label_graphs.specs.Graph.{EdgeData, HasEdge, IsGraph}
use Rattle.label_graphs.specs.Cover.{CoverData}
use Rattle.label_graphs.proofs.Renumbered.{target_of}
use Rattle.graph_power.specs.inside.Words.{target_total, word_count, words_from, words_to}
use Rattle.graph_power.proofs.Totals.{total-cons}

pub from_part : {X Y : Type 0} (F : X → List Y) (xs : List X) (y : Y) → Contains (flat_map F xs) y → (x : X) × Contains xs x × Contains (F x) y
from_part F [] y found = absurd (omega (arith, found.1))
from_part F (x ∷ xs) y found = elim (Contains-append_cases (F x) (flat_map F xs) y found) [
  | inl here ↦ (x, (0, omega arith, refl), here)
  | inr rest ↦ (let part = from_part F xs y rest in (part.0, Contains-append_right (x ∷ []) xs part.0 part.1, part.2))
]

pub part_of : {X Y : Type 0} (F : X → List Y) (xs : List X) (x : X) (y : Y) → Contains xs x → Contains (F x) y → Contains (flat_map F xs) y
part_of F [] x y there found = absurd (omega (arith, there.1))
part_of {Y = Y} F (z ∷ xs) x y there found = elim (first_or_rest z x xs there) [
  | inl first ↦ Contains-append_left (F z) (flat_map F xs) y (subst (λ w. Contains (F w) y) (sym first) found)
  | inr rest ↦ Contains-append_right (F z) (flat_map F xs) y (part_of F xs x y rest found)
]

-- the word of an edge that goes on from a block by q symbols
pub record IsReadOn (cover : CoverData) (q block at : ℕ) (e : EdgeData) : Type 0 where
  pub word : List ℕ
  pub walk : IsWalk (HasEdge cover.graph) at word e.to
  pub size : length word ≡ q
  pub number : block * cover.alphabet ^ q + number_of cover.alphabet word ≡ e.block

next_number : (alphabet block symbol weight value whole : ℕ) → whole ≡ alphabet * weight
    → (block * alphabet + symbol) * weight + value ≡ block * whole + (symbol * weight + value)
next_number alphabet block symbol weight value whole is = rw is (grind arith)

pub listed : (cover : CoverData) (q block at : ℕ) (e : EdgeData) → Contains (words_from cover q block at) e → IsReadOn cover q block at e
listed cover zero block at e found =
    let place : found.0 ≡ 0 = omega (arith, found.1) in
    let same : record { block = block; to = at } ≡ e = subst (λ k. get_or (record { block = block; to = at } ∷ []) k e ≡ e) place found.2 in
    record {
      word = [];
      walk = ap (λ (x : EdgeData). x.to) same;
      size = refl;
      number = (let one = pow-zero cover.alphabet in let is : block ≡ e.block = ap (λ (x : EdgeData). x.block) same in rw one (omega (arith, is)));
    }
listed cover (suc q) block at e found =
    let F : EdgeData → List EdgeData = λ x. words_from cover q (block * cover.alphabet + x.block) x.to in
    let part = from_part F (get_or cover.graph at []) e found in
    let rest = listed cover q (block * cover.alphabet + part.0.block) part.0.to e part.2 in
    record {
      word = part.0.block ∷ rest.word;
      walk = (part.0.to, part.1, rest.walk);
      size = ap suc rest.size;
      number =
          sym (next_number cover.alphabet block part.0.block (cover.alphabet ^ q) (number_of cover.alphabet rest.word) (cover.alphabet ^ suc q) (pow-succ' cover.alphabet q)
          ∙ ap (λ k. block * cover.alphabet ^ suc q + (part.0.block * cover.alphabet ^ k + number_of cover.alphabet rest.word)) (sym rest.size))
          ∙ rest.number;
    }

abbrev one_edge : ℕ → ℕ → List EdgeData
one_edge block at = record { block = block; to = at } ∷ []

pub lists : (cover : CoverData) (word : List ℕ) (block at to : ℕ) → IsWalk (HasEdge cover.graph) at word to
    → Contains (words_from cover (length word) block at) (record { block = block * cover.alphabet ^ length word + number_of cover.alphabet word; to = to })
lists cover [] block at to walk =
    let one = pow-zero cover.alphabet in
    let same : block ≡ block * cover.alphabet ^ 0 + 0 = rw one (omega arith) in
    subst (λ b. Contains (one_edge block at) (record { block = b; to = to })) same
    (subst (λ t. Contains (one_edge block at) (record { block = block; to = t })) walk (0, omega arith, refl))
lists cover (symbol ∷ word) block at to walk =
    let F : EdgeData → List EdgeData = λ x. words_from cover (length word) (block * cover.alphabet + x.block) x.to in
    let rest = lists cover word (block * cover.alphabet + symbol) walk.0 to walk.2 in
    subst (λ b. Contains (words_from cover (suc (length word)) block at) (record { block = b; to = to }))
    (next_number cover.alphabet block symbol (cover.alphabet ^ length word) (number_of cover.alphabet word) (cover.alphabet ^ suc (length word)) (pow-succ' cover.alphabet (length word)))
    (part_of F (get_or cover.graph at []) (record { block = symbol; to = walk.0 })
    (record { block = (block * cover.alphabet + symbol) * cover.alphabet ^ length word + number_of cover.alphabet word; to = to }) walk.1 rest)

-- walks from a state of a graph end in one
pub walk_inside : (rows : List (List EdgeData)) (word : List ℕ) (from to : ℕ) → IsGraph rows → from < length rows → IsWalk (HasEdge rows) from word to → to < length rows
walk_inside rows [] from to graph inside walk = subst (λ s. s < length rows) walk inside
walk_inside rows (symbol ∷ word) from to graph inside walk =
    walk_inside rows word walk.0 to graph (target_of rows from symbol walk.0 graph inside walk.1) walk.2

total_of_parts : (F : EdgeData → List EdgeData) (f : ℕ → ℕ) (row : List EdgeData) → ((e : EdgeData) → length (F e) ≡ f e.to)
    → length (flat_map F row) ≡ target_total f row
total_of_parts F f [] each = refl
total_of_parts F f (e ∷ row) each =
    let rest = total_of_parts F f row each in
    let here = each e in
    let size = length-append (F e) (flat_map F row) in
    let total = total-cons f e row in
    omega (arith, rest, here, size, total)

pub words_counted : (cover : CoverData) (q block at : ℕ) → length (words_from cover q block at) ≡ word_count cover.graph q at
words_counted cover zero block at = refl
words_counted cover (suc q) block at =
    total_of_parts (λ x. words_from cover q (block * cover.alphabet + x.block) x.to) (word_count cover.graph q) (get_or cover.graph at [])
    (λ e. words_counted cover q (block * cover.alphabet + e.block) e.to)

abbrev to_state : ℕ → EdgeData → Bool
to_state to e = nat_eq e.to to

passing_parts : (to : ℕ) (F : EdgeData → List EdgeData) (f : ℕ → ℕ) (row : List EdgeData) → ((e : EdgeData) → length (filter (to_state to) (F e)) ≡ f e.to)
    → length (filter (to_state to) (flat_map F row)) ≡ target_total f row
passing_parts to F f [] each = refl
passing_parts to F f (e ∷ row) each =
    let rest = passing_parts to F f row each in
    let here = each e in
    let size : length (filter (to_state to) (flat_map F (e ∷ row))) ≡ length (filter (to_state to) (F e)) + length (filter (to_state to) (flat_map F row)) =
    ap (λ (es : List EdgeData). length es) (filter-append (to_state to) (F e) (flat_map F row)) ∙ length-append (filter (to_state to) (F e)) (filter (to_state to) (flat_map F row)) in
    let total = total-cons f e row in
    omega (arith, rest, here, size, total)

one_passes : (e : EdgeData) (b : Bool) → length (cond b (e ∷ []) []) ≡ cond b 1 0
one_passes e true = refl
one_passes e false = refl

pub words_to_counted : (cover : CoverData) (q to block at : ℕ) → length (filter (λ e. nat_eq e.to to) (words_from cover q block at)) ≡ words_to cover.graph q to at
words_to_counted cover zero to block at = one_passes (record { block = block; to = at }) (nat_eq at to)
words_to_counted cover (suc q) to block at =
    passing_parts to (λ x. words_from cover q (block * cover.alphabet + x.block) x.to) (words_to cover.graph q to) (get_or cover.graph at [])
    (λ e. words_to_counted cover q to (block * cover.alphabet + e.block) e.to)
