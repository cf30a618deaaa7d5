-- The least ambiguous pair of walks is the least walk of the graph of pairs with unlike words at the place.
use Rattle.std.proofs.Common.{◌≡◌, ℕ, ◌+◌, ◌*◌, ◌/◌, ◌%◌, ◌^◌, ◌<◌, ◌≤◌, ◌⊎◌, inl, inr, ⊎_elim, List, [], ◌∷◌, length, get_or, ap, Option, Some, None, Result, Ok, Err, IfOk, IfSome, IfNone, Vec, Global, refl, sym, ◌∙◌, subst, arith}
use Rattle.std.proofs.lemmas.Nat.{div-mul-add, mod-mul-add, mul-add-lt}
use Rattle.std.proofs.lemmas.Bool.{cases_lt, cases_eq}
use Rattle.std.proofs.lemmas.List.{get_or-map, length-map}
use Rattle.symbol_base.specs.Word.{IsSmallerAtFirst}
use Rattle.code_spec.specs.declared.Walk.{Walk}
use Rattle.code_spec.specs.Code.{CodeData, IsCode}
use Rattle.code_spec.specs.Output.{state_after}
use Rattle.code_spec.specs.Checked.{Separates}
use Rattle.code_spec.specs.Witness.{in_pairs, IsAmbiguous, IsLeastAmbiguous, IsPairBefore}
use Rattle.code_spec.proofs.WitnessLaws.{separates_unless_ambiguous}
use Rattle.least_walks.specs.UnlikeWalk.{IsUnlikeWalk, IsLeastUnlikeWalk}
use Rattle.code_check.specs.inside.PairGraph.{pair_graph, first_words, second_words, labels_of, first_walk, second_walk}
use Rattle.code_check.proofs.PairLaws.{walk_of_words, words_of_walk, node_states, smaller_digits, smaller_pairs, first_of_labels, second_of_labels}

length-labels_of : (c : CodeData) (xs ys : List ℕ) → length xs ≡ length ys → length (labels_of c xs ys) ≡ length xs
length-labels_of c [] ys same = refl
length-labels_of c (x ∷ xs) [] same = absurd (omega (arith, same))
length-labels_of c (x ∷ xs) (y ∷ ys) same = omega (arith, length-labels_of c xs ys (omega (arith, same)))

-- the words of the label at a place are the words there
first_at :
    (c : CodeData) (labels : List ℕ) (place : ℕ) → place < length labels
    → get_or (first_words c labels) place 0 ≡ get_or labels place 0 / 2 ^ c.p
first_at c labels place below = get_or-map (λ label. label / 2 ^ c.p) labels place 0 0 below

second_at :
    (c : CodeData) (labels : List ℕ) (place : ℕ) → place < length labels
    → get_or (second_words c labels) place 0 ≡ get_or labels place 0 % 2 ^ c.p
second_at c labels place below = get_or-map (λ label. label % 2 ^ c.p) labels place 0 0 below

-- a walk of the graph with unlike words at the place is an ambiguous pair
pub pair_of_walk :
    (c : CodeData) (past ahead node : ℕ) (labels : List ℕ) → IsCode c → node < length c.rows * length c.rows
    → IsUnlikeWalk (pair_graph c) (2 ^ c.p) past ahead node labels
    → IsAmbiguous c past ahead (first_walk c node labels) (second_walk c node labels)
pair_of_walk c past ahead node labels code inside walk =
    let states = node_states c node inside in
    let words = words_of_walk c labels node walk.there code inside walk.walk in
    let place : past < length labels = omega (arith, walk.count) in
    record {
      one = record { state = states.0; words = words.0; counted = length-map labels (λ label. label / 2 ^ c.p) ∙ walk.count };
      other = record { state = states.1; words = words.1; counted = length-map labels (λ label. label % 2 ^ c.p) ∙ walk.count };
      blocks = words.2;
      unlike = λ same. walk.unlike (sym (first_at c labels past place) ∙ same ∙ second_at c labels past place);
    }

abbrev node_of : CodeData → Walk → Walk → ℕ
node_of c first second = first.state * length c.rows + second.state

-- an ambiguous pair is a walk of the graph with unlike words at the place
pub walk_of_pair :
    (c : CodeData) (past ahead : ℕ) (first second : Walk) → IsCode c → IsAmbiguous c past ahead first second
    → IsUnlikeWalk (pair_graph c) (2 ^ c.p) past ahead (node_of c first second) (labels_of c first.words second.words)
walk_of_pair c past ahead first second code pair =
    let count : length first.words ≡ past + 1 + ahead = pair.one.counted in
    let same : length first.words ≡ length second.words = pair.one.counted ∙ sym pair.other.counted in
    let labels : List ℕ = labels_of c first.words second.words in
    let long : length labels ≡ past + 1 + ahead = length-labels_of c first.words second.words same ∙ count in
    let place : past < length labels = omega (arith, long) in
    let here : get_or labels past 0 / 2 ^ c.p ≡ get_or first.words past 0 =
    sym (first_at c labels past place) ∙ ap (λ ws. get_or ws past 0) (first_of_labels c first.words second.words pair.other.words same) in
    let there : get_or labels past 0 % 2 ^ c.p ≡ get_or second.words past 0 =
    sym (second_at c labels past place) ∙ ap (λ ws. get_or ws past 0) (second_of_labels c first.words second.words pair.other.words same) in
    record {
      count = long;
      there = state_after c.rows first.state first.words * length c.rows + state_after c.rows second.state second.words;
      walk =
          walk_of_words c first.words second.words first.state second.state code pair.one.state pair.other.state
          pair.one.words pair.other.words same pair.blocks;
      unlike = λ like. pair.unlike (sym here ∙ like ∙ there);
    }

same_walk : (s : ℕ) (xs : List ℕ) (walk : Walk) → s ≡ walk.state → xs ≡ walk.words
    → ◌≡◌ {A = Walk} (record { state = s; words = xs }) walk
same_walk s xs walk state words =
    ap (λ (n : ℕ). let w : Walk = record { state = n; words = xs } in w) state
    ∙ ap (λ (ws : List ℕ). let w : Walk = record { state = walk.state; words = ws } in w) words

-- no ambiguous pair stands before that of the least walk
least_other :
    (c : CodeData) (past ahead node : ℕ) (labels : List ℕ) → IsCode c
    → IsLeastUnlikeWalk (pair_graph c) (2 ^ c.p) past ahead node labels → (first second : Walk)
    → IsAmbiguous c past ahead first second
    → ((first_walk c node labels ≡ first) × (second_walk c node labels ≡ second))
    ⊎ IsPairBefore (first_walk c node labels) (second_walk c node labels) first second
least_other c past ahead node labels code is first second pair =
    let states : ℕ = length c.rows in
    let other : List ℕ = labels_of c first.words second.words in
    let there : ℕ = node_of c first second in
    let walk = walk_of_pair c past ahead first second code pair in
    let same : length first.words ≡ length second.words = pair.one.counted ∙ sym pair.other.counted in
    let first_is : there / states ≡ first.state = div-mul-add first.state states second.state pair.other.state in
    let second_is : there % states ≡ second.state = mod-mul-add first.state states second.state pair.other.state in
    let some : 0 < states = omega (arith, pair.one.state) in
    let xs : first_words c other ≡ first.words = first_of_labels c first.words second.words pair.other.words same in
    let ys : second_words c other ≡ second.words = second_of_labels c first.words second.words pair.other.words same in
    ⊎_elim
    (λ (before : node < there).
    ⊎_elim (λ (less : node / states < there / states). inr (inl (omega (arith, less, first_is))))
    (λ (less : (node / states ≡ there / states) × (node % states < there % states)).
    inr (inr (less.0 ∙ first_is, inl (omega (arith, less.1, second_is)))))
    (smaller_digits states node there some before))
    (λ (most : there ≤ node).
    ⊎_elim
    (λ (here : node ≡ there).
    let s : node / states ≡ first.state = ap (λ n. n / states) here ∙ first_is in
    let t : node % states ≡ second.state = ap (λ n. n % states) here ∙ second_is in
    ⊎_elim
    (λ (equal : labels ≡ other).
    inl (
      same_walk (node / states) (first_words c labels) first s (ap (λ ls. first_words c ls) equal ∙ xs),
      same_walk (node % states) (second_words c labels) second t (ap (λ ls. second_words c ls) equal ∙ ys),
    ))
    (λ (smaller : IsSmallerAtFirst labels other).
    let pairs : IsSmallerAtFirst (in_pairs (first_words c labels) (second_words c labels)) (in_pairs first.words second.words) =
    subst (λ ws. IsSmallerAtFirst (in_pairs (first_words c labels) (second_words c labels)) (in_pairs ws second.words)) xs
    (subst (λ ws. IsSmallerAtFirst (in_pairs (first_words c labels) (second_words c labels)) (in_pairs (first_words c other) ws)) ys
    (smaller_pairs c labels other smaller)) in
    inr (inr (s, inr (t, pairs))))
    (is.least other
    (subst (λ n. IsUnlikeWalk (pair_graph c) (2 ^ c.p) past ahead n other) (sym here) walk)))
    (λ unlike. absurd (is.first there other (omega (arith, most, unlike)) walk))
    (cases_eq node there))
    (cases_lt node there)

pub least_pair :
    (c : CodeData) (past ahead node : ℕ) (labels : List ℕ) → IsCode c
    → IsLeastUnlikeWalk (pair_graph c) (2 ^ c.p) past ahead node labels
    → IsLeastAmbiguous c past ahead (first_walk c node labels) (second_walk c node labels)
least_pair c past ahead node labels code is = record {
  ambiguous = pair_of_walk c past ahead node labels code is.inside is.walk;
  least = least_other c past ahead node labels code is;
}

pub no_pair :
    (c : CodeData) (past ahead : ℕ) → IsCode c
    → ((node : ℕ) (labels : List ℕ) → node < length c.rows * length c.rows
    → IsUnlikeWalk (pair_graph c) (2 ^ c.p) past ahead node labels → ⊥) → Separates c past ahead
no_pair c past ahead code none =
    (separates_unless_ambiguous c past ahead).1
    (λ first second pair.
    none (node_of c first second) (labels_of c first.words second.words)
    (mul-add-lt first.state (length c.rows) second.state (length c.rows) pair.one.state pair.other.state)
    (walk_of_pair c past ahead first second code pair))

-- what the search of the graph of pairs answers, told of the code
pub least_told :
    {E : Type 0} (c pairs : CodeData) (words past ahead : ℕ) (answer : Result (Option (ℕ × Vec ℕ Global)) E) → IsCode c
    → pairs ≡ c → words ≡ 2 ^ c.p → past ≡ c.past → ahead ≡ c.ahead
    → IfOk answer (λ o. IfSome o (λ found. IsLeastUnlikeWalk (pair_graph pairs) words past ahead found.0 found.1.items))
    → IfOk answer (λ o. IfSome o (λ found.
    IsLeastAmbiguous c c.past c.ahead (first_walk c found.0 found.1.items) (second_walk c found.0 found.1.items)))
least_told c pairs words past ahead (Ok (Some found)) code same words_is past_is ahead_is is =
    least_pair c c.past c.ahead found.0 found.1.items code
    (subst (λ n. IsLeastUnlikeWalk (pair_graph c) n c.past c.ahead found.0 found.1.items) words_is
    (subst (λ n. IsLeastUnlikeWalk (pair_graph c) words n c.ahead found.0 found.1.items) past_is
    (subst (λ n. IsLeastUnlikeWalk (pair_graph c) words past n found.0 found.1.items) ahead_is
    (subst (λ d. IsLeastUnlikeWalk (pair_graph d) words past ahead found.0 found.1.items) same is))))
least_told c pairs words past ahead (Ok None) code same words_is past_is ahead_is is = is
least_told c pairs words past ahead (Err e) code same words_is past_is ahead_is is = is

pub inside_told :
    {E : Type 0} (c pairs : CodeData) (words past ahead : ℕ) (answer : Result (Option (ℕ × Vec ℕ Global)) E) → pairs ≡ c
    → IfOk answer (λ o. IfSome o (λ found. IsLeastUnlikeWalk (pair_graph pairs) words past ahead found.0 found.1.items))
    → IfOk answer (λ o. IfSome o (λ found. found.0 < length c.rows * length c.rows))
inside_told c pairs words past ahead (Ok (Some found)) same is =
    subst (λ (d : CodeData). found.0 < length d.rows * length d.rows) same is.inside
inside_told c pairs words past ahead (Ok None) same is = is
inside_told c pairs words past ahead (Err e) same is = is

abbrev NoUnlike : CodeData → ℕ → ℕ → ℕ → Type 0
NoUnlike c words past ahead =
    (v : ℕ) (labels : List ℕ) → v < length c.rows * length c.rows → IsUnlikeWalk (pair_graph c) words past ahead v labels → ⊥

pub none_told :
    {E : Type 0} (c pairs : CodeData) (words past ahead : ℕ) (answer : Result (Option (ℕ × Vec ℕ Global)) E) → IsCode c
    → pairs ≡ c → words ≡ 2 ^ c.p → past ≡ c.past → ahead ≡ c.ahead
    → IfOk answer (λ o. IfNone o ((v : ℕ) (labels : List ℕ) → v < (pair_graph pairs).nodes
    → IsUnlikeWalk (pair_graph pairs) words past ahead v labels → ⊥))
    → IfOk answer (λ o. IfNone o (Separates c c.past c.ahead))
none_told c pairs words past ahead (Ok (Some found)) code same words_is past_is ahead_is none = none
none_told c pairs words past ahead (Ok None) code same words_is past_is ahead_is none =
    no_pair c c.past c.ahead code
    (subst (λ n. NoUnlike c n c.past c.ahead) words_is
    (subst (λ n. NoUnlike c words n c.ahead) past_is
    (subst (λ n. NoUnlike c words past n) ahead_is
    (subst (λ d. NoUnlike d words past ahead) same none))))
none_told c pairs words past ahead (Err e) code same words_is past_is ahead_is none = none
