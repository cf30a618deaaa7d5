-- Tables of the states that words of symbols 0 and 1 lead to.
use Rattle.std.proofs.Common.{◌≡◌, ℕ, zero, suc, ◌+◌, ◌*◌, ◌/◌, ◌%◌, ◌^◌, ◌<◌, ◌≤◌, ⊎_elim, List, [], ◌∷◌, ◌++◌, length, get_or, eqb, refl, ap, sym, ◌∙◌, arith, add-one}
use Rattle.std.proofs.Math.Nat.{pow-succ'}
use Rattle.std.proofs.lemmas.Nat.{shr-shr, shr_split, mul-add-lt}
use Rattle.std.proofs.lemmas.Bool.{cases_lt, cases_eq, cond_both}
use Rattle.std.proofs.lemmas.List.{get_or_past}
use Rattle.std.proofs.lemmas.List.Elements.{All-nil, All-cons, All-head, All-tail, All-same, All-get_or}
use Rattle.symbol_base.specs.Block.{symbols_of}
use Rattle.symbol_base.proofs.BlockLemmas.{symbols_of-add}
use Rattle.label_graphs.specs.Graph.{EdgeData, IsGraph}
use Rattle.std.specs.Prelude.{All}
use Rattle.code_check.specs.inside.CoverMoves.{target_of, move_on, moves_of, IsMoveTable}
use Rattle.code_check.specs.inside.ReadGraph.{after}
use Rattle.code_check.proofs.ReadLaws.{after-append}

-- the symbols of a number are those of its front and those of its end
pub symbols_of-split :
    (a b value : ℕ) → symbols_of 2 (a + b) value ≡ symbols_of 2 a (value / 2 ^ b) ++ symbols_of 2 b (value % 2 ^ b)
symbols_of-split zero b value =
    let whole : value / 2 ^ b * 2 ^ b + value % 2 ^ b ≡ value = shr_split value b in
    let count : 0 + b ≡ b = omega arith in
    ap (λ n. symbols_of 2 n value) count ∙ ap (symbols_of 2 b) (sym whole) ∙ symbols_of-add 2 b (value / 2 ^ b) (value % 2 ^ b) (omega arith)
symbols_of-split (suc a) b value =
    let count : suc a + b ≡ suc (a + b) = omega arith in
    let digit : value / 2 ^ (a + b) % 2 ≡ value / 2 ^ b / 2 ^ a % 2 =
    ap (λ n. value / 2 ^ n % 2) (let turned : a + b ≡ b + a = omega arith in turned) ∙ ap (λ n. n % 2) (sym (shr-shr value b a)) in
    ap (λ n. symbols_of 2 n value) count
    ∙ ap (λ d. d ∷ symbols_of 2 (a + b) value) digit
    ∙ ap (λ (rest : List ℕ). value / 2 ^ b / 2 ^ a % 2 ∷ rest) (symbols_of-split a b value)

-- a word read half by half
pub after-split :
    (move : ℕ → ℕ → ℕ) (state a b value : ℕ)
    → after move state (symbols_of 2 (a + b) value)
    ≡ after move (after move state (symbols_of 2 a (value / 2 ^ b))) (symbols_of 2 b (value % 2 ^ b))
after-split move state a b value =
    ap (after move state) (symbols_of-split a b value)
    ∙ after-append move state (symbols_of 2 a (value / 2 ^ b)) (symbols_of 2 b (value % 2 ^ b))

pub moves_push :
    (rows : List (List EdgeData)) (states : List ℕ) (state : ℕ)
    → moves_of rows (states ++ state ∷ []) ≡ (moves_of rows states ++ move_on rows state 0 ∷ []) ++ move_on rows state 1 ∷ []
moves_push rows [] state = refl
moves_push rows (s ∷ states) state = ap (λ (rest : List ℕ). move_on rows s 0 ∷ move_on rows s 1 ∷ rest) (moves_push rows states state)

length-moves_of : (rows : List (List EdgeData)) (states : List ℕ) → length (moves_of rows states) ≡ 2 * length states
length-moves_of rows [] = refl
length-moves_of rows (s ∷ states) = omega (arith, length-moves_of rows states)

-- the two moves of the state at a place
get_or-moves_of :
    (rows : List (List EdgeData)) (states : List ℕ) (k : ℕ) → k < length states
    → (get_or (moves_of rows states) (2 * k) 0 ≡ move_on rows (get_or states k 0) 0)
    × (get_or (moves_of rows states) (2 * k + 1) 0 ≡ move_on rows (get_or states k 0) 1)
get_or-moves_of rows [] k below = absurd (omega (arith, below))
get_or-moves_of rows (s ∷ states) zero below = (refl, refl)
get_or-moves_of rows (s ∷ states) (suc k) below =
    let rest = get_or-moves_of rows states k (omega (arith, below)) in
    let first : 2 * suc k ≡ suc (suc (2 * k)) = omega arith in
    let second : 2 * suc k + 1 ≡ suc (suc (2 * k + 1)) = omega arith in (
      ap (λ n. get_or (moves_of rows (s ∷ states)) n 0) first ∙ rest.0,
      ap (λ n. get_or (moves_of rows (s ∷ states)) n 0) second ∙ rest.1,
    )

-- a bit as a word of one symbol
one_symbol : (bit : ℕ) → bit < 2 → symbols_of 2 1 bit ≡ bit ∷ []
one_symbol bit small =
    let digit : bit / 1 % 2 ≡ bit = omega (arith, small) in ap (λ (d : ℕ). d ∷ []) digit

-- a word with one symbol more at its end
after_more :
    (move : ℕ → ℕ → ℕ) (state symbols number : ℕ)
    → after move state (symbols_of 2 (symbols + 1) number)
    ≡ move (after move state (symbols_of 2 symbols (number / 2))) (number % 2)
after_more move state symbols number =
    let small : number % 2 < 2 = omega arith in
    after-split move state symbols 1 number
    ∙ ap (after move (after move state (symbols_of 2 symbols (number / 2)))) (one_symbol (number % 2) small)

-- the place of a word with one symbol more
place_more :
    (width state symbols number : ℕ) → number < 2 ^ (symbols + 1) → state ≤ width
    → (state * 2 ^ (symbols + 1) + number ≡ 2 * (state * 2 ^ symbols + number / 2) + number % 2)
    × (number / 2 < 2 ^ symbols)
    × (state * 2 ^ symbols + number / 2 < (width + 1) * 2 ^ symbols)
place_more width state symbols number below most =
    let twice : 2 ^ (symbols + 1) ≡ 2 * 2 ^ symbols = ap (λ n. 2 ^ n) (add-one symbols) ∙ pow-succ' 2 symbols in
    let front : state * 2 ^ (symbols + 1) ≡ 2 * (state * 2 ^ symbols) = ap (λ n. state * n) twice ∙ omega arith in
    let half : number / 2 < 2 ^ symbols = omega (arith, below, twice) in
    let inside : state * 2 ^ symbols + number / 2 < 2 ^ symbols * (width + 1) =
    mul-add-lt state (2 ^ symbols) (number / 2) (width + 1) (omega (arith, most)) half in
    (omega (arith, front), half, omega (arith, inside))

-- the table of the words with one symbol more
pub table_more :
    (rows : List (List EdgeData)) (symbols : ℕ) (table : List ℕ) → IsMoveTable rows symbols table
    → IsMoveTable rows (symbols + 1) (moves_of rows table)
table_more rows symbols table is =
    let twice : 2 ^ (symbols + 1) ≡ 2 * 2 ^ symbols = ap (λ n. 2 ^ n) (add-one symbols) ∙ pow-succ' 2 symbols in
    let whole : (length rows + 1) * 2 ^ (symbols + 1) ≡ 2 * ((length rows + 1) * 2 ^ symbols) =
    ap (λ n. (length rows + 1) * n) twice ∙ omega arith in
    record {
      size = omega (arith, whole, length-moves_of rows table, is.size);
      leads =
          λ state number most below.
          let place = place_more (length rows) state symbols number below most in
          let k : ℕ = state * 2 ^ symbols + number / 2 in
          let inside : k < length table = omega (arith, place.2, is.size) in
          let pair = get_or-moves_of rows table k inside in
          let front : get_or table k 0 ≡ after (move_on rows) state (symbols_of 2 symbols (number / 2)) =
          is.leads state (number / 2) most place.1 in
          let told : (bit : ℕ) → number % 2 ≡ bit → get_or (moves_of rows table) (2 * k + bit) 0 ≡ move_on rows (get_or table k 0) bit
          → get_or (moves_of rows table) (state * 2 ^ (symbols + 1) + number) 0 ≡ after (move_on rows) state (symbols_of 2 (symbols + 1) number) =
          λ bit bit_is moved.
          ap (λ n. get_or (moves_of rows table) n 0) place.0
          ∙ ap (λ b. get_or (moves_of rows table) (2 * k + b) 0) bit_is
          ∙ moved
          ∙ ap (λ s. move_on rows s bit) front
          ∙ ap (λ b. move_on rows (after (move_on rows) state (symbols_of 2 symbols (number / 2))) b) (sym bit_is)
          ∙ sym (after_more (move_on rows) state symbols number) in
          ⊎_elim
          (λ (none : number % 2 ≡ 0).
          told 0 none (ap (λ n. get_or (moves_of rows table) n 0) (let same : 2 * k + 0 ≡ 2 * k = omega arith in same) ∙ pair.0))
          (λ some. told 1 (omega (arith, some)) pair.1)
          (cases_eq (number % 2) 0);
    }

-- the table of the empty word is the list of the states
pub table_start :
    (rows : List (List EdgeData)) (states : List ℕ) → length states ≡ length rows + 1
    → ((k : ℕ) → k < length states → get_or states k 0 ≡ k) → IsMoveTable rows 0 states
table_start rows states size each = record {
  size = size ∙ omega arith;
  leads =
      λ state number most below.
      let place : state * 2 ^ 0 + number ≡ state = omega (arith, below) in
      ap (λ n. get_or states n 0) place ∙ each state (omega (arith, most, size));
}

target_most :
    (edges : List EdgeData) (symbol none : ℕ) → All (λ e. e.to < none) edges → target_of edges symbol none ≤ none
target_most [] symbol none inside = omega arith
target_most (edge ∷ edges) symbol none inside =
    let P : EdgeData → Type 0 = λ e. e.to < none in
    cond_both (eqb edge.block symbol) edge.to (target_of edges symbol none) (λ n. n ≤ none)
    (λ yes. let less = All-head P edge edges inside in omega (arith, less))
    (λ no_match. target_most edges symbol none (All-tail P edge edges inside))

-- a move stays within the graph
pub move_most :
    (rows : List (List EdgeData)) (state symbol : ℕ) → IsGraph rows → move_on rows state symbol ≤ length rows
move_most rows state symbol graph =
    target_most (get_or rows state []) symbol (length rows)
    (⊎_elim
    (λ (inside : state < length rows). All-get_or (All (λ (e : EdgeData). e.to < length rows)) rows state [] inside graph.targets)
    (λ (outside : length rows ≤ state).
    All-same (λ (e : EdgeData). e.to < length rows) (get_or rows state []) [] (get_or_past rows state [] outside) (All-nil (λ (e : EdgeData). e.to < length rows)))
    (cases_lt state (length rows)))

pub moves_most :
    (rows : List (List EdgeData)) (states : List ℕ) → IsGraph rows → All (λ s. s ≤ length rows) (moves_of rows states)
moves_most rows [] graph = All-nil (λ (s : ℕ). s ≤ length rows)
moves_most rows (state ∷ states) graph =
    let P : ℕ → Type 0 = λ s. s ≤ length rows in
    All-cons P (move_on rows state 0) (move_on rows state 1 ∷ moves_of rows states) (move_most rows state 0 graph)
    (All-cons P (move_on rows state 1) (moves_of rows states) (move_most rows state 1 graph) (moves_most rows states graph))
