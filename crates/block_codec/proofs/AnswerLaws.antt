-- Windows as numbers, and the table of answers, walk by walk.
use Rattle.std.proofs.Common.{◌≡◌, ℕ, zero, suc, ◌+◌, ◌-◌, ◌*◌, ◌/◌, ◌%◌, ◌<◌, ◌≤◌, ◌^◌, inl, inr, ⊎_elim, List, [], ◌∷◌, ◌++◌, length, get_or, set, take, drop, map, replicate, refl, sym, ap, ap₂, ◌∙◌, subst, arith, pow-add, length-set}
use Rattle.std.proofs.Math.Nat.{pow-zero, pow-suc, mul-suc, mod-eq_of_lt, zero-div, zero-mod, pow-le-pow_right, mul-le-mul_right, div-lt_iff_lt-mul}
use Rattle.std.proofs.lemmas.Nat.{div-mul-add, mod-mul-add, mul-add-lt}
use Rattle.std.proofs.lemmas.Bool.{cases_eq}
use Rattle.std.proofs.lemmas.List.{append-nil, length-append, length-map, map-append, get_or-replicate, length-replicate, get_or-set_same, get_or-set_other, take_more, take_all, get_or_default}
use Rattle.std.proofs.lemmas.List.Elements.{All-nil, All-append, All-from_recursion}
use Rattle.symbol_base.specs.declared.Block.{Block}
use Rattle.symbol_base.specs.Block.{number_of, symbols_of}
use Rattle.symbol_base.specs.Word.{IsOver}
use Rattle.symbol_base.proofs.BlockLemmas.{power_positive, number_of-lt, number_of-push, length-symbols_of, get_or-symbols_of, IsOver-symbols_of, number_of-symbols_of, symbols_of-number_of}
use Rattle.code_spec.specs.Code.{CodeData, IsState, IsDataWord}
use Rattle.code_spec.specs.Output.{row_at, state_after, output}
use Rattle.code_spec.specs.Decoder.{window_length, IsFound, IsDecoded}
use Rattle.code_spec.specs.Walks.{IsWalkOf}
use Rattle.code_spec.proofs.OutputLaws.{output_from-append, state_after-append}
use Rattle.code_spec.proofs.StepLaws.{words_more}
use Rattle.code_spec.proofs.DecoderLaws.{found_count}
use Rattle.block_codec.specs.Decoding.{block_of, last_blocks}
use Rattle.block_codec.specs.inside.Answers.{HasShortWindows, blocks_in, window_of, window_count, words_in, list_count, IsAnswerTable, IsWrittenBy, IsEntryOf, IsFilledBy}

pub power_of_power : (q k : ℕ) → (2 ^ q) ^ k ≡ 2 ^ (q * k)
power_of_power q zero =
    let none : q * zero ≡ 0 = omega arith in
    pow-zero (2 ^ q) ∙ sym (ap (λ (n : ℕ). 2 ^ n) none)
power_of_power q (suc k) =
    let more : q * k + q ≡ q * suc k = omega (arith, mul-suc q k) in
    pow-suc (2 ^ q) k ∙ ap (λ (n : ℕ). n * 2 ^ q) (power_of_power q k) ∙ sym (pow-add 2 (q * k) q) ∙ ap (λ (n : ℕ). 2 ^ n) more

-- one digit more behind the last k digits of a number
pub symbols_push : (a k value digit : ℕ) → digit < a → symbols_of a (k + 1) (value % a ^ k * a + digit) ≡ symbols_of a k value ++ digit ∷ []
symbols_push a k value digit small =
    let front = symbols_of a k value in
    let all = front ++ digit ∷ [] in
    let some : 0 < a = omega (arith, small) in
    let len : length all ≡ k + 1 = omega (arith, length-append front (digit ∷ []), length-symbols_of a k value) in
    let number : number_of a all ≡ value % a ^ k * a + digit = number_of-push a front digit ∙ ap (λ n. n * a + digit) (number_of-symbols_of a k value some) in
    let over : IsOver a all = All-append (λ s. s < a) front (digit ∷ []) (IsOver-symbols_of a k value some) (All-from_recursion (λ s. s < a) (digit ∷ []) (small, tt)) in
    ap₂ (λ n v. symbols_of a n v) (sym len) (sym number) ∙ symbols_of-number_of a all some over

-- one block more behind the last k blocks of a number
pub blocks_push : (q k number value : ℕ) → value < 2 ^ q → blocks_in q (k + 1) (number % 2 ^ (q * k) * 2 ^ q + value) ≡ blocks_in q k number ++ block_of value ∷ []
blocks_push q k number value small =
    ap (λ n. blocks_in q (k + 1) (number % n * 2 ^ q + value)) (sym (power_of_power q k))
    ∙ ap (λ (list : List ℕ). map block_of list) (symbols_push (2 ^ q) k number value small)
    ∙ map-append block_of (symbols_of (2 ^ q) k number) (value ∷ [])

pub length-blocks_in : (q k number : ℕ) → length (blocks_in q k number) ≡ k
length-blocks_in q k number = length-map (symbols_of (2 ^ q) k number) block_of ∙ length-symbols_of (2 ^ q) k number

-- the window that one block more ends
pub window_more : (c : CodeData) (number value : ℕ) → value < 2 ^ c.q → window_of c (number % 2 ^ (c.q * (window_length c - 1)) * 2 ^ c.q + value) ≡ drop 1 (window_of c number) ++ block_of value ∷ []
window_more c number value small =
    let k = window_length c - 1 in
    let first : window_length c ≡ k + 1 = omega arith in
    let whole : suc k ≡ window_length c = omega arith in
    let rest : blocks_in c.q k number ≡ drop 1 (window_of c number) = ap (λ n. drop 1 (blocks_in c.q n number)) whole in
    ap (λ n. blocks_in c.q n (number % 2 ^ (c.q * k) * 2 ^ c.q + value)) first
    ∙ blocks_push c.q k number value small
    ∙ ap (λ (bs : List Block). bs ++ block_of value ∷ []) rest

-- the number of blocks fits
pub window_fits : (c : CodeData) → c.q * (window_length c - 1) + c.q ≡ c.q * window_length c
window_fits c =
    let k = window_length c - 1 in
    let whole : suc k ≡ window_length c = omega arith in
    omega (arith, mul-suc c.q k) ∙ ap (λ n. c.q * n) whole

-- the same for numbers that are made step by step
pub window_rolled : (c : CodeData) (q length number low new value : ℕ) → q ≡ c.q → length ≡ window_length c → value < 2 ^ c.q → low ≡ number % 2 ^ (q * (length - 1)) → new ≡ low * 2 ^ q + value
    → window_of c new ≡ drop 1 (window_of c number) ++ block_of value ∷ []
window_rolled c q length number low new value same count small low_is new_is =
    let whole : new ≡ number % 2 ^ (c.q * (window_length c - 1)) * 2 ^ c.q + value =
    new_is ∙ ap (λ n. n * 2 ^ q + value) low_is ∙ ap (λ n. number % 2 ^ (q * (n - 1)) * 2 ^ q + value) count
    ∙ ap (λ n. number % 2 ^ (n * (window_length c - 1)) * 2 ^ n + value) same in
    ap (λ n. window_of c n) whole ∙ window_more c number value small

pub window_below : (c : CodeData) (q length new : ℕ) → q ≡ c.q → length ≡ window_length c → new < 2 ^ (q * (length - 1) + q) → new < window_count c
window_below c q length new same count below =
    let whole : q * (length - 1) + q ≡ c.q * window_length c =
    ap (λ n. q * (n - 1) + q) count ∙ ap (λ n. n * (window_length c - 1) + n) same ∙ window_fits c in
    subst (λ n. new < 2 ^ n) whole below

-- no block has come: the window with the number 0
zeros_of : (a k : ℕ) → symbols_of a k 0 ≡ replicate k 0
zeros_of a zero = refl
zeros_of a (suc k) = ap₂ (λ (first : ℕ) (list : List ℕ). first ∷ list) (ap (λ n. n % a) (zero-div (a ^ k)) ∙ zero-mod a) (zeros_of a k)

blocks_of_zeros : (k : ℕ) → map block_of (replicate k 0) ≡ replicate k (block_of 0)
blocks_of_zeros zero = refl
blocks_of_zeros (suc k) = ap (λ (list : List Block). block_of 0 ∷ list) (blocks_of_zeros k)

pub window_none : (c : CodeData) → window_of c 0 ≡ last_blocks (window_length c) []
window_none c =
    let n = window_length c in
    ap (λ (list : List ℕ). map block_of list) (zeros_of (2 ^ c.q) n) ∙ blocks_of_zeros n ∙ sym (append-nil (replicate n (block_of 0)))

-- a number is told by its blocks
values_again : (values : List ℕ) → map (λ (block : Block). block.value) (map block_of values) ≡ values
values_again [] = refl
values_again (value ∷ values) = ap (λ (list : List ℕ). value ∷ list) (values_again values)

number_told : (q k number : ℕ) → number < 2 ^ (q * k) → number_of (2 ^ q) (map (λ (block : Block). block.value) (blocks_in q k number)) ≡ number
number_told q k number below =
    ap (λ (list : List ℕ). number_of (2 ^ q) list) (values_again (symbols_of (2 ^ q) k number))
    ∙ number_of-symbols_of (2 ^ q) k number (power_positive 2 q (omega arith))
    ∙ ap (λ n. number % n) (power_of_power q k)
    ∙ mod-eq_of_lt below

blocks_single : (q k one other : ℕ) → one < 2 ^ (q * k) → other < 2 ^ (q * k) → blocks_in q k one ≡ blocks_in q k other → one ≡ other
blocks_single q k one other small small' same =
    sym (number_told q k one small) ∙ ap (λ (bs : List Block). number_of (2 ^ q) (map (λ (block : Block). block.value) bs)) same ∙ number_told q k other small'

-- ---- a walk with one word more

walk_push : (c : CodeData) (state via next word : ℕ) (words : List ℕ) (blocks : List Block) (block : Block) → IsWalkOf c state words blocks via → word < 2 ^ c.p → (row_at c.rows via word).block ≡ block
    → next ≡ (row_at c.rows via word).to → IsWalkOf c state (words ++ word ∷ []) (blocks ++ block ∷ []) next
walk_push c state via next word words blocks block walk below writes leads =
    let one : List ℕ = word ∷ [] in
    let last : output c (state_after c.rows state words) one ≡ block ∷ [] = ap (λ (s : ℕ). output c s one) walk.leads ∙ ap (λ (b : Block). b ∷ []) writes in
    record {
      below = All-append (IsDataWord c) words one walk.below (words_more c word [] below (All-nil (IsDataWord c)));
      writes =
          output_from-append c.rows state words one ∙ ap (λ (bs : List Block). bs ++ output c (state_after c.rows state words) one) walk.writes
          ∙ ap (λ (bs : List Block). blocks ++ bs) last;
      leads = state_after-append c.rows state words one ∙ ap (λ (s : ℕ). state_after c.rows s one) walk.leads ∙ sym leads;
    }

-- a data word of a number
pub word_in_place : (c : CodeData) (number i behind : ℕ) → i < window_length c → behind ≡ window_length c - 1 - i → number / 2 ^ (c.p * behind) % 2 ^ c.p ≡ get_or (words_in c number) i 0
word_in_place c number i behind inside is =
    ap (λ n. number / 2 ^ (c.p * n) % 2 ^ c.p) is
    ∙ ap (λ n. number / n % 2 ^ c.p) (sym (power_of_power c.p (window_length c - 1 - i)))
    ∙ sym (get_or-symbols_of (2 ^ c.p) (window_length c) number i 0 inside)

pub written_none : (c : CodeData) (state number : ℕ) → IsWalkOf c state (take 0 (words_in c number)) (blocks_in c.q 0 0) state
written_none c state number = record { below = All-nil (IsDataWord c); writes = refl; leads = refl }

pub written_more : (c : CodeData) (state via next number i behind place value word : ℕ) → i < window_length c → behind ≡ window_length c - 1 - i
    → IsWalkOf c state (take i (words_in c number)) (blocks_in c.q i place) via → place < 2 ^ (c.q * i)
    → word ≡ number / 2 ^ (c.p * behind) % 2 ^ c.p → word < 2 ^ c.p → block_of value ≡ (row_at c.rows via word).block → value < 2 ^ c.q → next ≡ (row_at c.rows via word).to
    → IsWalkOf c state (take (i + 1) (words_in c number)) (blocks_in c.q (i + 1) (place * 2 ^ c.q + value)) next
written_more c state via next number i behind place value word inside is walk below word_is small writes fits leads =
    let words = words_in c number in
    let more = walk_push c state via next word (take i words) (blocks_in c.q i place) (block_of value) walk small (sym writes) leads in
    let within : i < length words = omega (arith, inside, length-symbols_of (2 ^ c.p) (window_length c) number) in
    let front : take i words ++ word ∷ [] ≡ take (i + 1) words =
    ap (λ w. take i words ++ w ∷ []) (word_is ∙ word_in_place c number i behind inside is) ∙ sym (take_more words i 0 within) in
    let back : blocks_in c.q i place ++ block_of value ∷ [] ≡ blocks_in c.q (i + 1) (place * 2 ^ c.q + value) =
    sym (blocks_push c.q i place value fits) ∙ ap (λ n. blocks_in c.q (i + 1) (n * 2 ^ c.q + value)) (mod-eq_of_lt below) in
    subst (λ (bs : List Block). IsWalkOf c state (take (i + 1) words) bs next) back (subst (λ (ws : List ℕ). IsWalkOf c state ws (blocks_in c.q i place ++ block_of value ∷ []) next) front more)

pub written_all : (c : CodeData) (state via number i place : ℕ) → i ≡ window_length c → IsWalkOf c state (take i (words_in c number)) (blocks_in c.q i place) via
    → output c state (words_in c number) ≡ window_of c place
written_all c state via number i place is walk =
    let words = words_in c number in
    let whole : take i words ≡ words = take_all i words (omega (arith, is, length-symbols_of (2 ^ c.p) (window_length c) number)) in
    ap (λ (ws : List ℕ). output c state ws) (sym whole) ∙ walk.writes ∙ ap (λ n. blocks_in c.q n place) is

-- ---- the table

pub filled_none : (c : CodeData) (count : ℕ) → count ≡ window_count c → IsFilledBy c 0 (replicate count 0)
filled_none c count is = record {
  entries = length-replicate {A = ℕ} count 0 ∙ is;
  entry = λ number below. inr (get_or-replicate count number 0 0 (omega (arith, below, is)), λ walk short. absurd (omega (arith, short)));
}

-- the word of a walk is one that its window can have
found_here : (c : CodeData) (walk place word : ℕ) → IsState c (walk / list_count c) → IsWrittenBy c walk place → word ≡ get_or (words_in c (walk % list_count c)) c.past 0 → IsFound c (window_of c place) word
found_here c walk place word inside writes is = record {
  state = walk / list_count c;
  words = words_in c (walk % list_count c);
  inside = inside;
  below = IsOver-symbols_of (2 ^ c.p) (window_length c) (walk % list_count c) (power_positive 2 c.p (omega arith));
  writes = writes;
  here = sym is;
}

-- an entry of another window stays right
entry_stays : (c : CodeData) (walks place number entry : ℕ) → (number ≡ place → ⊥) → place < window_count c → number < window_count c → IsWrittenBy c walks place → IsEntryOf c walks number entry
    → IsEntryOf c (walks + 1) number entry
entry_stays c walks place number entry apart inside inside' writes (inl found) = inl found
entry_stays c walks place number entry apart inside inside' writes (inr none) = inr (
  none.0,
  λ walk short written.
      ⊎_elim
      (λ (last : walk ≡ walks). apart (blocks_single c.q (window_length c) number place inside' inside (sym (subst (λ n. IsWrittenBy c n number) last written) ∙ writes)))
      (λ (early : walk ≡ walks → ⊥). none.1 walk (omega (arith, short, early)) written)
      (cases_eq walk walks),
)

-- one walk more
pub filled_more : (c : CodeData) (walks place word : ℕ) (table : List ℕ) → IsState c (walks / list_count c) → place < window_count c → IsWrittenBy c walks place
    → word ≡ get_or (words_in c (walks % list_count c)) c.past 0 → IsFilledBy c walks table → IsFilledBy c (walks + 1) (set table place word)
filled_more c walks place word table inside small writes is before = record {
  entries = length-set table place word ∙ before.entries;
  entry =
      λ number below.
      ⊎_elim
      (λ (here : number ≡ place).
      let value : get_or (set table place word) number 0 ≡ word =
      ap (λ n. get_or (set table place word) n 0) here ∙ get_or-set_same table place word 0 (omega (arith, small, before.entries)) in
      inl (subst (λ w. IsFound c (window_of c number) w) (sym value) (subst (λ n. IsFound c (window_of c n) word) (sym here) (found_here c walks place word inside writes is))))
      (λ (there : number ≡ place → ⊥).
      subst (λ w. IsEntryOf c (walks + 1) number w) (sym (get_or-set_other table place number word 0 there))
      (entry_stays c walks place number (get_or table number 0) there small below writes (before.entry number below)))
      (cases_eq number place);
}

-- a walk that gives a window has a number
walk_numbered : (c : CodeData) (number word : ℕ) (found : IsFound c (window_of c number) word)
    → (walk : ℕ) × ((walk < list_count c * length c.rows) × IsWrittenBy c walk number)
walk_numbered c number word found =
    let lists = list_count c in
    let n = number_of (2 ^ c.p) found.words in
    let count : length found.words ≡ window_length c = found_count c (window_of c number) word found ∙ length-blocks_in c.q (window_length c) number in
    let some : 0 < 2 ^ c.p = power_positive 2 c.p (omega arith) in
    let size : (2 ^ c.p) ^ length found.words ≡ lists = power_of_power c.p (length found.words) ∙ ap (λ k. 2 ^ (c.p * k)) count in
    let small : n < lists = subst (λ k. n < k) size (number_of-lt (2 ^ c.p) found.words found.below) in
    let words : words_in c n ≡ found.words = ap (λ k. symbols_of (2 ^ c.p) k n) (sym count) ∙ symbols_of-number_of (2 ^ c.p) found.words some found.below in
    let walk : ℕ = found.state * lists + n in
    let state : walk / lists ≡ found.state = div-mul-add found.state lists n small in
    let list : walk % lists ≡ n = mod-mul-add found.state lists n small in (
      walk,
      (
        mul-add-lt found.state lists n (length c.rows) found.inside small,
        ap₂ (λ s k. output c s (words_in c k)) state list ∙ ap (λ (ws : List ℕ). output c found.state ws) words ∙ found.writes,
      ),
    )

entry_answers : (c : CodeData) (walks number entry : ℕ) → walks ≡ list_count c * length c.rows → IsEntryOf c walks number entry → IsDecoded c (window_of c number) entry
entry_answers c walks number entry all (inl found) = inl found
entry_answers c walks number entry all (inr none) = inr (
  none.0,
  λ other found. let walk = walk_numbered c number other found in none.1 walk.0 (omega (arith, all, walk.1.0)) walk.1.1,
)

pub filled_all : (c : CodeData) (walks : ℕ) (table : List ℕ) → walks ≡ list_count c * length c.rows → IsFilledBy c walks table → IsAnswerTable c table
filled_all c walks table all filled =
    record { entries = filled.entries; answer = λ number below. entry_answers c walks number (get_or table number 0) all (filled.entry number below) }

-- what is read from the table is the answer
pub entry_read : (c : CodeData) (table : List ℕ) (number entry : ℕ) → IsAnswerTable c table → number < window_count c → entry ≡ get_or table number entry → IsDecoded c (window_of c number) entry
entry_read c table number entry answers below is =
    subst (λ w. IsDecoded c (window_of c number) w) (sym (is ∙ get_or_default table number entry 0 (omega (arith, below, answers.entries)))) (answers.answer number below)

-- digits of no more bits than a block has symbols make small numbers
pub few_numbers : (c : CodeData) (bits length size : ℕ) → HasShortWindows c → bits ≤ c.q → length ≡ window_length c → size ≡ 2 ^ (bits * length) → size ≤ 2 ^ 18
few_numbers c bits length size short less count is =
    let within : bits * length ≤ c.q * length = mul-le-mul_right length less in
    let all : c.q * length ≡ c.q * window_length c = ap (λ n. c.q * n) count in
    let fits : bits * length ≤ 18 = omega (arith, within, all, short) in
    let most : 2 ^ (bits * length) ≤ 2 ^ 18 = pow-le-pow_right {n = 2} (omega arith) fits in
    omega (arith, is, most)

-- each walk begins in a state
pub walk_begins : (c : CodeData) (walk lists states : ℕ) → lists ≡ list_count c → states ≡ length c.rows → 1 ≤ lists → walk < lists * states → IsState c (walk / list_count c)
walk_begins c walk lists states is count some inside =
    let turned : states * lists ≡ lists * states = grind arith in
    let below : walk / lists < states = (div-lt_iff_lt-mul (omega (arith, some))).1 (omega (arith, turned, inside)) in
    omega (arith, ap (λ n. walk / n) is, below, count)
