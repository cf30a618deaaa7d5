-- A file in pieces of 6,720 bytes, which words of 1 to 8 bits fill, and the parts of its text.
use Rattle.std.proofs.Common.{◌≡◌, ℕ, zero, suc, ◌+◌, ◌*◌, ◌-◌, ◌/◌, ◌<◌, ◌≤◌, min, List, [], ◌∷◌, ◌++◌, length, take, drop, replicate, refl, sym, ap, ◌∙◌, inl, inr, arith, append_assoc}
use Rattle.std.proofs.Math.Seq.{take-add}
use Rattle.std.proofs.Math.Nat.{mul-le-mul_left}
use Rattle.std.proofs.lemmas.List.{append-nil, length-drop, length-take-le, take-append-drop, take_all, take_min}
use Rattle.std.proofs.lemmas.Bool.{cases_lt}
use Rattle.code_spec.specs.Code.{CodeData, IsCode}
use Rattle.code_spec.specs.Output.{state_after}
use Rattle.code_spec.specs.PlainText.{word_count, file_words, plain_text}
use Rattle.code_spec.proofs.OutputLaws.{state_after-append}
use Rattle.code_spec.proofs.FileWords.{file_words-append}
use Rattle.block_codec.specs.declared.item_table.ItemTable.{ItemTable}
use Rattle.block_codec.specs.declared.item_table.ItemTable.TheVariants.{Bytes, Words}
use Rattle.block_codec.specs.inside.Digits.{digits_from, PutsDigits}
use Rattle.block_codec.specs.inside.ItemTables.{IsItemTable}
use Rattle.block_codec.proofs.DigitLaws.{digits_from-append}
use Rattle.block_codec.proofs.ItemLaws.{word_count-le}

-- words of 1 to 8 bits fill a piece
piece_filled : (p : ℕ) → 1 ≤ p → p ≤ 8 → 53760 ≡ p * (53760 / p)
piece_filled zero low high = absurd (omega arith)
piece_filled (suc zero) low high = refl
piece_filled (suc (suc zero)) low high = refl
piece_filled (suc (suc (suc zero))) low high = refl
piece_filled (suc (suc (suc (suc zero)))) low high = refl
piece_filled (suc (suc (suc (suc (suc zero))))) low high = refl
piece_filled (suc (suc (suc (suc (suc (suc zero)))))) low high = refl
piece_filled (suc (suc (suc (suc (suc (suc (suc zero))))))) low high = refl
piece_filled (suc (suc (suc (suc (suc (suc (suc (suc zero)))))))) low high = refl
piece_filled (suc (suc (suc (suc (suc (suc (suc (suc (suc n))))))))) low high = absurd (omega arith)

-- and so any number of pieces
pieces_filled : (p m : ℕ) (file : List ℕ) → 1 ≤ p → p ≤ 8 → 6720 * m ≤ length file → 8 * length (take (6720 * m) file) ≡ p * (53760 / p * m)
pieces_filled p m file low high within =
    let len = length-take-le (6720 * m) file within in
    let bits : 8 * length (take (6720 * m) file) ≡ 53760 * m = omega (arith, len) in
    let regroup : p * (53760 / p) * m ≡ p * (53760 / p * m) = grind arith in
    bits ∙ ap (λ (n : ℕ). n * m) (piece_filled p low high) ∙ regroup

-- the next piece, which may be shorter at the end
piece_is : (m to : ℕ) (file : List ℕ) → to ≡ min (length file) (6720 * m + 6720) → 6720 * m ≤ length file → take (to - 6720 * m) (drop (6720 * m) file) ≡ take 6720 (drop (6720 * m) file)
piece_is m to file end within =
    let rest = drop (6720 * m) file in
    let count : to - 6720 * m ≡ min 6720 (length rest) = omega (arith, end, within, length-drop (6720 * m) file) in
    ap (λ (n : ℕ). take n rest) count ∙ take_min 6720 rest

-- the words of one piece more
pub piece_more : (p m to : ℕ) (file : List ℕ) → 1 ≤ p → p ≤ 8 → 6720 * m ≤ length file → to ≡ min (length file) (6720 * m + 6720)
    → file_words p (take (6720 * m) file) ++ file_words p (take (to - 6720 * m) (drop (6720 * m) file)) ≡ file_words p (take (6720 * (m + 1)) file)
piece_more p m to file low high within end =
    let next : 6720 * (m + 1) ≡ 6720 * m + 6720 = omega arith in
    ap (λ (bytes : List ℕ). file_words p (take (6720 * m) file) ++ file_words p bytes) (piece_is m to file end within)
    ∙ sym (file_words-append p (53760 / p * m) (take (6720 * m) file) (take 6720 (drop (6720 * m) file)) (omega (arith, low)) (pieces_filled p m file low high within))
    ∙ ap (λ (bytes : List ℕ). file_words p bytes) (sym (take-add (6720 * m) 6720 file) ∙ ap (λ (n : ℕ). take n file) (sym next))

-- the words of the pieces so far stand in front of all
pub pieces_in_front : (p m : ℕ) (file : List ℕ) → 1 ≤ p → p ≤ 8 → (rest : List ℕ) × (file_words p (take (6720 * m) file) ++ rest ≡ file_words p file)
pieces_in_front p m file low high = elim (cases_lt (length file) (6720 * m)) [
  | inl over ↦ ([], append-nil (file_words p (take (6720 * m) file)) ∙ ap (λ (bytes : List ℕ). file_words p bytes) (take_all (6720 * m) file (omega arith)))
  | inr within ↦ (
    file_words p (drop (6720 * m) file),
    sym (file_words-append p (53760 / p * m) (take (6720 * m) file) (drop (6720 * m) file) (omega (arith, low)) (pieces_filled p m file low high within))
        ∙ ap (λ (bytes : List ℕ). file_words p bytes) (take-append-drop (6720 * m) file),
  )
]

-- what was put at the front of the room are the words' digits
pub front_put : (c : CodeData) (state end next : ℕ) (words old new : List ℕ) → PutsDigits c state words 0 old new next → end ≡ c.q * length words → take end new ≡ digits_from c state words
front_put c state end next words old new puts end_is = ap (λ (n : ℕ). take n new) (end_is ∙ omega arith) ∙ puts.digits

-- digits behind those of the words so far
pub digits_more : (c : CodeData) (start state : ℕ) (front words all bytes : List ℕ) → front ++ words ≡ all → state ≡ state_after c.rows start front → bytes ≡ digits_from c state words
    → digits_from c start front ++ bytes ≡ digits_from c start all
digits_more c start state front words all bytes whole leads put =
    ap (λ (ds : List ℕ). digits_from c start front ++ ds) (put ∙ ap (λ (s : ℕ). digits_from c s words) leads) ∙ sym (digits_from-append c start front words) ∙ ap (λ (ws : List ℕ). digits_from c start ws) whole

-- and where they lead
pub leads_more : (c : CodeData) (start state next : ℕ) (front words all : List ℕ) → front ++ words ≡ all → state ≡ state_after c.rows start front → next ≡ state_after c.rows state words → next ≡ state_after c.rows start all
leads_more c start state next front words all whole leads then =
    then ∙ ap (λ (s : ℕ). state_after c.rows s words) leads ∙ sym (state_after-append c.rows start front words) ∙ ap (λ (ws : List ℕ). state_after c.rows start ws) whole

-- the code that an item table was made for
pub code_of_table : (c : CodeData) (table : ItemTable) → IsItemTable c table → IsCode c
code_of_table c (Bytes table) is = is.table.code
code_of_table c (Words table) is = is.code

-- no words have no digits
pub digits_none : (c : CodeData) (state : ℕ) (words : List ℕ) → words ≡ [] → digits_from c state words ≡ []
unfolding digits_from
digits_none c state words none = ap (λ (ws : List ℕ). digits_from c state ws) none

-- a piece of at most 6,720 bytes has room where 6,720 have
pub room_for_piece : (q p len room : ℕ) → 0 < p → len ≤ 6720 → q * word_count p (8 * 6720) + 32 ≤ room → q * word_count p (8 * len) + 32 ≤ room
room_for_piece q p len room some short fits =
    let fewer : word_count p (8 * len) ≤ word_count p (8 * 6720) = word_count-le p (8 * len) (8 * 6720) some (omega (arith, short)) in
    let less : q * word_count p (8 * len) ≤ q * word_count p (8 * 6720) = mul-le-mul_left q fewer in
    omega (arith, fits, less)

-- a text is the digits of lead-in, file and lead-out, and a line feed
pub three_parts : (c : CodeData) (file : List ℕ) (start via : ℕ) → start ≡ state_after c.rows 0 (replicate c.past 0) → via ≡ state_after c.rows start (file_words c.p file)
    → (digits_from c 0 (replicate c.past 0) ++ digits_from c start (file_words c.p file)) ++ (digits_from c via (replicate c.ahead 0) ++ 10 ∷ []) ≡ plain_text c file
unfolding digits_from
three_parts c file start via lead_in leads =
    let zeros = replicate c.past 0 in
    let words = file_words c.p file in
    let tail = replicate c.ahead 0 in
    let front : digits_from c 0 zeros ++ digits_from c start words ≡ digits_from c 0 (zeros ++ words) = digits_more c 0 start zeros words (zeros ++ words) (digits_from c start words) refl lead_in refl in
    let via_is : via ≡ state_after c.rows 0 (zeros ++ words) = leads_more c 0 start via zeros words (zeros ++ words) refl lead_in leads in
    let all : digits_from c 0 (zeros ++ words) ++ digits_from c via tail ≡ digits_from c 0 ((zeros ++ words) ++ tail) =
    digits_more c 0 via (zeros ++ words) tail ((zeros ++ words) ++ tail) (digits_from c via tail) refl via_is refl in
    ap (λ (ds : List ℕ). ds ++ (digits_from c via tail ++ 10 ∷ [])) front
    ∙ sym (append_assoc (digits_from c 0 (zeros ++ words)) (digits_from c via tail) (10 ∷ []))
    ∙ ap (λ (ds : List ℕ). ds ++ 10 ∷ []) all

-- the digits behind the lead-in, where the words of the file lead
abbrev pub end_digits : CodeData → ℕ → List ℕ → List ℕ
end_digits c start file = digits_from c (state_after c.rows start (file_words c.p file)) (replicate c.ahead 0) ++ 10 ∷ []
