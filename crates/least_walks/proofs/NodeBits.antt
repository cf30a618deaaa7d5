-- Sets of nodes as the bits of bytes.
use Rattle.std.proofs.Common.{◌≡◌, ℕ, suc, ◌+◌, ◌*◌, ◌/◌, ◌-◌, ◌%◌, ◌<◌, ◌≤◌, ⊎_elim, List, [], ◌∷◌, ◌++◌, length, get_or, take, drop, replicate, w8, refl, ap, sym, ◌∙◌, arith}
use Rattle.std.specs.Int.{bit_at, trailing_zeros}
use Rattle.std.proofs.Math.Seq.{take-append_seam, drop-append_seam}
use Rattle.std.proofs.lemmas.Bool.{cases_lt}
use Rattle.std.proofs.lemmas.Nat.Bits.{bit_at-zero, bit_at-trailing_zeros}
use Rattle.std.proofs.lemmas.List.{get_or-replicate, get_or_past, length-replicate}
use Rattle.symbol_base.specs.Bits.{bits, byte_bits}
use Rattle.symbol_base.specs.Block.{number_of, symbols_of}
use Rattle.symbol_base.proofs.BitsLemmas.{length-bits, length-byte_bits, get_or-bits}
use Rattle.symbol_base.proofs.BlockLemmas.{number_of-symbols_of}
use Rattle.least_walks.specs.NodeSet.{IsIn}

-- where all bytes are 0 no node is in the set
pub none_in : (bytes : List ℕ) → ((k : ℕ) → k < length bytes → get_or bytes k 0 ≡ 0) → (node : ℕ) → IsIn (bits bytes) node → ⊥
none_in bytes zero node there =
    let byte : get_or bytes (node / 8) 0 ≡ 0 =
    ⊎_elim (λ (inside : node / 8 < length bytes). zero (node / 8) inside)
    (λ (outside : length bytes ≤ node / 8). get_or_past bytes (node / 8) 0 outside) (cases_lt (node / 8) (length bytes)) in
    let bit : get_or (bits bytes) node 0 ≡ 0 =
    get_or-bits bytes node ∙ ap (λ b. bit_at b (7 - node % 8)) byte ∙ bit_at-zero (7 - node % 8) in
    omega (arith, bit, there)

zero_at : (n k : ℕ) → ◌≡◌ {A = ℕ} (get_or (replicate n 0) k 0) 0
zero_at n k =
    ⊎_elim (λ (inside : k < n). get_or-replicate n k 0 0 inside)
    (λ (outside : n ≤ k). get_or_past (replicate n 0) k 0 (let size : length (replicate {A = ℕ} n 0) ≡ n = length-replicate n 0 in omega (arith, size, outside))) (cases_lt k n)

-- the set of so many bytes that are 0
pub none_made :
    (bytes : List ℕ) (n : ℕ) → bytes ≡ replicate n 0 → (node : ℕ) → IsIn (bits bytes) node → ⊥
none_made bytes n is = none_in bytes (λ k below. ap (λ (b : List ℕ). get_or b k 0) is ∙ zero_at n k)

-- it has room for eight nodes a byte
pub room_made : (bytes : List ℕ) (n nodes : ℕ) → bytes ≡ replicate n 0 → n ≡ nodes / 8 + 1 → nodes ≤ length (bits bytes)
room_made bytes n nodes is count =
    let size = length-bits bytes in
    let bytes_are : length bytes ≡ n = ap (λ (b : List ℕ). length b) is ∙ length-replicate n 0 in
    omega (arith, size, bytes_are, count)

-- where one byte is 0, none of its eight nodes is in the set
pub none_in_byte :
    (bytes : List ℕ) (at : ℕ) → get_or bytes (at / 8) 0 ≡ 0 → (node : ℕ) → at ≤ node → node < at + (8 - at % 8)
    → IsIn (bits bytes) node → ⊥
none_in_byte bytes at zero node least most there =
    let byte : at / 8 ≡ node / 8 = omega (arith, least, most) in
    let bit : get_or (bits bytes) node 0 ≡ 0 =
    get_or-bits bytes node ∙ ap (λ b. bit_at b (7 - node % 8)) (sym (ap (λ (k : ℕ). get_or bytes k 0) byte) ∙ zero) ∙ bit_at-zero (7 - node % 8) in
    omega (arith, bit, there)

-- a byte that is not 0 has a node in the set
pub some_in :
    (bytes : List ℕ) (k : ℕ) → (get_or bytes k 0 ≡ 0 → ⊥) → get_or bytes k 0 < 256 → ((node : ℕ) → IsIn (bits bytes) node → ⊥) → ⊥
some_in bytes k some few none =
    let byte : ℕ = get_or bytes k 0 in
    let lowest = bit_at-trailing_zeros w8 byte (omega (arith, some)) few in
    let place : ℕ = trailing_zeros w8 byte in
    let below : place < 8 = lowest.0 in
    let node : ℕ = 8 * k + (7 - place) in
    let row : node / 8 ≡ k = omega (arith, below) in
    let column : 7 - node % 8 ≡ place = omega (arith, below) in
    none node
    (get_or-bits bytes node ∙ ap (λ n. bit_at (get_or bytes n 0) (7 - node % 8)) row ∙ ap (bit_at byte) column ∙ lowest.1)

same_byte : (a b : ℕ) → a < 256 → b < 256 → byte_bits a ≡ byte_bits b → a ≡ b
unfolding byte_bits
same_byte a b a_few b_few same =
    let left : number_of 2 (symbols_of 2 8 a) ≡ a % 256 = number_of-symbols_of 2 8 a (omega arith) in
    let right : number_of 2 (symbols_of 2 8 b) ≡ b % 256 = number_of-symbols_of 2 8 b (omega arith) in
    let equal : a % 256 ≡ b % 256 = sym left ∙ ap (number_of 2) same ∙ right in
    omega (arith, equal, a_few, b_few)

-- sets with the same bits have the same bytes
pub same_bytes :
    (a b : List ℕ) → ((i : ℕ) → get_or a i 0 < 256) → ((i : ℕ) → get_or b i 0 < 256) → bits a ≡ bits b → a ≡ b
same_bytes [] [] a_few b_few same = refl
same_bytes [] (y ∷ b) a_few b_few same =
    let size : 0 ≡ 8 * (length b + 1) = ap length same ∙ length-bits (y ∷ b) ∙ omega arith in absurd (omega (arith, size))
same_bytes (x ∷ a) [] a_few b_few same =
    let size : 0 ≡ 8 * (length a + 1) = sym (ap length same) ∙ length-bits (x ∷ a) ∙ omega arith in absurd (omega (arith, size))
same_bytes (x ∷ a) (y ∷ b) a_few b_few same =
    let sizes : length (byte_bits x) ≡ length (byte_bits y) = length-byte_bits x ∙ sym (length-byte_bits y) in
    let first : byte_bits x ≡ byte_bits y =
    sym (take-append_seam (byte_bits x) (bits a)) ∙ ap (λ n. take n (byte_bits x ++ bits a)) sizes
    ∙ ap (take (length (byte_bits y))) same ∙ take-append_seam (byte_bits y) (bits b) in
    let rest : bits a ≡ bits b =
    sym (drop-append_seam (byte_bits x) (bits a)) ∙ ap (λ n. drop n (byte_bits x ++ bits a)) sizes
    ∙ ap (drop (length (byte_bits y))) same ∙ drop-append_seam (byte_bits y) (bits b) in
    let byte : x ≡ y = same_byte x y (a_few 0) (b_few 0) first in
    let bytes : a ≡ b = same_bytes a b (λ i. a_few (suc i)) (λ i. b_few (suc i)) rest in
    ap (λ n. n ∷ a) byte ∙ ap (λ l. y ∷ l) bytes
