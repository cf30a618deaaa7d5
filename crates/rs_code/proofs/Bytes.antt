-- The bytes of numbers, the highest first: shifts by a byte and exclusive or.
use Rattle.std.proofs.Common.{◌≡◌, ℕ, zero, suc, ◌+◌, ◌*◌, ◌/◌, ◌%◌, ◌^◌, ◌<◌, List, [], ◌∷◌, ◌++◌, length, replicate, refl, sym, ◌∙◌, ap, ap₂, arith}
use Rattle.std.specs.Int.{bytes_high_first, byte_at}
use Rattle.std.specs.Prelude.{bit_xor}
use Rattle.std.proofs.Math.Nat.{div-div-eq-div-mul, pow-succ'}
use lib.Pow.{mod-mod-pow}
use Rattle.std.proofs.lemmas.Nat.{shl-shr, field_of, mod-pow-add, mod_low, xor_shr, xor_mod}
use Rattle.gf256.specs.Field.{plus}
use Rattle.rs_code.specs.Polynomial.{sum_of}
use Rattle.rs_code.proofs.Moments.{Elements}
use Rattle.rs_code.proofs.Steps.{bit_xor-plus}

byte_at-suc : (k n : ℕ) → byte_at (suc k) n ≡ byte_at k (n / 256)
byte_at-suc zero n = refl
byte_at-suc (suc k) n =
    ap (λ m. n / m % 256) (pow-succ' 256 (suc k)) ∙ sym (ap (λ m. m % 256) (div-div-eq-div-mul n 256 (256 ^ suc k)))

-- the last byte, and those before it
pub bytes-last : (k n : ℕ) → bytes_high_first (suc k) n ≡ bytes_high_first k (n / 256) ++ n % 256 ∷ []
bytes-last zero n = refl
bytes-last (suc k) n = ap₂ (λ b bs. b ∷ bs) (byte_at-suc k n) (bytes-last k n)

pub length-bytes : (k n : ℕ) → length (bytes_high_first k n) ≡ k
length-bytes zero n = refl
length-bytes (suc k) n = ap suc (length-bytes k n)

pub bytes-zero : (k : ℕ) → bytes_high_first k 0 ≡ replicate k 0
bytes-zero zero = refl
bytes-zero (suc k) = bytes-last k 0 ∙ ap (λ bs. bs ++ 0 ∷ []) (bytes-zero k) ∙ zeros_push k
  where
    zeros_push : (k : ℕ) → replicate {A = ℕ} k 0 ++ 0 ∷ [] ≡ replicate (suc k) 0
    zeros_push zero = refl
    zeros_push (suc k) = ap (λ bs. 0 ∷ bs) (zeros_push k)

-- the sum of two lists and a last place each
pub sum_of-push : (xs ys : List ℕ) (x y : ℕ) → length xs ≡ length ys → sum_of (xs ++ x ∷ []) (ys ++ y ∷ []) ≡ sum_of xs ys ++ plus x y ∷ []
sum_of-push [] [] x y same = refl
sum_of-push [] (b ∷ ys) x y same = absurd (omega (arith, same))
sum_of-push (a ∷ xs) [] x y same = absurd (omega (arith, same))
sum_of-push (a ∷ xs) (b ∷ ys) x y same = ap (λ r. plus a b ∷ r) (sum_of-push xs ys x y (omega (arith, same)))

pub bytes-xor : (k a b : ℕ) → bytes_high_first k (bit_xor a b) ≡ sum_of (bytes_high_first k a) (bytes_high_first k b)
bytes-xor zero a b = refl
bytes-xor (suc k) a b =
    bytes-last k (bit_xor a b)
    ∙ ap₂ (λ bs c. bs ++ c ∷ []) (ap (bytes_high_first k) (xor_shr a b 8) ∙ bytes-xor k (a / 256) (b / 256)) (xor_mod a b 8 ∙ bit_xor-plus (a % 256) (b % 256))
    ∙ sym (sum_of-push (bytes_high_first k (a / 256)) (bytes_high_first k (b / 256)) (a % 256) (b % 256)
    (length-bytes k (a / 256) ∙ sym (length-bytes k (b / 256))))
    ∙ sym (ap₂ sum_of (bytes-last k a) (bytes-last k b))

-- the lower bytes alone
pub bytes-low : (k n : ℕ) → bytes_high_first k (n % 2 ^ (8 * k)) ≡ bytes_high_first k n
bytes-low zero n = refl
bytes-low (suc k) n =
    let wide : 8 * suc k ≡ 8 * k + 8 = omega arith in
    ap (λ w. bytes_high_first (suc k) (n % 2 ^ w)) wide
    ∙ bytes-last k (n % 2 ^ (8 * k + 8))
    ∙ ap₂ (λ m c. bytes_high_first k m ++ c ∷ []) (field_of n (8 * k) 8)
    (ap (λ m. m % 256) (mod-pow-add n (8 * k) 8) ∙ mod_low (n / 256 % 2 ^ (8 * k)) 8 (n % 256) (omega arith))
    ∙ ap (λ bs. bs ++ n % 256 ∷ []) (bytes-low k (n / 256))
    ∙ sym (bytes-last k n)

-- one byte up, the top one lost
pub bytes-shl : (n : ℕ) → bytes_high_first 16 ((n * 2 ^ 8) % 2 ^ 128) ≡ bytes_high_first 15 n ++ 0 ∷ []
bytes-shl n =
    let m : ℕ = (n * 2 ^ 8) % 2 ^ 128 in
    let upper : m / 256 ≡ n % 2 ^ 120 = field_of (n * 2 ^ 8) 120 8 ∙ ap (λ v. v % 2 ^ 120) (shl-shr n 8) in
    let lower : m % 256 ≡ 0 = omega arith in
    bytes-last 15 m ∙ ap₂ (λ v c. bytes_high_first 15 v ++ c ∷ []) upper lower ∙ ap (λ bs. bs ++ 0 ∷ []) (bytes-low 15 n)

-- a byte alone
pub bytes-byte : (b : ℕ) → b < 256 → bytes_high_first 16 b ≡ bytes_high_first 15 0 ++ b ∷ []
bytes-byte b small =
    let none : b / 256 ≡ 0 = omega (arith, small) in
    let all : b % 256 ≡ b = omega (arith, small) in
    bytes-last 15 b ∙ ap₂ (λ v c. bytes_high_first 15 v ++ c ∷ []) none all

pub Elements-bytes : (k n : ℕ) → Elements (bytes_high_first k n)
Elements-bytes zero n = tt
Elements-bytes (suc k) n = (byte_at-lt k n, Elements-bytes k n)
  where
    byte_at-lt : (k n : ℕ) → byte_at k n < 256
    byte_at-lt zero n = omega arith
    byte_at-lt (suc k) n = omega arith

-- a byte of the lowest bits is one of the number
low_byte : (n j k : ℕ) → n % 2 ^ ((j + 8) + k) / 2 ^ k % 2 ^ 8 ≡ n / 2 ^ k % 2 ^ 8
low_byte n j k = ap (λ m. m % 2 ^ 8) (field_of n (j + 8) k) ∙ mod-mod-pow (n / 2 ^ k) j 8

-- a byte of the highest bits is one of the number
high_byte : (n m : ℕ) → n / 2 ^ 64 / m % 256 ≡ n / (2 ^ 64 * m) % 256
high_byte n m = ap (λ x. x % 256) (div-div-eq-div-mul n (2 ^ 64) m)

front_half : (n : ℕ) (rest : List ℕ) → bytes_high_first 8 (n / 2 ^ 64) ++ rest
    ≡ byte_at 15 n ∷ byte_at 14 n ∷ byte_at 13 n ∷ byte_at 12 n ∷ byte_at 11 n ∷ byte_at 10 n ∷ byte_at 9 n ∷ byte_at 8 n ∷ rest
front_half n rest =
    ap₂ (λ b bs. b ∷ bs) (high_byte n (256 ^ 7))
    (ap₂ (λ b bs. b ∷ bs) (high_byte n (256 ^ 6))
    (ap₂ (λ b bs. b ∷ bs) (high_byte n (256 ^ 5))
    (ap₂ (λ b bs. b ∷ bs) (high_byte n (256 ^ 4))
    (ap₂ (λ b bs. b ∷ bs) (high_byte n (256 ^ 3))
    (ap₂ (λ b bs. b ∷ bs) (high_byte n (256 ^ 2))
    (ap (λ b. b ∷ n / 2 ^ 64 % 256 ∷ rest) (high_byte n 256)))))))

back_half : (n : ℕ) → bytes_high_first 8 (n % 2 ^ 64) ≡ bytes_high_first 8 n
back_half n =
    ap₂ (λ b bs. b ∷ bs) (low_byte n 0 56)
    (ap₂ (λ b bs. b ∷ bs) (low_byte n 8 48)
    (ap₂ (λ b bs. b ∷ bs) (low_byte n 16 40)
    (ap₂ (λ b bs. b ∷ bs) (low_byte n 24 32)
    (ap₂ (λ b bs. b ∷ bs) (low_byte n 32 24)
    (ap₂ (λ b bs. b ∷ bs) (low_byte n 40 16)
    (ap₂ (λ b bs. b ∷ bs) (low_byte n 48 8)
    (ap (λ b. b ∷ []) (mod-mod-pow n 56 8))))))))

-- sixteen bytes are those of the highest bits and those of the lowest
pub two_halves : (n : ℕ) → bytes_high_first 8 (n / 2 ^ 64) ++ bytes_high_first 8 (n % 2 ^ 64) ≡ bytes_high_first 16 n
two_halves n = front_half n (bytes_high_first 8 (n % 2 ^ 64)) ∙ ap (λ bs. bytes_front n ++ bs) (back_half n)
  where
    bytes_front : ℕ → List ℕ
    bytes_front n = byte_at 15 n ∷ byte_at 14 n ∷ byte_at 13 n ∷ byte_at 12 n ∷ byte_at 11 n ∷ byte_at 10 n ∷ byte_at 9 n ∷ byte_at 8 n ∷ []
