-- How much is written for so many bytes.
use Rattle.std.proofs.Common.{◌≡◌, ℕ, zero, suc, ◌+◌, ◌*◌, ◌%◌, ◌≤◌, List, length, refl, sym, ap, ◌∙◌, subst, arith}
use Rattle.code_spec.specs.Code.{CodeData}
use Rattle.code_spec.specs.PlainText.{word_count, data_words}
use Rattle.code_spec.proofs.PlainTextLaws.{length-data_words}

-- the blocks of a text, counted in its three parts
pub blocks_counted : (c d : CodeData) (file : List ℕ) (bytes count : ℕ) → c ≡ d → length file ≡ bytes → count ≡ c.past + word_count c.p (8 * bytes) + c.ahead → count ≡ length (data_words d file)
blocks_counted c d file bytes count same long counted =
    subst (λ (e : CodeData). count ≡ length (data_words e file)) same
    (counted ∙ ap (λ (n : ℕ). c.past + word_count c.p (8 * n) + c.ahead) (sym long) ∙ sym (length-data_words c file))

-- words of a size that divides 8 fill a byte
pub byte_filled : (p : ℕ) → 1 ≤ p → p ≤ 8 → 8 % p ≡ 0 → 8 ≡ p * word_count p 8
byte_filled zero low high none = absurd (omega arith)
byte_filled (suc zero) low high none = refl
byte_filled (suc (suc zero)) low high none = refl
byte_filled (suc (suc (suc zero))) low high none = absurd (omega arith)
byte_filled (suc (suc (suc (suc zero)))) low high none = refl
byte_filled (suc (suc (suc (suc (suc zero))))) low high none = absurd (omega arith)
byte_filled (suc (suc (suc (suc (suc (suc zero)))))) low high none = absurd (omega arith)
byte_filled (suc (suc (suc (suc (suc (suc (suc zero))))))) low high none = absurd (omega arith)
byte_filled (suc (suc (suc (suc (suc (suc (suc (suc zero)))))))) low high none = refl
byte_filled (suc (suc (suc (suc (suc (suc (suc (suc (suc n))))))))) low high none = absurd (omega arith)
