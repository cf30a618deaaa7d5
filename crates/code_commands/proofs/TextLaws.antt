-- The test of the text's length, and a text that was written in part.
use Rattle.std.proofs.Common.{◌≡◌, ℕ, ◌+◌, ◌<◌, ◌≤◌, List, length, Some, Ok, Err, subst, arith}
use Rattle.code_spec.specs.Code.{CodeData}
use Rattle.code_spec.specs.PlainText.{plain_text, plain_length}
use Rattle.code_spec.proofs.PlainTextLaws.{length-plain_text}
use Rattle.command_steps.specs.declared.status.Status.TheVariants.{FileTooLong, ShelfFault}
use Rattle.code_commands.specs.Limits.{text_limit}
use Rattle.steps.specs.Step.{Needs}
use Rattle.command_steps.specs.Promise.{Seen, Decides}
use Rattle.command_steps.specs.Answer.{Answer, writes, IsBroken, Delivers, broken}
use Rattle.steps.proofs.StepLaws.{needs_met, needs_unmet}
use Rattle.command_steps.proofs.StepLaws.{too_long_is_alone}

pub text_fits : (c : CodeData) (file : List ℕ) (count : ℕ) → count + 1 ≡ plain_length c (length file) → count < text_limit → Decides (λ (done : Unit {0}). done) (Needs (length (plain_text c file) ≤ text_limit) (FileTooLong text_limit)) (Ok tt)
text_fits c file count counted below = needs_met _ _ (length (plain_text c file) ≤ text_limit) (FileTooLong text_limit) (omega (arith, length-plain_text c file, counted, below))

pub text_too_long : (c : CodeData) (file : List ℕ) (count : ℕ) → count + 1 ≡ plain_length c (length file) → text_limit ≤ count → Decides (λ (done : Unit {0}). done) (Needs (length (plain_text c file) ≤ text_limit) (FileTooLong text_limit)) (Err (FileTooLong text_limit))
text_too_long c file count counted over =
    needs_unmet _ _ (length (plain_text c file) ≤ text_limit) (FileTooLong text_limit) (λ within. omega (arith, length-plain_text c file, counted, over, within)) (too_long_is_alone text_limit)

-- a text that was written in part is an answer that was delivered in part
pub text_broken : (answer : Answer) (c d : CodeData) (file bytes printed name : List ℕ) (old new : Seen) → writes (plain_text c file) printed ≡ answer → d ≡ c → bytes ≡ file
    → IsBroken name (Some (plain_text d bytes)) old new → Delivers answer name old new (Err ShelfFault)
text_broken answer c d file bytes printed name old new seen same is front =
    let moved : IsBroken name (Some (plain_text c file)) old new =
    subst (λ (e : CodeData). IsBroken name (Some (plain_text e file)) old new) same (subst (λ (f : List ℕ). IsBroken name (Some (plain_text d f)) old new) is front) in
    subst (λ (a : Answer). Delivers a name old new (Err ShelfFault)) seen (broken moved)
