-- What stands on the channel after a command.
use Rattle.std.specs.Prelude.{◌≡◌, ℕ, ◌+◌, List, [], ◌∷◌, ◌++◌, map, Option, IsSomeAnd}
use Rattle.shelf_io.specs.Shelf.{Files, OnFile}
use Rattle.constraint_spec.specs.Constraint.{ConstraintData, IsWordOf}
use Rattle.code_spec.specs.Code.{CodeData}
use Rattle.code_text_spec.specs.CodeText.{IsCodeText}
use Rattle.command_steps.specs.declared.status.Status.{Status}
use Rattle.command_steps.specs.declared.status.Status.TheVariants.{Done}
use Rattle.workbench.specs.Forms.{Form, check, explain, encode, decode}

-- the digits of a word of the constraint, and a line feed
pub record IsTextOfWord (c : ConstraintData) (text : List ℕ) : Type 0 where
  pub symbols : List ℕ
  pub word : IsWordOf c symbols
  pub digits : text ≡ map (λ symbol. 48 + symbol) symbols ++ 10 ∷ []

-- the file is there and spells a code, and the other file is the text of a word of the constraint that the code keeps
abbrev pub HasTextOfWord : List ℕ → List ℕ → Option Files → Option Files → Type 0
HasTextOfWord code text old new =
    OnFile old code (λ file. IsSomeAnd file (λ bytes.
    (c : CodeData) × IsCodeText bytes c × OnFile new text (λ written. IsSomeAnd written (IsTextOfWord c.constraint))))

-- What a command that was done has put on the channel is a word of the constraint that its code keeps.
abbrev pub KeepsConstraint : Form → Option Files → Option Files → Status → Type 0
KeepsConstraint (check words) old new status = Unit {0}
KeepsConstraint (explain words) old new status = Unit {0}
KeepsConstraint (decode words) old new status = Unit {0}
KeepsConstraint (encode words) old new status = status ≡ Done → HasTextOfWord words.code words.text old new
