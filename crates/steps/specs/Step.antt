-- Steps over a world, and rows of them, of which the first that is refused decides.
use Rattle.std.specs.Prelude.{◌≡◌, Result, Ok, Err}

-- Which outcomes a world of W allows: a value of A, or a refusal of R, which ends the row.
abbrev pub Step : Type 0 → Type 0 → Type 0 → Type 1
Step W R A = W → Result A R → Type 0

-- the value is given
pub data Gives {W R A : Type 0} (value : A) (world : W) : Result A R → Type 0 where
  gives : Gives value world (Ok value)

-- one step, and behind it another that may depend on what the first gave
pub data Then {W R A B : Type 0} (first : Step W R A) (next : A → Step W R B) (world : W) : Result B R → Type 0 where
  stops : (refusal : R) → first world (Err refusal) → Then first next world (Err refusal)
  goes_on : (value : A) (outcome : Result B R) → first world (Ok value) → next value world outcome → Then first next world outcome

infixl 10 ◌>>=◌
abbrev pub ◌>>=◌ : {W R A B : Type 0} → Step W R A → (A → Step W R B) → Step W R B
first >>= next = Then first next

-- P holds, or the row is refused
pub data Needs {W R : Type 0} (P : Type 0) (refusal : R) (world : W) : Result (Unit {0}) R → Type 0 where
  holds : P → Needs P refusal world (Ok tt)
  fails : (P → ⊥) → Needs P refusal world (Err refusal)

-- a value that P holds of, or the refusal that tells a fault that Q holds of
pub data Reads {W R A B : Type 0} (P : A → Type 0) (Q : B → Type 0) (refusal : B → R) (world : W) : Result A R → Type 0 where
  understood : (value : A) → P value → Reads P Q refusal world (Ok value)
  refused_for : (fault : B) → Q fault → Reads P Q refusal world (Err (refusal fault))

-- a value that P holds of, which is always there
pub data Finds {W R A : Type 0} (P : A → Type 0) (world : W) : Result A R → Type 0 where
  found : (value : A) → P value → Finds P world (Ok value)

-- the world allows one outcome at most
abbrev pub IsSingleAt : {W R A : Type 0} → W → Step W R A → Type 0
IsSingleAt world step = (x y : Result _ _) → step world x → step world y → x ≡ y
