-- The parts of words.
use Rattle.std.specs.Prelude.{◌≡◌, ℕ, List, ◌++◌}

-- v is a part of successive symbols of w
pub record IsFactor (v w : List ℕ) : Type 0 where
  pub before : List ℕ
  pub after : List ℕ
  pub joined : w ≡ before ++ (v ++ after)

-- w begins with v
pub record IsPrefix (v w : List ℕ) : Type 0 where
  pub after : List ℕ
  pub joined : w ≡ v ++ after

-- w ends with v
pub record IsSuffix (v w : List ℕ) : Type 0 where
  pub before : List ℕ
  pub joined : w ≡ before ++ v
