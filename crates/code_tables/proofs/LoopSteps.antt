-- What the loops over lines tell of the whole.
use Rattle.std.proofs.Common.{◌≡◌, ℕ, List, [], ◌∷◌, ◌++◌, Option, Some, None, refl, Result, Ok, Err}
use Rattle.code_tables.specs.declared.fault.CodeTextFault.{CodeTextFault}
use Rattle.code_tables.specs.declared.fault.CodeTextFault.TheVariants.{BadCode, NoMemory}
use Rattle.text_reading.specs.LineReader.{one_line, after_all}
use Rattle.code_tables.specs.inside.ReadLines.{RefusesLine}

-- a line that was read, and one that wasn't
pub line_some : {A : Type 0} (read : List ℕ → Option (A × List ℕ)) (line : ℕ) (bytes : List ℕ) (x : A × List ℕ) → read bytes ≡ Some x → one_line read line bytes ≡ Ok x
unfolding one_line
line_some read line bytes x e = rw e refl

pub line_none : {A : Type 0} (read : List ℕ → Option (A × List ℕ)) (line : ℕ) (bytes : List ℕ) → read bytes ≡ None → one_line read line bytes ≡ Err line
unfolding one_line
line_none read line bytes e = rw e refl

-- a part that is refused refuses the whole
pub refuses_whole : {X Y : Type 0} (fault : CodeTextFault) (part : Result X ℕ) (total : Result Y ℕ) → RefusesLine fault part → ((n : ℕ) → part ≡ Err n → total ≡ Err n) → RefusesLine fault total
refuses_whole (BadCode n) part total h ends = ends n h
refuses_whole NoMemory part total h ends = tt

-- the item before the next one is the last
pub last_behind : {A : Type 0} (before : Option A) (items : List A) (x : A) → after_all (λ before y. Some y) before (items ++ x ∷ []) ≡ Some x
last_behind before [] x = refl
last_behind before (y ∷ items) x = last_behind (Some y) items x
