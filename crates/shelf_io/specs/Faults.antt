-- Counts, and what a call's answer says of the count of faults of the shelf or sink that it was made on.
use Rattle.std.specs.Prelude.{◌≡◌, ℕ, ◌+◌, ◌-◌, ◌^◌, ◌≤◌, min, Result, Ok, Err}
use Rattle.shelf_io.specs.declared.outside.Unread.{Unread}
use Rattle.shelf_io.specs.declared.outside.Unread.TheVariants.{Failed, Missing}

-- the greatest count
abbrev pub greatest_count : ℕ
greatest_count = 2 ^ 64 - 1

-- the count rose: it is greater than before, or stands at the greatest count
abbrev pub Rose : ℕ → ℕ → Type 0
Rose before now = min (before + 1) greatest_count ≤ now

-- one more was counted, up to the greatest count: the count is no lower, and no greater than one more
pub record Counted (before now : ℕ) : Type 0 where
  pub later : before ≤ now
  pub once : now ≡ min (before + 1) greatest_count

-- an error is a fault that was counted, and any other answer leaves the count
abbrev pub Counts : {T E : Type 0} → ℕ → ℕ → Result T E → Type 0
Counts before now (Ok value) = now ≡ before
Counts before now (Err error) = Counted before now

-- the same of a call that may also answer that there is no such file, which is no fault
abbrev pub CountsUnread : {T : Type 0} → ℕ → ℕ → Result T Unread → Type 0
CountsUnread before now (Ok value) = now ≡ before
CountsUnread before now (Err Failed) = Counted before now
CountsUnread before now (Err Missing) = now ≡ before
