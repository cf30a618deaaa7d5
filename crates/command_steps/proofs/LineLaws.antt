-- The line of a status, as far as it was printed.
use Rattle.std.proofs.Common.{◌≡◌, List, ℕ, refl, subst, inl, inr}
use Rattle.command_steps.specs.declared.status.Status.{Status}
use Rattle.command_steps.specs.StatusLine.{line_of_status, TakesMemory}
use Rattle.command_steps.specs.Printing.{Said, Says, SaysFront, SaysLine}

pub line_whole : (s : Status) (line : List ℕ) (old new : Said) → line ≡ line_of_status s → Says line old new → SaysLine s old new
line_whole s line old new is says = inl (subst (λ (l : List ℕ). Says l old new) is says)

pub line_cut : (s : Status) (line : List ℕ) (old new : Said) → line ≡ line_of_status s → SaysFront line old new → SaysLine s old new
line_cut s line old new is says = inr (inl (subst (λ (l : List ℕ). SaysFront l old new) is says))

pub line_left_out : (s : Status) (old : Said) → TakesMemory s → SaysLine s old old
line_left_out s old takes = inr (inr (takes, refl))

pub ruleset lines = (line_whole, line_cut, line_left_out)
