-- Reads one after another, under other names of their places and counts.
use Rattle.std.proofs.Common.{◌≡◌, ◌≢◌, ℕ, ◌+◌, ◌<◌, List, Ok, sym, subst, arith}
use Rattle.shelf_io.specs.Reads.{Telling, HasRead, none, more}

module _ {S : Type 0} (gives : Telling S) (name : List ℕ) (room : ℕ) (first : S) where
  -- no reads give no bytes
  pub none_read : (size : ℕ) → size ≡ 0 → HasRead gives name room first size first
  none_read size empty = subst (λ (n : ℕ). HasRead gives name room first n first) (sym empty) none

  -- one more read gives its bytes behind the others
  pub and_one_more : (at start asked n : ℕ) (mid last : S) → HasRead gives name room first start mid → at ≡ start → asked ≡ room → n ≢ 0
      → gives mid name at asked (Ok n) last → HasRead gives name room first (start + n) last
  and_one_more at start asked n mid last run here all some read =
      more start n mid last run (omega arith)
      (subst (λ (r : ℕ). gives mid name start r (Ok n) last) all (subst (λ (k : ℕ). gives mid name k asked (Ok n) last) here read))

  pub more_read : (at start asked n size : ℕ) (mid last : S) → HasRead gives name room first start mid → at ≡ start → asked ≡ room → n ≢ 0
      → gives mid name at asked (Ok n) last → size ≡ start + n → HasRead gives name room first size last
  more_read at start asked n size mid last run here all some read sum =
      subst (λ (k : ℕ). HasRead gives name room first k last) (sym sum) (and_one_more at start asked n mid last run here all some read)

  -- reads that gave more than the limit
  pub read_beyond : (at start asked n limit : ℕ) (mid last : S) → HasRead gives name room first start mid → at ≡ start → asked ≡ room → n ≢ 0
      → gives mid name at asked (Ok n) last → limit < start + n → (k : ℕ) × (limit < k) × HasRead gives name room first k last
  read_beyond at start asked n limit mid last run here all some read over = (start + n, over, and_one_more at start asked n mid last run here all some read)
