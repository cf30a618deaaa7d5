-- The laws of steps: which have one outcome, and that a function that is a row of `?` takes its row.
use Rattle.std.proofs.Common.{◌≡◌, Result, Ok, Err, refl, sym, ap, subst}
use Rattle.steps.specs.Step.{Step, Gives, gives, Then, stops, goes_on, Needs, holds, fails, Reads, understood, refused_for, Finds, found, IsSingleAt}
use Rattle.steps.specs.Decides.{Decides, gave_alone, refused_alone, memory_alone}

-- ---- outcomes

abbrev with_refusal : {A R : Type 0} → R → Result A R
with_refusal r = Err r

abbrev with_value : {A R : Type 0} → A → Result A R
with_value x = Ok x

abbrev value_or : {A R : Type 0} → A → Result A R → A
value_or other (Ok x) = x
value_or other (Err r) = other

abbrev refusal_or : {A R : Type 0} → R → Result A R → R
refusal_or other (Ok x) = other
refusal_or other (Err r) = r

pub ok_is : {A R : Type 0} (x y : A) → with_value {R = R} x ≡ with_value y → x ≡ y
ok_is x y e = ap (value_or x) e

pub err_is : {A R : Type 0} (r s : R) → with_refusal {A = A} r ≡ with_refusal s → r ≡ s
err_is r s e = ap (refusal_or r) e

pub ok_isnt_err : {A R : Type 0} (x : A) (r : R) → with_value x ≡ with_refusal r → ⊥
ok_isnt_err x r e = absurd cc

-- ---- single steps

module _ {W R : Type 0} (world : W) where
  pub gives_is_single : {A : Type 0} (value : A) → IsSingleAt {R = R} world (Gives value)
  gives_is_single value x y gives gives = refl

  pub needs_is_single : (P : Type 0) (refusal : R) → IsSingleAt world (Needs P refusal)
  needs_is_single P refusal x y (holds p) (holds q) = refl
  needs_is_single P refusal x y (holds p) (fails nope) = absurd (nope p)
  needs_is_single P refusal x y (fails nope) (holds q) = absurd (nope q)
  needs_is_single P refusal x y (fails nope) (fails neither) = refl

  -- one value, one fault, and not both
  pub reads_is_single : {A B : Type 0} (P : A → Type 0) (Q : B → Type 0) (refusal : B → R)
      → ((a b : A) → P a → P b → a ≡ b) → ((a b : B) → Q a → Q b → a ≡ b) → ((a : A) (b : B) → P a → Q b → ⊥) → IsSingleAt world (Reads P Q refusal)
  reads_is_single P Q refusal one_value one_fault not_both x y (understood a p) (understood b q) = ap with_value (one_value a b p q)
  reads_is_single P Q refusal one_value one_fault not_both x y (understood a p) (refused_for b q) = absurd (not_both a b p q)
  reads_is_single P Q refusal one_value one_fault not_both x y (refused_for a p) (understood b q) = absurd (not_both b a q p)
  reads_is_single P Q refusal one_value one_fault not_both x y (refused_for a p) (refused_for b q) = ap (λ (f : _). with_refusal (refusal f)) (one_fault a b p q)

  pub finds_is_single : {A : Type 0} (P : A → Type 0) → ((a b : A) → P a → P b → a ≡ b) → IsSingleAt {R = R} world (Finds P)
  finds_is_single P one_value x y (found a p) (found b q) = ap with_value (one_value a b p q)

  -- a row is single where its first step is, and its second behind each value that the first can give
  pub then_is_single_of : {A B : Type 0} (first : Step W R A) (next : A → Step W R B) → IsSingleAt world first
      → ((value : A) → first world (Ok value) → IsSingleAt world (next value)) → IsSingleAt world (Then first next)
  then_is_single_of first next once each x y (stops s at_s) (stops t at_t) = ap with_refusal (err_is s t (once (Err s) (Err t) at_s at_t))
  then_is_single_of first next once each x y (stops s at_s) (goes_on b outcome at_b rest) = absurd (ok_isnt_err b s (once (Ok b) (Err s) at_b at_s))
  then_is_single_of first next once each x y (goes_on a outcome at_a rest) (stops t at_t) = absurd (ok_isnt_err a t (once (Ok a) (Err t) at_a at_t))
  then_is_single_of first next once each x y (goes_on a left at_a rest) (goes_on b right at_b other) =
      each a at_a x y rest (subst (λ (c : _). next c world y) (sym (ok_is a b (once (Ok a) (Ok b) at_a at_b))) other)

  -- a row is single where its steps are
  pub then_is_single : {A B : Type 0} (first : Step W R A) (next : A → Step W R B) → IsSingleAt world first → ((value : A) → IsSingleAt world (next value))
      → IsSingleAt world (Then first next)
  then_is_single first next once each = then_is_single_of first next once (λ value at. each value)

-- ---- what a function returned that is a row of `?`

module _ {W R : Type 0} (IsRefusal : R → Type 0) (memory : R) where
  decide_same : {A Y B : Type 0} (other : Y → B) (first : Step W R A) (next : A → Step W R B) (value : A) (result : Result Y R)
      → ((world : W) → first world (Ok value)) → Decides IsRefusal memory other (next value) result → Decides IsRefusal memory other (Then first next) result
  decide_same other first next value result at (gave_alone y rest) = gave_alone y (λ world. goes_on value (Ok (other y)) (at world) (rest world))
  decide_same other first next value result at (refused_alone s rest is) = refused_alone s (λ world. goes_on value (Err s) (at world) (rest world)) is
  decide_same other first next value result at memory_alone = memory_alone

  -- the second function's result, behind a value of the first
  pub decide_on : {X A Y B : Type 0} (view : X → A) (other : Y → B) (first : Step W R A) (next : A → Step W R B) (x : X) (result : Result Y R)
      → Decides IsRefusal memory view first (Ok x) → Decides IsRefusal memory other (next (view x)) result → Decides IsRefusal memory other (Then first next) result
  decide_on view other first next x result (gave_alone y at) rest = decide_same other first next (view x) result at rest

  -- a refusal of the first
  pub decide_stop : {X A Y B : Type 0} (view : X → A) (other : Y → B) (first : Step W R A) (next : A → Step W R B) (s : R)
      → Decides IsRefusal memory view first (Err s) → Decides IsRefusal memory other (Then first next) (Err s)
  decide_stop view other first next s (refused_alone t at is) = refused_alone s (λ world. stops s (at world)) is
  decide_stop view other first next s memory_alone = memory_alone

  -- the row's last value
  pub decide_gives : {X A : Type 0} (view : X → A) (value : A) (x : X) → value ≡ view x → Decides {W = W} IsRefusal memory view (Gives value) (Ok x)
  decide_gives view value x same = gave_alone x (λ world. subst (λ (v : _). Gives {R = R} v world (Ok (view x))) (sym same) gives)

  -- the two ends of a test
  pub needs_met : (P : Type 0) (refusal : R) → P → Decides {W = W} IsRefusal memory (λ (done : Unit {0}). done) (Needs P refusal) (Ok tt)
  needs_met P refusal met = gave_alone tt (λ world. holds met)

  pub needs_unmet : (P : Type 0) (refusal : R) → (P → ⊥) → IsRefusal refusal → Decides {W = W} IsRefusal memory (λ (done : Unit {0}). done) (Needs P refusal) (Err refusal)
  needs_unmet P refusal unmet is = refused_alone refusal (λ world. fails unmet) is

  -- the two ends of a reader
  pub reads_value : {A B : Type 0} (P : A → Type 0) (Q : B → Type 0) (refusal : B → R) {X : Type 0} (view : X → A) (x : X) → P (view x)
      → Decides {W = W} IsRefusal memory view (Reads P Q refusal) (Ok x)
  reads_value P Q refusal view x met = gave_alone x (λ world. understood (view x) met)

  pub reads_fault : {A B : Type 0} (P : A → Type 0) (Q : B → Type 0) (refusal : B → R) {X : Type 0} (view : X → A) (why : B) → Q why → IsRefusal (refusal why)
      → Decides {W = W} IsRefusal memory view (Reads P Q refusal) (Err (refusal why))
  reads_fault P Q refusal view why met is = refused_alone (refusal why) (λ world. refused_for why met) is

  -- what is always there
  pub finds_value : {A X : Type 0} (P : A → Type 0) (view : X → A) (x : X) → P (view x) → Decides {W = W} IsRefusal memory view (Finds P) (Ok x)
  finds_value P view x met = gave_alone x (λ world. found (view x) met)

  -- memory was wanted
  pub decide_memory : {X A : Type 0} (view : X → A) (step : Step W R A) (s : R) → s ≡ memory → Decides IsRefusal memory view step (Err s)
  decide_memory view step s is = rw is memory_alone

-- what a row of `?` needs
pub ruleset rows_alone = (decide_on, decide_stop, decide_gives, decide_memory)
