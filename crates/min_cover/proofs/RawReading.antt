-- The machine on raw states reads the constraint's words.
use Rattle.std.proofs.Common.{◌≡◌, ◌↔◌, ℕ, List, [], ◌∷◌, Some, None, Bool, true, false, cond, refl, sym, ◌∙◌, is_some}
use Rattle.std.specs.Prelude.{◌&&◌, fold}
use Rattle.std.specs.Option.{option_and_then}
use Rattle.constraint_spec.specs.Constraint.{ConstraintData, IsWordOf}
use Rattle.constraint_spec.specs.Ranges.{IsConstraint}
use Rattle.constraint_spec.specs.RawState.{RawState}
use Rattle.constraint_spec.specs.RawStateOf.{raw_state, first_raw_state, next_raw_state, may_follow}
use Rattle.constraint_spec.proofs.Deciding.{may_be_read, Decides-word}
use Rattle.min_cover.specs.inside.Machine.{reads}
use Rattle.min_cover.specs.inside.Raw.{step_raw}

tested_by :
    (c : ConstraintData) (next : RawState) (w : List ℕ) (b : Bool)
    → is_some (reads (step_raw c) next w) ≡ may_be_read c next w
    → is_some (option_and_then (λ after. reads (step_raw c) after w) (cond b (Some next) None)) ≡ (b && may_be_read c next w)
tested_by c next w true rest = rest
tested_by c next w false rest = refl

-- what the machine reads is what the test of a word passes
reads_tested : (c : ConstraintData) (raw : RawState) (w : List ℕ) → is_some (reads (step_raw c) raw w) ≡ may_be_read c raw w
reads_tested c raw [] = refl
reads_tested c raw (symbol ∷ w) =
    tested_by c (next_raw_state c raw symbol) w (may_follow c raw symbol) (reads_tested c (next_raw_state c raw symbol) w)

-- the words are those that can be read from the raw state of the empty word
pub read-words :
    (c : ConstraintData) (w : List ℕ) → IsConstraint c
    → (is_some (reads (step_raw c) (first_raw_state c) w) ≡ true) ↔ IsWordOf c w
read-words c w ranges =
    let law = Decides-word c w ranges in
    let same = reads_tested c (first_raw_state c) w in
    ((λ read. law.0 (sym same ∙ read)), (λ word. same ∙ law.1 word))

end_by :
    (c : ConstraintData) (next end : RawState) (w : List ℕ) (b : Bool)
    → (reads (step_raw c) next w ≡ Some end → end ≡ fold (next_raw_state c) next w)
    → option_and_then (λ after. reads (step_raw c) after w) (cond b (Some next) None) ≡ Some end
    → end ≡ fold (next_raw_state c) next w
end_by c next end w true rest read = rest read
end_by c next end w false rest read = absurd (cc)

-- what is read ends in the raw state of the word
reads_end :
    (c : ConstraintData) (raw end : RawState) (w : List ℕ) → reads (step_raw c) raw w ≡ Some end
    → end ≡ fold (next_raw_state c) raw w
reads_end c raw end [] read = cc
reads_end c raw end (symbol ∷ w) read =
    end_by c (next_raw_state c raw symbol) end w (may_follow c raw symbol)
    (reads_end c (next_raw_state c raw symbol) end w) read

pub read-state :
    (c : ConstraintData) (w : List ℕ) (end : RawState) → reads (step_raw c) (first_raw_state c) w ≡ Some end
    → end ≡ raw_state c w
read-state c w end read = reads_end c (first_raw_state c) end w read
