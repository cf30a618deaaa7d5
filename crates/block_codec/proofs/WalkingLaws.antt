-- A walk over the last blocks: how it is moved, how it grows from behind, and that it answers the window.
use Rattle.std.proofs.Common.{◌≡◌, ℕ, suc, ◌+◌, ◌-◌, ◌<◌, ◌≤◌, ⊎_elim, List, [], ◌∷◌, ◌++◌, length, get_or, drop, map, refl, sym, ap, ◌∙◌, subst, arith, add-one}
use Rattle.std.proofs.lemmas.Bool.{cases_lt}
use Rattle.std.proofs.lemmas.List.{get_or-drop, get_or-map, get_or_append_left, get_or_push, get_or_default, get_or_past, length-append, length-drop}
use Rattle.std.proofs.lemmas.List.Elements.{All-map}
use Rattle.symbol_base.specs.declared.Block.{Block}
use Rattle.code_spec.specs.Code.{CodeData, IsDataWord}
use Rattle.code_spec.specs.Output.{row_at, output_from}
use Rattle.code_spec.specs.Decoder.{IsFound}
use Rattle.block_codec.specs.Decoding.{block_of}
use Rattle.block_codec.specs.declared.survivors.Step.{Step}
use Rattle.block_codec.specs.declared.walk.Walk.{Walk}
use Rattle.block_codec.specs.inside.Walking.{end_step, step_at, IsStepTo, AreSteps, IsKept, IsWalkOver}

-- an item of a list that was moved by one place, with one more at the end
get_or-moved : {A : Type 0} (xs : List A) (x d : A) (k : ℕ) → k < length xs → get_or (drop 1 xs ++ x ∷ []) k d ≡ get_or xs (k + 1) x
get_or-moved xs x d k inside =
    let next : 1 + k ≡ k + 1 = omega arith in
    let short = length-drop 1 xs in
    ⊎_elim
    (λ (before : k < length xs - 1).
    get_or_append_left (drop 1 xs) (x ∷ []) d k (omega (arith, before, short)) ∙ get_or-drop 1 xs k d ∙ ap (λ n. get_or xs n d) next
    ∙ get_or_default xs (k + 1) d x (omega (arith, before)))
    (λ (last : length xs - 1 ≤ k). get_or_push (drop 1 xs) x d k (omega (arith, last, short, inside)) ∙ sym (get_or_past xs (k + 1) x (omega (arith, last))))
    (cases_lt k (length xs - 1))

-- a step that is the same, of the same block and to the same state
same_step : (c : CodeData) (step other : Step) (block last : Block) (to next : ℕ) → other ≡ step → last ≡ block → next ≡ to → IsStepTo c step block to → IsStepTo c other last next
same_step c step other block last to next a b e fits =
    subst (λ s. IsStepTo c s last next) (sym a) (subst (λ d. IsStepTo c step d next) (sym b) (subst (λ n. IsStepTo c step block n) (sym e) fits))

-- blocks and steps that are moved by one place, whatever the next end is
pub steps_moved : (c : CodeData) (old now : List Block) (steps more : List Step) (end next start : ℕ) (block : Block) → length steps ≡ length old → now ≡ drop 1 old ++ block ∷ []
    → more ≡ drop 1 steps ++ end_step end ∷ [] → AreSteps c old steps end start (length old) → AreSteps c now more next (start - 1) (length old - 1)
steps_moved c old now steps more end next start block count moved put kept = record {
  each =
      λ place from inside.
      let here = ap (λ (list : List Step). get_or list place (end_step next)) put ∙ get_or-moved steps (end_step end) (end_step next) place (omega (arith, inside, count)) in
      let behind = ap (λ (list : List Step). get_or list (place + 1) (end_step next)) put ∙ get_or-moved steps (end_step end) (end_step next) (place + 1) (omega (arith, inside, count)) in
      let written =
      ap (λ (list : List Block). get_or list place (block_of 0)) moved ∙ get_or-moved old block (block_of 0) place (omega (arith, inside))
      ∙ get_or_default old (place + 1) block (block_of 0) (omega (arith, inside)) in
      same_step c _ _ _ _ _ _ here written (ap (λ (s : Step). s.state) behind) (kept.each (place + 1) (omega (arith, from)) (omega (arith, inside)));
}

-- the end is not the concern of the steps before the last
pub steps_ended : (c : CodeData) (blocks : List Block) (steps : List Step) (end next start : ℕ) → length steps ≡ length blocks → AreSteps c blocks steps end start (length blocks - 1)
    → AreSteps c blocks steps next start (length blocks - 1)
steps_ended c blocks steps end next start count kept = record {
  each =
      λ place from inside.
      let here = get_or_default steps place (end_step next) (end_step end) (omega (arith, inside, count)) in
      let behind = get_or_default steps (place + 1) (end_step next) (end_step end) (omega (arith, inside, count)) in
      same_step c _ _ _ _ _ _ here refl (ap (λ (s : Step). s.state) behind) (kept.each place from inside);
}

-- no steps
pub steps_none : (c : CodeData) (blocks : List Block) (steps : List Step) (end start to : ℕ) → to ≤ start → AreSteps c blocks steps end start to
steps_none c blocks steps end start to none = record { each = λ place from inside. absurd (omega (arith, none, from, inside)) }

-- what the steps write
output_steps : (c : CodeData) (blocks : List Block) (steps : List Step) (end : ℕ) → length steps ≡ length blocks → AreSteps c blocks steps end 0 (length blocks)
    → output_from c.rows (step_at steps end 0).state (map (λ (s : Step). s.word) steps) ≡ blocks
output_steps c [] [] end count kept = refl
output_steps c [] (step ∷ steps) end count kept = absurd (cc)
output_steps c (block ∷ blocks) [] end count kept = absurd (cc)
output_steps c (block ∷ blocks) (step ∷ steps) end count kept =
    let first = kept.each 0 (omega arith) (omega arith) in
    let rest : AreSteps c blocks steps end 0 (length blocks) =
    record {
      each =
          λ i from below.
          let next : i + 1 ≡ suc i = add-one i in
          let after : i + 1 + 1 ≡ suc (i + 1) = add-one (i + 1) in
          same_step c _ _ _ _ _ _ (ap (λ m. step_at (step ∷ steps) end m) (sym next)) (ap (λ m. get_or (block ∷ blocks) m (block_of 0)) (sym next))
          (ap (λ m. (step_at (step ∷ steps) end m).state) (sym after)) (kept.each (i + 1) (omega arith) (omega (arith, below)));
    } in
    ap (λ (b : Block). b ∷ output_from c.rows (row_at c.rows step.state step.word).to (map (λ (s : Step). s.word) steps)) first.writes
    ∙ ap (λ s. block ∷ output_from c.rows s (map (λ (t : Step). t.word) steps)) first.leads
    ∙ ap (λ (bs : List Block). block ∷ bs) (output_steps c blocks steps end (omega (arith, count)) rest)

-- steps over the whole window find its word
pub found_by_steps : (c : CodeData) (window : List Block) (steps : List Step) (end : ℕ) (other : Step) → length steps ≡ length window → c.past < length window → AreSteps c window steps end 0 (length window)
    → IsFound c window (get_or steps c.past other).word
found_by_steps c window steps end other count inside kept =
    let first = kept.each 0 (omega arith) (omega (arith, inside)) in
    record {
      state = (step_at steps end 0).state;
      words = map (λ (s : Step). s.word) steps;
      inside = first.inside;
      below =
          All-map (IsDataWord c) (λ (s : Step). s.word) steps
          (λ i d short.
          subst (λ (s : Step). IsDataWord c s.word) (get_or_default steps i (end_step end) d short) (kept.each i (omega arith) (omega (arith, short, count))).below);
      writes = output_steps c window steps end count kept;
      here = get_or-map (λ (s : Step). s.word) steps c.past other 0 (omega (arith, inside, count));
    }

-- the last step leads to the end
pub steps_end : (steps : List Step) (end n : ℕ) → length steps ≤ n → (step_at steps end n).state ≡ end
steps_end steps end n behind = ap (λ (s : Step). s.state) (get_or_past steps n (end_step end) behind)

-- a walk over the blocks before, moved by one place
pub walk_moved : (c : CodeData) (old now : List Block) (walk more : Walk) (block : Block) → 0 < length old → now ≡ drop 1 old ++ block ∷ []
    → more.steps.items ≡ drop 1 walk.steps.items ++ end_step walk.end ∷ [] → more.start ≡ walk.start - 1 → IsWalkOver c old walk → IsKept c now more (length now - 1)
walk_moved c old now walk more block some moved put start kept =
    let steps = walk.steps.items in
    let longer : length now ≡ length old = ap (λ (bs : List Block). length bs) moved ∙ omega (arith, length-append (drop 1 old) (block ∷ []), length-drop 1 old, some) in
    let last : List Step = end_step walk.end ∷ [] in
    let also : length more.steps.items ≡ length steps = ap (λ (list : List Step). length list) put ∙ omega (arith, length-append (drop 1 steps) last, length-drop 1 steps, some, kept.count) in
    record {
      count = also ∙ kept.count ∙ sym longer;
      steps =
          subst (λ n. AreSteps c now more.steps.items more.end n (length now - 1)) (sym start)
          (subst (λ n. AreSteps c now more.steps.items more.end (walk.start - 1) (n - 1)) (sym longer) (steps_moved c old now steps more.steps.items walk.end more.end walk.start block kept.count moved put kept.steps));
    }
