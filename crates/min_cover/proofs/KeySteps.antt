-- The next raw state, part by part.
use Rattle.std.proofs.Common.{◌≡◌, ℕ, ◌+◌, ◌<◌, List, [], ◌∷◌, ◌++◌, length, drop, get_or, Some, None, Bool, true, false, cond, not, nat_eq, nat_lt, nat_le, ◌-◌, take, refl, ap, sym, ◌∙◌, arith, add-one, drop-cons}
use Rattle.std.specs.Prelude.{◌&&◌, ◌||◌}
use Rattle.std.specs.List.{list_any, ends_with, range_with_len}
use Rattle.std.specs.Result.{IfOk}
use Rattle.std.specs.Prelude.{Result, Ok, Err}
use Rattle.std.proofs.lemmas.Bool.{and_left}
use Rattle.std.proofs.lemmas.List.{take_all, length-drop}
use Rattle.constraint_spec.specs.Constraint.{ConstraintData}
use Rattle.constraint_spec.specs.RawState.{RawState}
use Rattle.constraint_spec.specs.RawStateOf.{first_raw_state, next_raw_state, begins_forbidden, longest_match, is_below, may_follow}
use Rattle.min_cover.specs.declared.raw_states.StateKey.{StateKey}
use Rattle.min_cover.specs.inside.Raw.{step_raw}
use Rattle.min_cover.specs.inside.States.{raw_of, runs_fit}

-- what stands from a place on
pub rest_all : (w : List ℕ) (at : ℕ) → take (length w - at) (drop at w) ≡ drop at w
rest_all w at = take_all (length w - at) (drop at w) (omega (arith, length-drop at w))

-- a list told in other words
pub ok_same : {E : Type 0} (r : Result (List ℕ) E) (xs ys : List ℕ) → xs ≡ ys → IfOk r (λ states. states ≡ xs) → IfOk r (λ states. states ≡ ys)
ok_same (Ok states) xs ys same told = told ∙ same
ok_same (Err e) xs ys same told = told

-- an end with which no forbidden word begins is passed over
pub match_skips : (forbid : List (List ℕ)) (w : List ℕ) (at : ℕ) → at < length w → begins_forbidden forbid (drop at w) ≡ false
    → longest_match forbid (drop at w) ≡ longest_match forbid (drop (at + 1) w)
match_skips forbid w at inside none =
    let split : drop at w ≡ get_or w at 0 ∷ drop (at + 1) w = drop-cons w at 0 inside ∙ ap (λ n. get_or w at 0 ∷ drop n w) (sym (add-one at)) in
    let whole = get_or w at 0 ∷ drop (at + 1) w in
    let none_there : begins_forbidden forbid whole ≡ false = ap (begins_forbidden forbid) (sym split) ∙ none in
    ap (longest_match forbid) split ∙ ap (λ b. cond b whole (longest_match forbid (drop (at + 1) w))) none_there

-- the raw state of the empty word
pub first_same : (c : ConstraintData) (key : StateKey) → key.after_one ≡ false → key.zeros ≡ 0 → key.matched ≡ [] → key.ends ≡ range_with_len 0 c.states
    → raw_of key ≡ first_raw_state c
first_same c key one zeros matched ends = cc

by_parts : (a o z f w : Bool) → (a && (o && (z && (f && w)))) ≡ ((a && (o && z)) && (f && w))
by_parts true true z f w = refl
by_parts true false z f w = refl
by_parts false o z f w = refl

-- whether the symbol may follow, as the code tests it
may_by : (c : ConstraintData) (raw : RawState) (symbol : ℕ)
    → may_follow c raw symbol
    ≡ (runs_fit c raw symbol && (not (list_any (ends_with nat_eq (raw.matched ++ symbol ∷ [])) c.forbid)
    && (nat_eq (length c.edges) 0 || not (nat_eq (length (next_raw_state c raw symbol).ends) 0))))
may_by c raw symbol =
    by_parts (nat_lt symbol c.alphabet) (not (nat_eq symbol 1) || (not raw.after_one || nat_le c.d raw.zeros))
    (not (nat_eq symbol 0) || is_below raw.zeros c.k) (not (list_any (ends_with nat_eq (raw.matched ++ symbol ∷ [])) c.forbid))
    (nat_eq (length c.edges) 0 || not (nat_eq (length (next_raw_state c raw symbol).ends) 0))

stopped : (c : ConstraintData) (raw : RawState) (symbol : ℕ) → may_follow c raw symbol ≡ false → step_raw c raw symbol ≡ None
stopped c raw symbol e = ap (λ b. cond b (Some (next_raw_state c raw symbol)) None) e

-- a symbol that the alphabet, d or k refuses
pub runs_stop : (c : ConstraintData) (raw : RawState) (symbol : ℕ) → runs_fit c raw symbol ≡ false → step_raw c raw symbol ≡ None
runs_stop c raw symbol e = stopped c raw symbol (may_by c raw symbol ∙ and_left (runs_fit c raw symbol) (not (list_any (ends_with nat_eq (raw.matched ++ symbol ∷ [])) c.forbid)
    && (nat_eq (length c.edges) 0 || not (nat_eq (length (next_raw_state c raw symbol).ends) 0))) e)
