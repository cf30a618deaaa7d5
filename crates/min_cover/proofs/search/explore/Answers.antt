use Rattle.std.proofs.Common.{◌≡◌, ◌<◌, ℕ, List, ◌∷◌, [], length, map, Option, sym, ap, ◌∙◌, subst, arith, length-append}
use Rattle.std.specs.Global.{Vec}
use Rattle.std.specs.Prelude.{All}
use Rattle.std.proofs.lemmas.List.{length-map}
use Rattle.std.proofs.lemmas.List.Elements.{All-push, All-nil}
use Rattle.indexmap.specs.IndexSet.{insert_key}
use Rattle.min_cover.specs.declared.raw_states.StateKey.{StateKey}
use Rattle.min_cover.specs.inside.Found.{IsFoundSoFar}
use Rattle.min_cover.proofs.Numbering.{same_key}
use Rattle.min_cover.proofs.FoundSteps.{so_far_start, so_far_row, pushed_rows}
use Rattle.min_cover.proofs.search.explore.Goals as goal

pub states-init : goal.states-init
states-init c =
    let d = c.args.constraint.now in
    let key = c.in_ok-first_state.field-0 in
    let Items = λ (row : Vec (Option ℕ)). row.items in
    let keys : c.insert.new.self.keys ≡ key ∷ [] =
    c.in_ok-insert.ensures.keys ∙ ap (λ (ks : List StateKey). insert_key same_key ks key) c.new-found.ensures.empty in
    let rows = c.new-rows.ensures.items in
    let one : length c.insert.new.self.keys ≡ 1 = ap (λ (ks : List StateKey). length ks) keys in
    let none : length c.new-rows.result.items ≡ 0 = ap (λ (rs : List (Vec (Option ℕ))). length rs) rows in
    record {
      few = omega (arith, one);
      within = omega (arith, one, none);
      width = subst (λ (rs : List (Vec (Option ℕ))). All (λ (r : List (Option ℕ)). length r ≡ d.alphabet) (map Items rs)) (sym rows)
          (All-nil (λ (r : List (Option ℕ)). length r ≡ d.alphabet));
      so_far = subst (λ (ks : List StateKey). IsFoundSoFar d ks (map Items c.new-rows.result.items) []) (sym keys)
          (subst (λ (rs : List (Vec (Option ℕ))). IsFoundSoFar d (key ∷ []) (map Items rs) []) (sym rows)
          (so_far_start d key c.in_ok-first_state.ensures.key));
    }

pub states-preserved : goal.states-preserved
states-preserved c =
    let d = c.args.constraint.now in
    let Items = λ (row : Vec (Option ℕ)). row.items in
    let known = c.states.invariant in
    let rows = c.states.rows.items in
    let row = c.in_ok-row.row in
    let new = c.next_row.new.found.keys in
    let told = c.in_ok-row.ensures in
    let size : length (map Items rows) ≡ length rows = length-map rows Items in
    let short : length rows < length c.states.found.keys =
    omega (arith, c.states-test.true, c.len.ensures, c.len-in-states.ensures.len, c.states.rows.ok.0) in
    let items = c.in_ok-push.ensures.items in
    let found : IsFoundSoFar d new (map Items rows) row.items =
    subst (λ (rs : List (Vec (Option ℕ))). IsFoundSoFar d new (map Items rs) row.items) c.deref.ensures.value told.found in
    record {
      few = told.few;
      within = omega (arith, short, told.kept, ap (λ (rs : List (Vec (Option ℕ))). length rs) items, length-append rows (row ∷ []));
      width = subst (λ (rs : List (Vec (Option ℕ))). All (λ (r : List (Option ℕ)). length r ≡ d.alphabet) (map Items rs)) (sym items)
          (subst (λ (rs : List (List (Option ℕ))). All (λ (r : List (Option ℕ)). length r ≡ d.alphabet) rs) (sym (pushed_rows rows row))
          (All-push (λ (r : List (Option ℕ)). length r ≡ d.alphabet) (map Items rows) row.items known.width told.width));
      so_far = subst (λ (rs : List (Vec (Option ℕ))). IsFoundSoFar d new (map Items rs) []) (sym items)
          (subst (λ (rs : List (List (Option ℕ))). IsFoundSoFar d new rs []) (sym (pushed_rows rows row))
          (so_far_row d new (map Items rows) row.items told.width found (omega (arith, size, short, told.kept))));
    }
