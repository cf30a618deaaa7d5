-- Sets of states as marks, one state or one block at a time.
use Rattle.std.proofs.Common.{◌≡◌, ℕ, suc, ◌+◌, ◌-◌, ◌<◌, ◌≤◌, inl, inr, ⊎_elim, ◌↔◌, Bool, true, false, Option, Some, None, List, [], ◌∷◌, ◌++◌, length, get_or, set, take, drop, replicate, add-one, refl, sym, ap, ◌∙◌, subst, arith}
use Rattle.std.specs.Option.{is_some}
use Rattle.std.proofs.Math.ListN.{get_or-eq_default}
use Rattle.std.proofs.Math.Seq.{drop-cons}
use Rattle.std.proofs.lemmas.Bool.{cases_lt, cases_eq, false≢true}
use Rattle.std.proofs.lemmas.List.{take_all, take-append-drop, length-drop, get_or-replicate, length-replicate, get_or-set_same, get_or-set_other}
use Rattle.symbol_base.specs.declared.Block.{Block}
use Rattle.code_spec.specs.Code.{CodeData, IsCode}
use Rattle.code_spec.specs.Output.{row_at}
use Rattle.code_spec.specs.Code.{IsState}
use Rattle.code_spec.specs.Decoder.{IsFound, IsDecoded}
use Rattle.code_spec.specs.Walks.{IsArc, IsReached, IsReadable, IsBetween}
use Rattle.code_spec.proofs.OutputLaws.{row_in_range}
use Rattle.code_spec.proofs.WalkLaws.{readable_none, readable_more, readable_first, reached_none, reached_inside, reached_more, reached_last, found_between, between_found}
use Rattle.block_codec.specs.inside.Sets.{IsMarked, HasStates, IsForward, IsArcInto, IsWordInto, IsAnyWordInto, IsBackward, AreReached, AreReadable}
use Rattle.block_codec.specs.inside.Between.{IsWordBetween, IsBetweenSets}

nothing_marked : (n state : ℕ) → IsMarked (replicate n false) state → ⊥
nothing_marked n state marked =
    let none : get_or (replicate n false) state false ≡ false =
    ⊎_elim
    (λ (inside : state < n). get_or-replicate n state false false inside)
    (λ (behind : n ≤ state). get_or-eq_default (replicate n false) false (omega (arith, behind, length-replicate {A = Bool} n false)))
    (cases_lt state n) in
    false≢true (sym none ∙ marked)

-- the mark at a place and the other marks
marked_here : (marks : List Bool) (state : ℕ) (value : Bool) → state < length marks → IsMarked (set marks state value) state → value ≡ true
marked_here marks state value inside marked = sym (get_or-set_same marks state value false inside) ∙ marked

marked_there : (marks : List Bool) (state other : ℕ) (value : Bool) → (other ≡ state → ⊥) → IsMarked (set marks state value) other ↔ IsMarked marks other
marked_there marks state other value apart = (λ h. sym (get_or-set_other marks state other value false apart) ∙ h, λ h. get_or-set_other marks state other value false apart ∙ h)

pub states_none : (n : ℕ) → HasStates 0 (replicate n false)
states_none n = record { marks = λ state. (λ marked. absurd (nothing_marked n state marked), λ below. absurd (omega (arith, below))) }

pub states_more : (n : ℕ) (marks : List Bool) → n < length marks → HasStates n marks → HasStates (n + 1) (set marks n true)
states_more n marks inside before = record {
  marks =
      λ state.
      ⊎_elim
      (λ (here : state ≡ n). (λ marked. omega (arith, here), λ below. subst (λ s. IsMarked (set marks n true) s) (sym here) (get_or-set_same marks n true false inside)))
      (λ (there : state ≡ n → ⊥). (
        λ marked. let below = (before.marks state).0 ((marked_there marks n state true there).0 marked) in omega (arith, below),
        λ below. (marked_there marks n state true there).1 ((before.marks state).1 (omega (arith, below, there))),
      ))
      (cases_eq state n);
}

pub forward_none : (c : CodeData) (from : List Bool) (block : Block) (n : ℕ) → IsForward c from block 0 (replicate n false)
forward_none c from block n = record { marks = λ next. (λ marked. absurd (nothing_marked n next marked), λ arc. absurd (omega (arith, arc.below))) }

pub backward_none : (c : CodeData) (into : List Bool) (block : Block) (n : ℕ) → IsBackward c into block 0 (replicate n false)
backward_none c into block n = record { marks = λ state. (λ marked. absurd (nothing_marked n state marked), λ arc. absurd (omega (arith, arc.0))) }

-- a word's row is an arc, and an arc is one of a word
any_arc : (c : CodeData) (state : ℕ) (block : Block) (into : List Bool) (found : Option ℕ) → IsAnyWordInto c state block into found → (is_some found ≡ true) ↔ IsArcInto c state block into
any_arc c state block into (Some word) any = (
  λ _. record { next = (row_at c.rows state word).to; marked = any.marked; arc = record { word = word; below = any.below; writes = any.writes; leads = refl } },
  λ _. refl,
)
any_arc c state block into None any = (
  λ same. absurd (false≢true same),
  λ arc. absurd (any arc.arc.word (record { below = arc.arc.below; writes = arc.arc.writes; marked = subst (λ s. IsMarked into s) (sym arc.arc.leads) arc.marked })),
)

pub backward_more : (c : CodeData) (into : List Bool) (block : Block) (n : ℕ) (marks : List Bool) (found : Option ℕ) (value : Bool) → n < length marks → IsAnyWordInto c n block into found → value ≡ is_some found
    → IsBackward c into block n marks → IsBackward c into block (n + 1) (set marks n value)
backward_more c into block n marks found value inside any is before = record {
  marks =
      λ state.
      ⊎_elim
      (λ (here : state ≡ n). (
        λ marked.
            let yes = marked_here marks n value inside (subst (λ s. IsMarked (set marks n value) s) here marked) in
            (omega (arith, here), subst (λ s. IsArcInto c s block into) (sym here) ((any_arc c n block into found any).0 (sym is ∙ yes))),
        λ both.
            let yes = (any_arc c n block into found any).1 (subst (λ s. IsArcInto c s block into) here both.1) in
            subst (λ s. IsMarked (set marks n value) s) (sym here) (get_or-set_same marks n value false inside ∙ is ∙ yes),
      ))
      (λ (there : state ≡ n → ⊥). (
        λ marked. let both = (before.marks state).0 ((marked_there marks n state value there).0 marked) in (omega (arith, both.0), both.1),
        λ both. (marked_there marks n state value there).1 ((before.marks state).1 (omega (arith, both.0, there), both.1)),
      ))
      (cases_eq state n);
}

-- no blocks lead from all states to all states
pub reached_all : (c : CodeData) (marks : List Bool) → HasStates (length c.rows) marks → AreReached c [] marks
reached_all c marks all = record { marks = λ state. (λ marked. (reached_none c state).1 ((all.marks state).0 marked), λ reached. (all.marks state).1 ((reached_none c state).0 reached)) }

-- one block more
pub reached_next : (c : CodeData) (blocks more : List Block) (block : Block) (old marks : List Bool) → IsCode c → more ≡ blocks ++ block ∷ [] → AreReached c blocks old → IsForward c old block (length c.rows) marks → AreReached c more marks
reached_next c blocks more block old marks code is before forward = record {
  marks =
      λ next. (
        λ marked.
            let from = (forward.marks next).0 marked in
            subst (λ (bs : List Block). IsReached c bs next) (sym is) (reached_more c blocks block from.state next ((before.marks from.state).0 from.marked) from.arc),
        λ reached.
            let last = reached_last c blocks block next (subst (λ (bs : List Block). IsReached c bs next) is reached) in
            (forward.marks next).1 (record { state = last.0; below = reached_inside c blocks last.0 code last.1.0; marked = (before.marks last.0).1 last.1.0; arc = last.1.1 }),
      );
}

-- no blocks can be read from all states
pub readable_all : (c : CodeData) (marks : List Bool) → HasStates (length c.rows) marks → AreReadable c [] marks
readable_all c marks all = record { marks = λ state. (λ marked. ((all.marks state).0 marked, readable_none c state), λ readable. (all.marks state).1 readable.0) }

-- an arc from a state leads to a state
arc_inside : (c : CodeData) (state next : ℕ) (block : Block) → IsCode c → IsState c state → IsArc c state block next → IsState c next
arc_inside c state next block code inside arc = subst (λ s. IsState c s) arc.leads (row_in_range c state arc.word code inside arc.below).1

-- one block more in front
pub readable_next : (c : CodeData) (blocks more : List Block) (block : Block) (old marks : List Bool) → IsCode c → more ≡ block ∷ blocks → AreReadable c blocks old → IsBackward c old block (length c.rows) marks → AreReadable c more marks
readable_next c blocks more block old marks code is before backward = record {
  marks =
      λ state. (
        λ marked.
            let both = (backward.marks state).0 marked in
            let into = both.1 in
            (both.0, subst (λ (bs : List Block). IsReadable c bs state) (sym is) (readable_more c block blocks state into.next into.arc ((before.marks into.next).0 into.marked).1)),
        λ both.
            let first = readable_first c block blocks state (subst (λ (bs : List Block). IsReadable c bs state) is both.1) in
            let inside = arc_inside c state first.0 block code both.0 first.1.0 in
            (backward.marks state).1 (both.0, record { next = first.0; marked = (before.marks first.0).1 (inside, first.1.1); arc = first.1.0 }),
      );
}

-- none by one state more
pub between_more : (c : CodeData) (front : List Bool) (block : Block) (back : List Bool) (n : ℕ) → ((word : ℕ) → IsWordBetween c front block back n word → ⊥)
    → (IsMarked front n → (word : ℕ) → IsWordInto c n block back word → ⊥) → (word : ℕ) → IsWordBetween c front block back (n + 1) word → ⊥
between_more c front block back n before here word between =
    ⊎_elim
    (λ (same : between.state ≡ n). here (subst (λ s. IsMarked front s) same between.marked) word (subst (λ s. IsWordInto c s block back word) same between.into))
    (λ (other : between.state ≡ n → ⊥). before word (record { state = between.state; below = omega (arith, between.below, other); marked = between.marked; into = between.into }))
    (cases_eq between.state n)

-- a word between the sets is one between the parts of the window
word_between : (c : CodeData) (front : List Block) (block : Block) (back : List Block) (first last : List Bool) (word : ℕ) → AreReached c front first → AreReadable c back last
    → IsWordBetween c first block last (length c.rows) word → IsBetween c front block back word
word_between c front block back first last word reached readable between = record {
  state = between.state;
  reached = (reached.marks between.state).0 between.marked;
  below = between.into.below;
  writes = between.into.writes;
  readable = ((readable.marks (row_at c.rows between.state word).to).0 between.into.marked).1;
}

between_word : (c : CodeData) (front : List Block) (block : Block) (back : List Block) (first last : List Bool) (word : ℕ) → IsCode c → AreReached c front first → AreReadable c back last
    → IsBetween c front block back word → IsWordBetween c first block last (length c.rows) word
between_word c front block back first last word code reached readable between =
    let inside = reached_inside c front between.state code between.reached in
    record {
      state = between.state;
      below = inside;
      marked = (reached.marks between.state).1 between.reached;
      into =
          record {
            below = between.below;
            writes = between.writes;
            marked = (readable.marks (row_at c.rows between.state word).to).1 ((row_in_range c between.state word code inside between.below).1, between.readable);
          };
    }

-- the word between the sets is the decoder's answer
pub decoded_between : (c : CodeData) (window front : List Block) (block : Block) (back : List Block) (first last : List Bool) (word : ℕ) → IsCode c → window ≡ front ++ (block ∷ back) → length front ≡ c.past
    → AreReached c front first → AreReadable c back last → IsBetweenSets c first block last word → IsDecoded c window word
decoded_between c window front block back first last word code is long reached readable (inl between) =
    inl (subst (λ (w : List Block). IsFound c w word) (sym is) (between_found c front block back word long (word_between c front block back first last word reached readable between)))
decoded_between c window front block back first last word code is long reached readable (inr none) = inr (
  none.0,
  λ other found.
      none.1 other (between_word c front block back first last other code reached readable (found_between c front block back other long (subst (λ (w : List Block). IsFound c w other) is found))),
)

-- a list is what stands before a place, its element there, and what stands behind
pub parts_of : (blocks : List Block) (n : ℕ) (none : Block) → n < length blocks → blocks ≡ take n blocks ++ (get_or blocks n none ∷ take (length blocks - (n + 1)) (drop (n + 1) blocks))
parts_of blocks n none inside =
    let rest : drop (suc n) blocks ≡ take (length blocks - (n + 1)) (drop (n + 1) blocks) =
    ap (λ (m : ℕ). drop m blocks) (sym (add-one n)) ∙ sym (take_all (length blocks - (n + 1)) (drop (n + 1) blocks) (omega (arith, length-drop (n + 1) blocks))) in
    sym (take-append-drop n blocks) ∙ ap (λ (tail : List Block). take n blocks ++ tail) (drop-cons blocks n none inside ∙ ap (λ (tail : List Block). get_or blocks n none ∷ tail) rest)
