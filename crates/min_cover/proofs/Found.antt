-- The graph of the classes of a search of the raw states is the cover.
use Rattle.std.proofs.Common.{◌≡◌, ℕ, ◌<◌, List, Option, Some, None, refl, ap, sym, ◌∙◌, is_some, true}
use Rattle.std.specs.Option.{option_map}
use Rattle.constraint_spec.specs.Constraint.{ConstraintData, IsWordOf}
use Rattle.constraint_spec.specs.Ranges.{IsConstraint}
use Rattle.constraint_spec.specs.RawState.{RawState}
use Rattle.constraint_spec.specs.RawStateOf.{first_raw_state}
use Rattle.label_graphs.specs.Cover.{IsCover}
use Rattle.min_cover.specs.inside.Machine.{reads, IsStable, IsTold}
use Rattle.min_cover.specs.inside.Search.{IsNumbered, IsSearched, IsByFirst, class_edge}
use Rattle.min_cover.specs.inside.Raw.{step_raw}
use Rattle.min_cover.proofs.Covers.{explored-cover}
use Rattle.min_cover.proofs.Edges.{cover-words}
use Rattle.min_cover.proofs.Explored.{numbered-reads, classes-explored}
use Rattle.min_cover.proofs.RawReading.{read-words}

some_map : (key : ℕ → RawState) (o : Option ℕ) → is_some (option_map key o) ≡ is_some o
some_map key None = refl
some_map key (Some t) = refl

read_numbers :
    (c : ConstraintData) (count : ℕ) (key : ℕ → RawState) (next : ℕ → ℕ → Option ℕ) (w : List ℕ)
    → IsNumbered (step_raw c) count key next → 0 < count → key 0 ≡ first_raw_state c
    → is_some (reads (step_raw c) (first_raw_state c) w) ≡ is_some (reads next 0 w)
read_numbers c count key next w numbered some root =
    ap (λ q. is_some (reads (step_raw c) q w)) (sym root)
    ∙ ap is_some (numbered-reads (step_raw c) count key next numbered w 0 some)
    ∙ some_map key (reads next 0 w)

-- what a search, its classes and their first members give is the cover
pub cover-found :
    (c : ConstraintData) (count : ℕ) (key : ℕ → RawState) (next : ℕ → ℕ → Option ℕ) (word : ℕ → List ℕ)
    (class : ℕ → ℕ) (classes : ℕ) (first : ℕ → ℕ) → IsConstraint c → IsNumbered (step_raw c) count key next
    → key 0 ≡ first_raw_state c → IsSearched next count word → IsByFirst count class classes first
    → IsStable next count class → IsTold next count class
    → IsCover (IsWordOf c) classes (class_edge next class classes first)
cover-found c count key next word class classes first ranges numbered root searched firsts stable told =
    let found = explored-cover next 0 classes first (λ m. word (first m)) (class_edge next class classes first)
    (classes-explored next count word class classes first searched firsts stable told) in
    cover-words (λ w. is_some (reads next 0 w) ≡ true) (IsWordOf c) classes (class_edge next class classes first) found
    (λ w.
    let same = read_numbers c count key next w numbered searched.some root in
    let law = read-words c w ranges in (
      (λ read. law.0 (same ∙ read)),
      (λ word. sym same ∙ law.1 word),
    ))
