-- The place of a walk's label with unlike words, counted from the start and from the end.
use Rattle.std.proofs.Common.{◌≡◌, ℕ, zero, suc, ◌+◌, ◌<◌, ◌≤◌, List, [], ◌∷◌, length, get_or, Option, Some, None, Result, Ok, Err, IfOk, IfSome, IfNone, Vec, Global, refl, arith}
use Rattle.symbol_base.specs.Walk.{IsWalk}
use Rattle.least_walks.specs.Graph.{Graph}
use Rattle.least_walks.specs.UnlikeWalk.{HasUnlikeWords, IsUnlikeWalk, IsLeastUnlikeWalk}
use Rattle.least_walks.specs.inside.Layers.{IsUnlikeFromEnd, HasUnlikeWalk, IsLeastOfAll}

-- a walk that has come behind the place has no condition
short_walk :
    (g : Graph) (words ahead : ℕ) (labels : List ℕ) (v there : ℕ) → length labels ≤ ahead → IsWalk g.arc v labels there
    → IsUnlikeFromEnd g words ahead v labels
short_walk g words ahead [] v there short walk = tt
short_walk g words ahead (label ∷ labels) v there short walk =
    (walk.0, walk.1, (λ last. absurd (omega (arith, last, short))), short_walk g words ahead labels walk.0 there (omega (arith, short)) walk.2)

from_end :
    (g : Graph) (words ahead past : ℕ) (labels : List ℕ) (v there : ℕ) → length labels ≡ past + 1 + ahead
    → IsWalk g.arc v labels there → HasUnlikeWords words (get_or labels past 0) → IsUnlikeFromEnd g words ahead v labels
from_end g words ahead past [] v there count walk unlike = absurd (omega (arith, count))
from_end g words ahead zero (label ∷ labels) v there count walk unlike =
    (walk.0, walk.1, (λ last. unlike), short_walk g words ahead labels walk.0 there (omega (arith, count)) walk.2)
from_end g words ahead (suc past) (label ∷ labels) v there count walk unlike = (
  walk.0,
  walk.1,
  (λ last. absurd (omega (arith, last, count))),
  from_end g words ahead past labels walk.0 there (omega (arith, count)) walk.2 unlike,
)

walk_of :
    (g : Graph) (words ahead : ℕ) (labels : List ℕ) (v : ℕ) → IsUnlikeFromEnd g words ahead v labels
    → (there : ℕ) × IsWalk g.arc v labels there
walk_of g words ahead [] v walk = (v, refl)
walk_of g words ahead (label ∷ labels) v walk =
    let rest = walk_of g words ahead labels walk.0 walk.3 in (rest.0, (walk.0, walk.1, rest.1))

unlike_of :
    (g : Graph) (words ahead past : ℕ) (labels : List ℕ) (v : ℕ) → length labels ≡ past + 1 + ahead
    → IsUnlikeFromEnd g words ahead v labels → HasUnlikeWords words (get_or labels past 0)
unlike_of g words ahead past [] v count walk = absurd (omega (arith, count))
unlike_of g words ahead zero (label ∷ labels) v count walk = walk.2 (omega (arith, count))
unlike_of g words ahead (suc past) (label ∷ labels) v count walk =
    unlike_of g words ahead past labels walk.0 (omega (arith, count)) walk.3

pub has_walk :
    (g : Graph) (words past ahead v : ℕ) (labels : List ℕ) → IsUnlikeWalk g words past ahead v labels
    → HasUnlikeWalk g words ahead (past + 1 + ahead) v
has_walk g words past ahead v labels is =
    (labels, is.count, from_end g words ahead past labels v is.there is.count is.walk is.unlike)

-- the least by the place from the end is the least by the place from the start
pub least_of_all :
    (g : Graph) (words past ahead v : ℕ) (labels : List ℕ) → IsLeastOfAll g words ahead (past + 1 + ahead) v labels
    → IsLeastUnlikeWalk g words past ahead v labels
least_of_all g words past ahead v labels is =
    let walk = walk_of g words ahead labels v is.here.walk in
    record {
      inside = is.inside;
      walk =
          record {
            count = is.here.count;
            there = walk.0;
            walk = walk.1;
            unlike = unlike_of g words ahead past labels v is.here.count is.here.walk;
          };
      least =
          λ other walk.
          is.here.least other walk.count (from_end g words ahead past other v walk.there walk.count walk.walk walk.unlike);
      first = λ u other before walk. is.first u before (has_walk g words past ahead u other walk);
    }

-- the answers of the search by the place from the end, told by the place from the start
pub told_from_start :
    {E : Type 0} (g : Graph) (words past ahead : ℕ) (answer : Result (Option (ℕ × Vec ℕ Global)) E)
    → IfOk answer (λ o. IfSome o (λ found. IsLeastOfAll g words ahead (past + 1 + ahead) found.0 found.1.items))
    → IfOk answer (λ o. IfSome o (λ found. IsLeastUnlikeWalk g words past ahead found.0 found.1.items))
told_from_start g words past ahead (Ok (Some found)) is = least_of_all g words past ahead found.0 found.1.items is
told_from_start g words past ahead (Ok None) is = is
told_from_start g words past ahead (Err e) is = is

pub none_from_start :
    {E : Type 0} (g : Graph) (words past ahead : ℕ) (answer : Result (Option (ℕ × Vec ℕ Global)) E)
    → IfOk answer (λ o. IfNone o ((v : ℕ) → v < g.nodes → HasUnlikeWalk g words ahead (past + 1 + ahead) v → ⊥))
    → IfOk answer (λ o. IfNone o ((v : ℕ) (labels : List ℕ) → v < g.nodes → IsUnlikeWalk g words past ahead v labels → ⊥))
none_from_start g words past ahead (Ok (Some found)) none = none
none_from_start g words past ahead (Ok None) none =
    λ v labels inside walk. none v inside (has_walk g words past ahead v labels walk)
none_from_start g words past ahead (Err e) none = none
