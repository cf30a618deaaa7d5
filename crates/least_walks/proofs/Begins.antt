-- A search that has found its start alone.
use Rattle.std.proofs.Common.{◌≡◌, ℕ, zero, suc, ◌<◌, [], ◌∷◌, get_or, replicate, false, refl, ◌∙◌, subst, arith}
use Rattle.std.specs.List.{count_by}
use Rattle.std.proofs.lemmas.List.{length-replicate}
use Rattle.least_walks.specs.declared.breadth_first.Found.{Found}
use Rattle.symbol_base.specs.Walk.{IsWalk}
use Rattle.least_walks.specs.Graph.{Graph}
use Rattle.least_walks.specs.inside.Found.{Searched, node_at, walk_to}

no_mark : (n v : ℕ) → get_or (replicate n false) v false ≡ false
no_mark zero v = refl
no_mark (suc n) zero = refl
no_mark (suc n) (suc v) = no_mark n v

none_marked : (n : ℕ) → count_by (λ b. b) (replicate n false) ≡ 0
none_marked zero = refl
none_marked (suc n) = omega (arith, none_marked n)

pub begun :
    (g : Graph) (start n : ℕ) → start < g.nodes → n ≡ g.nodes
    → Searched g start (record { node = start; from = 0; label = 0 } ∷ []) (replicate n false) 0
begun g start n below is =
    let e : Found = record { node = start; from = 0; label = 0 } in
    record {
      walks = [] ∷ [];
      known =
          record {
            chain = record {
              first = refl;
              back = λ i pos less. absurd (omega (arith, pos, less));
              more = λ i pos less. absurd (omega (arith, pos, less));
            };
            count = refl;
            some = omega arith;
            sized = length-replicate n false ∙ is;
            counted = omega (arith, none_marked n);
            walk =
                λ i less.
                let first : 0 ≡ i = omega (arith, less) in
                subst (λ i. IsWalk g.arc start (walk_to ([] ∷ []) i) (node_at (e ∷ []) i)) first refl;
            inside =
                λ i less.
                let first : 0 ≡ i = omega (arith, less) in subst (λ i. node_at (e ∷ []) i < g.nodes) first below;
            early = λ i pos less. absurd (omega (arith, pos, less));
            order = λ i j before less. absurd (omega (arith, before, less));
            marked =
                λ v marked.
                let unmarked : get_or (replicate n false) v false ≡ false = no_mark n v in
                absurd (cc);
          };
      closed = λ i label v less arc. absurd (omega (arith, less));
    }
