-- Lists as the program reads and writes them.
use Rattle.std.proofs.Common.{◌≡◌, ℕ, ◌<◌, List, ◌++◌, take, drop, length, get_or, Bool, true, false, ap, sym, ◌∙◌, arith}
use Rattle.std.proofs.lemmas.List.{get_or_default, take-append-le, take_all}
use Rattle.least_walks.specs.declared.breadth_first.Found.{Found}
use Rattle.least_walks.specs.inside.Found.{nothing, node_at}

pub node_is : (found : List Found) (at : ℕ) (entry : Found) → at < length found → entry ≡ get_or found at entry → entry.node ≡ node_at found at
node_is found at entry below is = ap (λ (x : Found). x.node) (is ∙ get_or_default found at entry nothing below)

pub goal_is : (goals : List Bool) (n v : ℕ) (d : Bool) → n < length goals → n ≡ v → get_or goals n d ≡ true → get_or goals v false ≡ true
goal_is goals n v d below is holds = ap (λ v. get_or goals v false) (sym is) ∙ get_or_default goals n false d below ∙ holds

-- what is written through a slice of a whole list is the list
pub written_back : (n : ℕ) (new old : List Bool) → length new ≡ n → take n (new ++ drop (length new) old) ≡ new
written_back n new old is =
    take-append-le n new (drop (length new) old) (omega arith) ∙ take_all n new (omega arith)
