-- What the search of a code's states beside a cover's answers, told of the code.
use Rattle.std.proofs.Common.{◌≡◌, ℕ, List, ◌∷◌, length, Bool, sym, subst}
use Rattle.symbol_base.specs.Walk.{IsWalk}
use Rattle.constraint_spec.specs.Constraint.{IsWordOf}
use Rattle.label_graphs.specs.Graph.{EdgeData}
use Rattle.label_graphs.specs.Cover.{IsCoverOf}
use Rattle.code_spec.specs.Code.{CodeData, IsCode, IsDataWords}
use Rattle.code_spec.specs.Checked.{WritesWord}
use Rattle.code_spec.specs.Witness.{IsLeastOutside}
use Rattle.least_walks.specs.Graph.{Graph}
use Rattle.least_walks.specs.LeastWalk.{IsGoal, IsLeastWalk}
use Rattle.code_check.specs.inside.ReadGraph.{AreOutside}
use Rattle.code_check.specs.inside.Reads.{ReadData, graph_of}
use Rattle.code_check.proofs.CoverReading.{cover_reads}
use Rattle.code_check.proofs.ReadLaws.{least_outside, none_outside}

-- no walk by at least one label leads from the first node to a goal
abbrev pub NoneToGoal : Graph → List Bool → Type 0
NoneToGoal g goals = (word : ℕ) (others : List ℕ) (there : ℕ) → IsWalk g.arc 0 (word ∷ others) there → IsGoal goals there → ⊥

pub least_told :
    (c : CodeData) (rows : List (List EdgeData)) (reads : ReadData) (goals : List Bool) (words : List ℕ) → IsCode c
    → IsCoverOf (IsWordOf c.constraint) rows → reads.code ≡ c → reads.cover ≡ rows
    → AreOutside reads.code (length reads.cover) goals → IsLeastWalk (graph_of reads) goals 0 words → IsLeastOutside c words
least_told c rows reads goals words code cover code_is cover_is outside is =
    let told : (d : CodeData) (rows : List (List EdgeData)) → IsCode d → IsCoverOf (IsWordOf d.constraint) rows
    → AreOutside d (length rows) goals → IsLeastWalk (graph_of (record { code = d; cover = rows })) goals 0 words → IsLeastOutside d words =
    λ d rows code cover outside is. least_outside d (length rows) _ goals words code (cover_reads d.constraint rows cover) outside is in
    subst (λ d. IsLeastOutside d words) code_is
    (told reads.code reads.cover (subst IsCode (sym code_is) code)
    (subst (λ r. IsCoverOf (IsWordOf reads.code.constraint) r) (sym cover_is)
    (subst (λ (d : CodeData). IsCoverOf (IsWordOf d.constraint) rows) (sym code_is) cover))
    outside is)

pub none_told :
    (c : CodeData) (rows : List (List EdgeData)) (reads : ReadData) (goals : List Bool) → IsCode c
    → IsCoverOf (IsWordOf c.constraint) rows → reads.code ≡ c → reads.cover ≡ rows
    → AreOutside reads.code (length reads.cover) goals
    → NoneToGoal (graph_of reads) goals
    → (words : List ℕ) → IsDataWords c words → WritesWord c words
none_told c rows reads goals code cover code_is cover_is outside none =
    let told : (d : CodeData) (rows : List (List EdgeData)) → IsCode d → IsCoverOf (IsWordOf d.constraint) rows
    → AreOutside d (length rows) goals
    → NoneToGoal (graph_of (record { code = d; cover = rows })) goals
    → (words : List ℕ) → IsDataWords d words → WritesWord d words =
    λ d rows code cover outside none. none_outside d (length rows) _ goals code (cover_reads d.constraint rows cover) outside none in
    subst (λ d. (words : List ℕ) → IsDataWords d words → WritesWord d words) code_is
    (told reads.code reads.cover (subst IsCode (sym code_is) code)
    (subst (λ r. IsCoverOf (IsWordOf reads.code.constraint) r) (sym cover_is)
    (subst (λ (d : CodeData). IsCoverOf (IsWordOf d.constraint) rows) (sym code_is) cover))
    outside none)
