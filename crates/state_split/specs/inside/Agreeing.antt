-- The first sums of weights that agree modulo n.
use Rattle.std.specs.Prelude.{◌≡◌, ℕ, ◌<◌, ◌≤◌, ◌%◌, List, length, take, Option, Some, None, slice_index_or}
use Rattle.label_graphs.specs.Graph.{EdgeData}
use Rattle.split_spec.specs.Run.{AgreeAt, weight_of}

-- the sums of the first edges up to these two places agree, and no two sums do so that end earlier
pub record IsFirstAgreeing (n : ℕ) (x : List ℕ) (edges : List EdgeData) (from to : ℕ) : Type 0 where
  pub order : from < to
  pub early : to ≤ n
  pub inside : to ≤ length edges
  pub agree : AgreeAt n x edges from to
  pub first : (i j : ℕ) → i < j → j < to → AgreeAt n x edges i j → ⊥

-- no two sums of the first n edges agree
abbrev pub NoneAgree : ℕ → List ℕ → List EdgeData → Type 0
NoneAgree n x edges = (i j : ℕ) → i < j → j ≤ n → j ≤ length edges → AgreeAt n x edges i j → ⊥

-- the weight of the first edges, modulo n
abbrev pub residue_of : ℕ → List ℕ → List EdgeData → ℕ → ℕ
residue_of n x edges count = weight_of x (take count edges) % n

-- for each residue the number of first edges that have it, up to a count: no two have the same
pub record HasSeen (n : ℕ) (x : List ℕ) (edges : List EdgeData) (count : ℕ) (seen : List (Option ℕ)) : Type 0 where
  pub size : length seen ≡ 256
  pub listed : (i : ℕ) → i ≤ count → slice_index_or seen (residue_of n x edges i) None ≡ Some i
  pub told : (residue i : ℕ) → slice_index_or seen residue None ≡ Some i → (i ≤ count) × (residue_of n x edges i ≡ residue)
