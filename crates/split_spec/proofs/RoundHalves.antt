-- A run and the other edges of its row.
use Rattle.std.proofs.Common.{◌≡◌, ℕ, ◌+◌, ◌⊎◌, inl, inr, List, ◌++◌, get_or, arith}
use Rattle.std.specs.Prelude.{Contains}
use Rattle.std.specs.List.{sum_by}
use Rattle.std.proofs.lemmas.List.Elements.{Contains-append_left, Contains-append_right, Contains-append_cases}
use Rattle.std.proofs.lemmas.List.Sums.{sum_by-append, sum-map}
use Rattle.symbol_base.specs.Ascending.{IsAscending}
use Rattle.label_graphs.specs.Graph.{EdgeData, IsEdgeBefore}
use Rattle.split_spec.specs.Run.{IsLighter, IsLightestFirst, weight_of}
use Rattle.split_spec.proofs.OrderedRows.{edge_strict, lighter_strict}
use Rattle.split_spec.proofs.RoundLists.{NoneTwice, once_left, once_right, once_apart, once_joined, once_ascending, same_sums}

-- a row has no edge twice
pub row_once : (row : List EdgeData) → IsAscending IsEdgeBefore row → NoneTwice row
row_once row order = once_ascending IsEdgeBefore edge_strict row order

-- Each edge of the row is one of the run or one of the others and never both, none comes twice, and the weights add up.
pub record AreHalves (x : List ℕ) (row run others : List EdgeData) : Type 0 where
  pub either : (e : EdgeData) → Contains row e → Contains run e ⊎ Contains others e
  pub of_run : (e : EdgeData) → Contains run e → Contains row e
  pub of_others : (e : EdgeData) → Contains others e → Contains row e
  pub apart : (e : EdgeData) → Contains run e → Contains others e → ⊥
  pub run_once : NoneTwice run
  pub others_once : NoneTwice others
  pub weight : weight_of x run + weight_of x others ≡ weight_of x row

-- the weights add up if those of the row and of the ordered edges do
halves_weigh : (x : List ℕ) (row before run behind : List EdgeData)
    → sum_by (λ e. get_or x e.to 0) row ≡ sum_by (λ e. get_or x e.to 0) (before ++ (run ++ behind))
    → weight_of x run + weight_of x (before ++ behind) ≡ weight_of x row
halves_weigh x row before run behind same =
    let W : EdgeData → ℕ = λ e. get_or x e.to 0 in
    let all = sum_by-append W before (run ++ behind) in
    let rest = sum_by-append W run behind in
    let others = sum_by-append W before behind in
    omega (arith, same, all, rest, others, sum-map W row, sum-map W run, sum-map W (before ++ behind))

-- edges that stand before and behind a run are the others of its row
pub halves : (x : List ℕ) (row before run behind : List EdgeData) → IsAscending IsEdgeBefore row → IsLightestFirst x row (before ++ (run ++ behind))
    → AreHalves x row run (before ++ behind)
halves x row before run behind order lightest =
    let all = before ++ (run ++ behind) in
    let once = once_ascending (IsLighter x) (lighter_strict x) all lightest.order in
    let back = once_right before (run ++ behind) once in
    record {
      either = λ e found. elim (Contains-append_cases before (run ++ behind) e ((lightest.same e).1 found)) [
        | inl front ↦ inr (Contains-append_left before behind e front)
        | inr rest ↦ elim (Contains-append_cases run behind e rest) [
          | inl here ↦ inl here
          | inr there ↦ inr (Contains-append_right before behind e there)
        ]
      ];
      of_run = λ e found. (lightest.same e).0 (Contains-append_right before (run ++ behind) e (Contains-append_left run behind e found));
      of_others = λ e found. (lightest.same e).0 (elim (Contains-append_cases before behind e found) [
        | inl front ↦ Contains-append_left before (run ++ behind) e front
        | inr there ↦ Contains-append_right before (run ++ behind) e (Contains-append_right run behind e there)
      ]);
      apart = λ e here found. elim (Contains-append_cases before behind e found) [
        | inl front ↦ once_apart before (run ++ behind) once e front (Contains-append_left run behind e here)
        | inr there ↦ once_apart run behind back e here there
      ];
      run_once = once_left run behind back;
      others_once = once_joined before behind (once_left before (run ++ behind) once) (once_right run behind back)
          (λ e front there. once_apart before (run ++ behind) once e front (Contains-append_right run behind e there));
      weight = halves_weigh x row before run behind
          (same_sums (λ (e : EdgeData). get_or x e.to 0) row all (row_once row order) once (λ e. (lightest.same e).1) (λ e. (lightest.same e).0));
    }
