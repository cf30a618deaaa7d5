-- The rule of each line of a code file, where the lines before it are known to keep theirs.
use Rattle.std.specs.Prelude.{◌≡◌, ℕ, zero, suc, ◌+◌, ◌<◌, ◌≤◌, ◌^◌, ◌⊎◌, List, Option, Some, None, IfSome, codes}
use Rattle.std.specs.Fmt.{decimal}
use Rattle.symbol_base.specs.Word.{IsBefore}
use Rattle.constraint_spec.specs.declared.GraphEdge.{GraphEdge}
use Rattle.constraint_spec.specs.Ranges.{IsForbiddable, IsEdgeBefore}
use Rattle.code_spec.specs.declared.CodeRow.{CodeRow}
use Rattle.code_spec.specs.Code.{code_alphabet}
use Rattle.text_reading.specs.Lines.{IsFirstWrong}
use Rattle.code_text_spec.specs.CodeText.{spaced, digits, limit, edge_line, row_line}

-- The line that comes next, with what its rule and those behind it have to know of earlier lines.
pub data Place : Type 0 where
  at_version : Place
  at_alphabet : Place
  at_d : Place
  at_k : (d : ℕ) → Place
  at_forbid : Place
  -- so many forbidden words and then the graph, behind this word
  at_words : (left : ℕ) (before : Option (List ℕ)) → Place
  -- so many edges and then the rate, behind this edge
  at_edges : (states left : ℕ) (before : Option GraphEdge) → Place
  at_window : (p q : ℕ) → Place
  at_states : (p q : ℕ) → Place
  -- the row of this state for this data word
  at_row : (p q states state word : ℕ) → Place

-- both 0, or both in their ranges
abbrev pub IsGraphSize : ℕ → ℕ → Type 0
IsGraphSize states edges = ((states ≡ 0) × (edges ≡ 0)) ⊎ ((1 ≤ states) × (states ≤ 256) × (1 ≤ edges) × (edges ≤ 2048))

-- At a place a line keeps its rule, and the text goes on at another place.
pub data Keeps : Place → List ℕ → Place → Type 0 where
  keeps_version : Keeps at_version (codes "modcode 1") at_alphabet
  keeps_alphabet : Keeps at_alphabet (codes "alphabet 2") at_d
  keeps_d : (d : ℕ) → d ≤ 100 → Keeps at_d (spaced (codes "d") (decimal d)) (at_k d)
  keeps_k : (d : ℕ) (k : Option ℕ) → IfSome k (λ k. (d ≤ k) × (k ≤ 100))
      → Keeps (at_k d) (spaced (codes "k") (limit k)) at_forbid
  keeps_forbid : (count : ℕ) → count ≤ 128
      → Keeps at_forbid (spaced (codes "forbid") (decimal count)) (at_words count None)
  keeps_word : (left : ℕ) (before : Option (List ℕ)) (w : List ℕ) → IsForbiddable code_alphabet w → IfSome before (λ b. IsBefore b w)
      → Keeps (at_words (suc left) before) (digits w) (at_words left (Some w))
  keeps_graph : (before : Option (List ℕ)) (states edges : ℕ) → IsGraphSize states edges
      → Keeps (at_words zero before) (spaced (codes "graph") (spaced (decimal states) (decimal edges))) (at_edges states edges None)
  keeps_edge : (states left : ℕ) (before : Option GraphEdge) (e : GraphEdge)
      → e.from < states → e.label < code_alphabet → e.to < states → IfSome before (λ b. IsEdgeBefore b e)
      → Keeps (at_edges states (suc left) before) (edge_line e) (at_edges states left (Some e))
  keeps_rate : (states : ℕ) (before : Option GraphEdge) (p q : ℕ) → 1 ≤ p → p ≤ 8 → p ≤ q → q ≤ 20
      → Keeps (at_edges states zero before) (spaced (codes "rate") (spaced (decimal p) (decimal q))) (at_window p q)
  keeps_window : (p q past ahead : ℕ) → past ≤ 256 → ahead ≤ 511
      → Keeps (at_window p q) (spaced (codes "window") (spaced (decimal past) (decimal ahead))) (at_states p q)
  keeps_states : (p q count : ℕ) → 1 ≤ count → count ≤ 512
      → Keeps (at_states p q) (spaced (codes "states") (decimal count)) (at_row p q count 0 0)
  keeps_row : (p q states state word : ℕ) (r : CodeRow) → state < states → word + 1 < 2 ^ p → r.block.value < code_alphabet ^ q → r.to < states
      → Keeps (at_row p q states state word) (row_line code_alphabet q state word r) (at_row p q states state (word + 1))
  keeps_last_row : (p q states state word : ℕ) (r : CodeRow) → state < states → word + 1 ≡ 2 ^ p → r.block.value < code_alphabet ^ q → r.to < states
      → Keeps (at_row p q states state word) (row_line code_alphabet q state word r) (at_row p q states (state + 1) 0)

-- the text is whole: the row behind the last one comes next
pub data IsEnd : Place → Type 0 where
  behind_last_row : (p q states : ℕ) → IsEnd (at_row p q states states 0)

-- Line n, from 1, is the first line of the bytes that breaks its rule. A line without its line feed is none; where
-- the text ends too early, the line is the first that is missing, and where it goes on behind the last row, the next.
abbrev pub IsWrongLine : List ℕ → ℕ → Type 0
IsWrongLine bytes n = IsFirstWrong Keeps IsEnd at_version 1 bytes n
