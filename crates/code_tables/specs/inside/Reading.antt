-- Reading a code file line by line.
use Rattle.std.specs.Prelude.{ℕ, ◌+◌, ◌-◌, ◌*◌, ◌^◌, ◌==◌, ◌&&◌, Bool, true, nat_le, List, [], ◌∷◌, length, take, drop, map, Option, Some, None, Result, Ok, Err, codes, if◌then◌else◌}
use Rattle.std.specs.List.{prefix_len}
use Rattle.symbol_base.specs.Word.{comes_before}
use Rattle.constraint_spec.specs.declared.GraphEdge.{GraphEdge}
use Rattle.constraint_spec.specs.Ranges.{edge_before}
use Rattle.code_spec.specs.declared.CodeRow.{CodeRow}
use Rattle.code_spec.specs.Code.{CodeData}
use Rattle.text_reading.specs.Reading as option
use Rattle.text_reading.specs.Reading.{after_text, field_at, block_at, behind, both, is_symbol_digit}
use Rattle.text_reading.specs.LineReader.{◌>>=◌, LineReader, one_line, below_line, both_lines, parts_from}

-- ---- single lines

-- what a dash and a line feed leave, or else a number from d to 100
abbrev pub dash_or_number : ℕ → List ℕ → Option (List ℕ) → Option (Option ℕ × List ℕ)
dash_or_number d bytes (Some rest) = Some (None, rest)
dash_or_number d bytes None = option.◌>>=◌ (field_at 10 d 100 bytes) (λ k. Some (Some k.0, k.1))

unfoldable pub limit_at : ℕ → List ℕ → Option (Option ℕ × List ℕ)
limit_at d bytes = dash_or_number d bytes (after_text (45 ∷ 10 ∷ []) bytes)

unfoldable pub d_at : List ℕ → Option (ℕ × List ℕ)
d_at = behind (codes "d ") (field_at 10 0 100)

unfoldable pub k_at : ℕ → List ℕ → Option (Option ℕ × List ℕ)
k_at d = behind (codes "k ") (limit_at d)

unfoldable pub forbid_at : List ℕ → Option (ℕ × List ℕ)
forbid_at = behind (codes "forbid ") (field_at 10 0 128)

unfoldable pub rate_at : List ℕ → Option ((ℕ × ℕ) × List ℕ)
rate_at = behind (codes "rate ") (both (field_at 32 1 8) (λ p. field_at 10 p 20))

unfoldable pub window_at : List ℕ → Option ((ℕ × ℕ) × List ℕ)
window_at = behind (codes "window ") (both (field_at 32 0 256) (λ past. field_at 10 0 511))

unfoldable pub states_at : List ℕ → Option (ℕ × List ℕ)
states_at = behind (codes "states ") (field_at 10 1 512)

-- a row of a state for a data word: the block's number and the target
unfoldable pub row_numbers_at : ℕ → ℕ → ℕ → ℕ → List ℕ → Option ((ℕ × (ℕ × (ℕ × ℕ))) × List ℕ)
row_numbers_at q states state word =
    both (field_at 32 state state) (λ s. both (field_at 32 word word) (λ w. both (block_at 2 q) (λ block. behind (32 ∷ []) (field_at 10 0 (states - 1)))))

-- the row that such numbers stand for
abbrev pub row_from : ℕ × (ℕ × (ℕ × ℕ)) → CodeRow
row_from x = record { block = record { value = x.1.1.0 }; to = x.1.1.1 }

unfoldable pub code_row_at : ℕ → ℕ → ℕ → ℕ → List ℕ → Option (CodeRow × List ℕ)
code_row_at q states state word bytes = option.◌>>=◌ (row_numbers_at q states state word bytes) (λ x. Some (row_from x.0, x.1))

abbrev pub follows : Option (List ℕ) → List ℕ → Bool
follows None w = true
follows (Some before) w = comes_before before w

-- how many digits 0 and 1 stand in front
abbrev pub digit_count : List ℕ → ℕ
digit_count bytes = prefix_len (is_symbol_digit 2) bytes

-- a word of 1 to 32 digits
unfoldable pub digits_at : List ℕ → Option (List ℕ × List ℕ)
digits_at bytes = option.◌>>=◌ (after_text (10 ∷ []) (drop (digit_count bytes) bytes)) (λ rest.
    if nat_le 1 (digit_count bytes) && nat_le (digit_count bytes) 32 then Some (map (λ byte. byte - 48) (take (digit_count bytes) bytes), rest) else None)

-- a word that comes behind the one before
unfoldable pub forbidden_at : Option (List ℕ) → List ℕ → Option (List ℕ × List ℕ)
forbidden_at before bytes = option.◌>>=◌ (digits_at bytes) (λ x. if follows before x.0 then Some x else None)

-- the states and the number of edges: both 0, or neither
abbrev pub least_edges : ℕ → ℕ
least_edges states = if states == 0 then 0 else 1

abbrev pub most_edges : ℕ → ℕ
most_edges states = if states == 0 then 0 else 2048

unfoldable pub graph_at : List ℕ → Option ((ℕ × ℕ) × List ℕ)
graph_at = behind (codes "graph ") (both (field_at 32 0 256) (λ states. field_at 10 (least_edges states) (most_edges states)))

abbrev pub edge_follows : Option GraphEdge → GraphEdge → Bool
edge_follows None e = true
edge_follows (Some before) e = edge_before before e

unfoldable pub edge_fields_at : ℕ → List ℕ → Option ((ℕ × (ℕ × ℕ)) × List ℕ)
edge_fields_at states = both (field_at 32 0 (states - 1)) (λ from. both (field_at 32 0 1) (λ label. field_at 10 0 (states - 1)))

abbrev pub edge_from : ℕ × (ℕ × ℕ) → GraphEdge
edge_from x = record { from = x.0; label = x.1.0; to = x.1.1 }

-- an edge that comes behind the one before
unfoldable pub edge_at : ℕ → Option GraphEdge → List ℕ → Option (GraphEdge × List ℕ)
edge_at states before bytes = option.◌>>=◌ (edge_fields_at states bytes) (λ x. if edge_follows before (edge_from x.0) then Some (edge_from x.0, x.1) else None)

-- ---- lines

-- the forbidden words
unfoldable pub forbidden_words_at : ℕ → LineReader (List (List ℕ))
forbidden_words_at count = parts_from (λ before. one_line (forbidden_at before)) (λ before word. Some word) 1 count None

-- the edges of the graph
unfoldable pub edges_at : ℕ → ℕ → LineReader (List GraphEdge)
edges_at states count = parts_from (λ before. one_line (edge_at states before)) (λ before edge. Some edge) 1 count None

-- the lines up to the number of forbidden words
unfoldable pub head_at : LineReader (ℕ × (Option ℕ × ℕ))
head_at = below_line (codes "modcode 1") (below_line (codes "alphabet 2")
    (both_lines (one_line d_at) 1 (λ d. both_lines (one_line (k_at d)) 1 (λ k. one_line forbid_at))))

-- rate, window and states
unfoldable pub sizes_at : LineReader ((ℕ × ℕ) × ((ℕ × ℕ) × ℕ))
sizes_at = both_lines (one_line rate_at) 1 (λ rate. both_lines (one_line window_at) 1 (λ window. one_line states_at))

-- the rows of a state
unfoldable pub state_at : ℕ → ℕ → ℕ → ℕ → LineReader (List CodeRow)
state_at p q states state = parts_from (λ word. one_line (code_row_at q states state word)) (λ word row. word + 1) 1 (2 ^ p) 0

-- the rows of all states
unfoldable pub table_at : ℕ → ℕ → ℕ → LineReader (List (List CodeRow))
table_at p q states = parts_from (state_at p q states) (λ state rows. state + 1) (2 ^ p) states 0

abbrev pub Parts : Type 0
Parts = (ℕ × (Option ℕ × ℕ)) × (List (List ℕ) × ((ℕ × ℕ) × (List GraphEdge × (((ℕ × ℕ) × ((ℕ × ℕ) × ℕ)) × List (List CodeRow)))))

-- all lines
unfoldable pub parts_at : LineReader Parts
parts_at = both_lines head_at 5 (λ head. both_lines (forbidden_words_at head.1.1) head.1.1 (λ words.
    both_lines (one_line graph_at) 1 (λ graph. both_lines (edges_at graph.0 graph.1) graph.1 (λ edges.
    both_lines sizes_at 3 (λ sizes. table_at sizes.0.0 sizes.0.1 sizes.1.1)))))

-- the code that the parts make
abbrev pub code_of : Parts → CodeData
code_of x = record {
  constraint = record { alphabet = 2; d = x.0.0; k = x.0.1.0; forbid = x.1.0; states = x.1.1.0.0; edges = x.1.1.1.0 };
  p = x.1.1.1.1.0.0.0;
  q = x.1.1.1.1.0.0.1;
  past = x.1.1.1.1.0.1.0.0;
  ahead = x.1.1.1.1.0.1.0.1;
  rows = x.1.1.1.1.1;
}

-- the number of the line behind those of the parts
abbrev pub line_behind : Parts → ℕ
line_behind x = 10 + x.0.1.1 + x.1.1.0.1 + x.1.1.1.1.0.1.1 * 2 ^ x.1.1.1.1.0.0.0

-- the code that all of the bytes spell, or the number of the first wrong line
unfoldable pub code_at : List ℕ → Result CodeData ℕ
code_at bytes = do
  x ← parts_at 1 bytes
  if length x.1 == 0 then Ok (code_of x.0) else Err (line_behind x.0)
