-- All lines of a code file are read exactly where their rules are kept.
use Rattle.std.proofs.Common.{◌≡◌, ℕ, zero, suc, ◌+◌, ◌≤◌, List, [], ◌∷◌, ◌++◌, length, Option, Some, None, refl, ap, ◌∙◌, arith}
use Rattle.std.specs.Prelude.{codes}
use Rattle.constraint_spec.specs.declared.GraphEdge.{GraphEdge}
use Rattle.code_spec.specs.declared.CodeRow.{CodeRow}
use Rattle.code_text_spec.specs.CodeText.{digits, edge_line}
use Rattle.code_text_spec.specs.LineRules.{Place, at_version, at_words, at_edges, at_row, Keeps, IsEnd}
use Rattle.text_reading.specs.LineReader.{one_line, both_lines, ReadsLines, lines_along, after_all}
use Rattle.text_reading.proofs.LineReaders.{both_lines_read}
use Rattle.code_tables.specs.inside.Reading.{head_at, forbidden_words_at, graph_at, edges_at, sizes_at, table_at, Parts, parts_at, most_edges}
use Rattle.code_tables.proofs.LineKinds.{head_lines, IsHead, head_reads}
use Rattle.code_tables.proofs.WordLines.{words_lines, AreWords, words_read}
use Rattle.code_tables.proofs.GraphLines.{IsGraph, graph_line_reads, edges_lines, AreEdges, edges_read, Stated}
use Rattle.code_tables.proofs.TableLines.{two_numbers, Sizes, AreSizes, sizes_lines, sizes_read, table_rows, IsTable, table_reads}

-- one line for each item
pub length-lines_along : {S A : Type 0} (line : S → A → List ℕ) (after : S → A → S) (s : S) (items : List A) → length (lines_along (λ s x. line s x ∷ []) after s items) ≡ length items
length-lines_along line after s [] = refl
length-lines_along line after s (x ∷ items) = ap suc (length-lines_along line after (after s x) items)

stated : (graph : ℕ × ℕ) → IsGraph graph → Stated graph.0 graph.1
stated graph is = by graph.0 is.1.1 where
  by : (states : ℕ) → graph.1 ≤ most_edges states → 1 ≤ graph.1 → 1 ≤ states
  by zero few some = absurd (omega (arith, few, some))
  by (suc states) few some = omega arith

abbrev pub AreSizesAndTable : Sizes × List (List CodeRow) → Type 0
AreSizesAndTable x = AreSizes x.0 × IsTable x.0.0.0 x.0.0.1 x.0.1.1 x.1

abbrev pub ends : Sizes × List (List CodeRow) → Place
ends x = at_row x.0.0.0 x.0.0.1 x.0.1.1 (after_all (λ state rows. state + 1) 0 x.1) 0

abbrev pub table_lines_of : Sizes × List (List CodeRow) → List (List ℕ)
table_lines_of x = sizes_lines x.0 ++ table_rows x.0.0.1 x.1

back_reads : (states : ℕ) (before : Option GraphEdge) → ReadsLines Keeps IsEnd (both_lines sizes_at 3 (λ sizes. table_at sizes.0.0 sizes.0.1 sizes.1.1)) table_lines_of AreSizesAndTable (at_edges states zero before) ends
back_reads states before =
    both_lines_read Keeps IsEnd sizes_at 3 (λ sizes. table_at sizes.0.0 sizes.0.1 sizes.1.1) sizes_lines (λ sizes rows. table_rows sizes.0.1 rows) AreSizes (λ sizes rows. IsTable sizes.0.0 sizes.0.1 sizes.1.1 rows)
    (at_edges states zero before) (λ sizes. at_row sizes.0.0 sizes.0.1 sizes.1.1 0 0) (λ sizes rows. ends (sizes, rows)) (sizes_read states before) (λ sizes is. refl)
    (λ sizes is. table_reads sizes.0.0 sizes.0.1 sizes.1.1 is.0.0.1 is.1.1.1)

abbrev pub Graph : Type 0
Graph = (ℕ × ℕ) × (List GraphEdge × (Sizes × List (List CodeRow)))

abbrev pub IsGraphAndTable : Graph → Type 0
IsGraphAndTable x = IsGraph x.0 × (AreEdges x.0.0 x.0.1 x.1.0 × AreSizesAndTable x.1.1)

abbrev pub graph_lines_of : Graph → List (List ℕ)
graph_lines_of x = (two_numbers (codes "graph") x.0 ∷ []) ++ (edges_lines x.1.0 ++ table_lines_of x.1.1)

graph_reads : (before : Option (List ℕ)) → ReadsLines Keeps IsEnd
    (both_lines (one_line graph_at) 1 (λ graph. both_lines (edges_at graph.0 graph.1) graph.1 (λ edges. both_lines sizes_at 3 (λ sizes. table_at sizes.0.0 sizes.0.1 sizes.1.1))))
    graph_lines_of IsGraphAndTable (at_words zero before) (λ x. ends x.1.1)
graph_reads before =
    both_lines_read Keeps IsEnd (one_line graph_at) 1 (λ graph. both_lines (edges_at graph.0 graph.1) graph.1 (λ edges. both_lines sizes_at 3 (λ sizes. table_at sizes.0.0 sizes.0.1 sizes.1.1)))
    (λ graph. two_numbers (codes "graph") graph ∷ []) (λ graph x. edges_lines x.0 ++ table_lines_of x.1) IsGraph (λ graph x. AreEdges graph.0 graph.1 x.0 × AreSizesAndTable x.1)
    (at_words zero before) (λ graph. at_edges graph.0 graph.1 None) (λ graph x. ends x.1) (graph_line_reads before) (λ graph is. refl) (λ graph is.
    both_lines_read Keeps IsEnd (edges_at graph.0 graph.1) graph.1 (λ edges. both_lines sizes_at 3 (λ sizes. table_at sizes.0.0 sizes.0.1 sizes.1.1))
    edges_lines (λ edges x. table_lines_of x) (AreEdges graph.0 graph.1) (λ edges x. AreSizesAndTable x)
    (at_edges graph.0 graph.1 None) (λ edges. at_edges graph.0 0 (after_all (λ before e. Some e) None edges)) (λ edges x. ends x) (edges_read graph.0 graph.1 is.0.1 (stated graph is))
    (λ edges are. length-lines_along (λ before e. edge_line e) (λ before e. Some e) None edges ∙ are.0)
    (λ edges are. back_reads graph.0 (after_all (λ before e. Some e) None edges)))

abbrev pub AreParts : Parts → Type 0
AreParts x = IsHead x.0 × (AreWords x.0.1.1 x.1.0 × IsGraphAndTable x.1.1)

abbrev pub parts_lines : Parts → List (List ℕ)
parts_lines x = head_lines x.0 ++ (words_lines x.1.0 ++ graph_lines_of x.1.1)

pub parts_are_read : ReadsLines Keeps IsEnd parts_at parts_lines AreParts at_version (λ x. ends x.1.1.1.1)
unfolding parts_at
parts_are_read =
    both_lines_read Keeps IsEnd head_at 5 (λ head. both_lines (forbidden_words_at head.1.1) head.1.1 (λ words. both_lines (one_line graph_at) 1 (λ graph. both_lines (edges_at graph.0 graph.1) graph.1 (λ edges. both_lines sizes_at 3 (λ sizes. table_at sizes.0.0 sizes.0.1 sizes.1.1)))))
    head_lines (λ head x. words_lines x.0 ++ graph_lines_of x.1) IsHead (λ head x. AreWords head.1.1 x.0 × IsGraphAndTable x.1)
    at_version (λ head. at_words head.1.1 None) (λ head x. ends x.1.1.1) head_reads (λ head is. refl) (λ head is.
    both_lines_read Keeps IsEnd (forbidden_words_at head.1.1) head.1.1 (λ words. both_lines (one_line graph_at) 1 (λ graph. both_lines (edges_at graph.0 graph.1) graph.1 (λ edges. both_lines sizes_at 3 (λ sizes. table_at sizes.0.0 sizes.0.1 sizes.1.1))))
    words_lines (λ words x. graph_lines_of x) (AreWords head.1.1) (λ words x. IsGraphAndTable x)
    (at_words head.1.1 None) (λ words. at_words 0 (after_all (λ before w. Some w) None words)) (λ words x. ends x.1.1) (words_read head.1.1)
    (λ words are. length-lines_along (λ before w. digits w) (λ before w. Some w) None words ∙ are.0)
    (λ words are. graph_reads (after_all (λ before w. Some w) None words)))
