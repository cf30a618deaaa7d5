-- The parts that were read one after the other make a code.
use Rattle.std.proofs.Common.{◌≡◌, ℕ, ◌+◌, List, Some, Result, Ok, Err, refl}
use Rattle.constraint_spec.specs.declared.GraphEdge.{GraphEdge}
use Rattle.code_spec.specs.declared.CodeRow.{CodeRow}
use Rattle.code_spec.specs.Code.{CodeData, IsCode}
use Rattle.code_tables.specs.declared.fault.CodeTextFault.{CodeTextFault}
use Rattle.code_tables.specs.declared.fault.CodeTextFault.TheVariants.{BadCode, NoMemory}
use Rattle.text_reading.specs.LineReader.{both_lines, one_line}
use Rattle.code_tables.specs.inside.Reading.{head_at, forbidden_words_at, graph_at, edges_at, sizes_at, table_at, parts_at, code_of, code_at}
use Rattle.code_tables.specs.ReadCode.{ReadsCode}
use Rattle.code_tables.specs.inside.ReadLines.{RefusesLine, GivesLines}
use Rattle.code_tables.proofs.LineKinds.{Head}
use Rattle.code_tables.proofs.TableLines.{Sizes}
use Rattle.code_tables.proofs.Whole.{parts_are_read}
use Rattle.code_tables.proofs.CodeLaws.{code_from_parts, code_takes, code_wrong}

pub parts_make_code : (bytes : List ℕ) (head : Head) (words : List (List ℕ)) (graph : ℕ × ℕ) (edges : List GraphEdge) (sizes : Sizes) (rows : List (List CodeRow)) (r1 r2 r3 r4 r5 r6 : List ℕ)
    → head_at 1 bytes ≡ Ok (head, r1) → forbidden_words_at head.1.1 6 r1 ≡ Ok (words, r2) → graph_at r2 ≡ Some (graph, r3) → edges_at graph.0 graph.1 (6 + head.1.1 + 1) r3 ≡ Ok (edges, r4)
    → sizes_at (6 + head.1.1 + 1 + graph.1) r4 ≡ Ok (sizes, r5) → table_at sizes.0.0 sizes.0.1 sizes.1.1 (6 + head.1.1 + 1 + graph.1 + 3) r5 ≡ Ok (rows, r6)
    → IsCode (code_of (head, (words, (graph, (edges, (sizes, rows))))))
unfolding parts_at both_lines one_line
parts_make_code bytes head words graph edges sizes rows r1 r2 r3 r4 r5 r6 e1 e2 e3 e4 e5 e6 =
    let read : parts_at 1 bytes ≡ Ok ((head, (words, (graph, (edges, (sizes, rows))))), r6) = rw (e1, e2, e3, e4, e5, e6) refl in
    code_from_parts (head, (words, (graph, (edges, (sizes, rows))))) (parts_are_read.takes 1 bytes (head, (words, (graph, (edges, (sizes, rows))))) r6 read).1

refuses_code : (bytes : List ℕ) (fault : CodeTextFault) → RefusesLine fault (code_at bytes) → ReadsCode bytes (Err fault)
refuses_code bytes (BadCode n) h = code_wrong bytes n h
refuses_code bytes NoMemory h = tt

-- what reading gives is the code of the bytes, or their first wrong line
pub reads_code : (bytes : List ℕ) (result : Result CodeData CodeTextFault) → GivesLines (λ code. code) result (code_at bytes) → ReadsCode bytes result
reads_code bytes (Ok code) h = code_takes bytes code h
reads_code bytes (Err fault) h = refuses_code bytes fault h
