-- How many documents the searches of the generated script find, and the summary that says it.
use Rattle.std.specs.Prelude.{ℕ, ◌+◌, List, [], ◌∷◌, ◌++◌, map, length, codes, if◌then◌else◌}
use Rattle.std.specs.List.{flat_map}
use Rattle.std.specs.Fmt.{decimal}
use Rattle.nrt_base.specs.declared.doc.Doc.{Doc}
use Rattle.nrt_base.specs.declared.numbers.At.{At}
use Rattle.documents.specs.declared.operation.Op.{Op}
use Rattle.documents.specs.declared.operation.Op.TheVariants.{Put as PutOp, Delete as DeleteOp, Drop as DropOp}
use Rattle.documents.specs.Documents.{documents_after}
use Rattle.documents.specs.Ranking.{scan_of}
use Rattle.history_rules.specs.declared.entry.Event.{Event}
use Rattle.history_rules.specs.declared.entry.Event.TheVariants.{Answered}
use Rattle.history_rules.specs.Nodes.{Past}
use Rattle.history_rules.specs.Lines.{same_at}
use Rattle.script_serving.specs.declared.script.Line.{Line}
use Rattle.script_serving.specs.declared.script.LineCommand.{LineCommand}
use Rattle.script_serving.specs.declared.script.LineCommand.TheVariants.{Put, Delete, Drop}
use Rattle.load_script.specs.Generated.{load_lines, load_queries}

-- the operation that a command asks for, where it asks for one
abbrev pub operations_asked : LineCommand → List Op
operations_asked (Put doc) = PutOp doc ∷ []
operations_asked (Delete key) = DeleteOp key ∷ []
operations_asked (Drop word) = DropOp word ∷ []
operations_asked command = []

-- the operations that lines ask for, in the order of the lines
abbrev pub operations_of_lines : List Line → List Op
operations_of_lines lines = flat_map (λ line. operations_asked line.command) lines

-- the documents that the generated script leaves, where its lines are done in their order
abbrev pub load_documents : ℕ → List Doc
load_documents n = documents_after (operations_of_lines (load_lines n))

-- the totals of the script: how many of its documents the scan finds for each of its searches
abbrev pub totals_of : ℕ → List ℕ
totals_of n = map (λ query. (scan_of (load_documents n) query).total) load_queries

-- the total of an answer
abbrev pub total_by : Event → ℕ → ℕ
total_by (Answered n t v query answer) total = answer.total
total_by event total = total

-- the total of a line's newest answer, or 0
abbrev pub total_at : At → Past → ℕ
total_at at [] = 0
total_at at (e ∷ past) = if same_at e.at at then total_by e.event (total_at at past) else total_at at past

-- the place of a line of lane 1 behind the join, so many lines after the first
abbrev pub place_behind : ℕ → ℕ → At
place_behind n k = record { lane = record { 0 = 1 }; line = record { 0 = 4 + length (load_lines n) + k } }

-- the totals that a history of the script shows: a publish and a settle stand first behind the join, then the four searches
abbrev pub totals_in : ℕ → Past → List ℕ
totals_in n past = map (λ k. total_at (place_behind n k) past) (2 ∷ 3 ∷ 4 ∷ 5 ∷ [])

-- words, a number and the end of the line
abbrev pub summary_line : List ℕ → ℕ → List ℕ
summary_line words number = words ++ (decimal number ++ 10 ∷ [])

-- what stands before each total
abbrev pub summary_words : List (List ℕ)
summary_words = codes "documents " ∷ codes "a0 " ∷ codes "a0 AND b0 " ∷ codes "\"a1 b1\" " ∷ []

-- a line for each total, behind its words
abbrev pub total_lines : List (List ℕ) → List ℕ → List ℕ
total_lines (words ∷ more) (total ∷ totals) = summary_line words total ++ total_lines more totals
total_lines more totals = []

-- the summary: how many documents were put, and the totals
abbrev pub summary_text : ℕ → List ℕ → List ℕ
summary_text n totals = summary_line (codes "load ") n ++ total_lines summary_words totals
