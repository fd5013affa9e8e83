-- The generated script: what its lanes put, delete, publish, copy and merge at the same time, and what is searched behind them.
use Rattle.std.specs.Prelude.{ℕ, zero, suc, ◌≡◌, ◌+◌, ◌-◌, ◌%◌, ◌==◌, List, [], ◌∷◌, ◌++◌, map, length, false, codes, if◌then◌else◌}
use Rattle.std.specs.Fmt.{decimal}
use Rattle.documents.specs.declared.query.Query.{Query}
use Rattle.documents.specs.declared.query.Query.TheVariants.{Word, Phrase, All}
use Rattle.script_serving.specs.declared.script.Line.{Line}
use Rattle.script_serving.specs.declared.script.LineCommand.{LineCommand}
use Rattle.script_serving.specs.declared.script.LineCommand.TheVariants.{Put, Delete, Publish, Copy, Settle, Search, Merge}
use Rattle.script_serving.specs.declared.script.Script.{Script}
use Rattle.script_text.specs.Grammar.{phase_of}

-- the lane that puts the i-th document
abbrev pub load_lane : ℕ → ℕ
load_lane i = 1 + i % 4

-- its key
abbrev pub load_key : ℕ → List ℕ
load_key i = codes "k" ++ decimal i

-- its text
abbrev pub load_text : ℕ → List ℕ
load_text i = codes "doc a" ++ (decimal (i % 7) ++ (codes " b" ++ decimal (i % 11)))

-- the command, where i is a multiple of k
abbrev pub at_multiple : ℕ → ℕ → LineCommand → List LineCommand
at_multiple k i command = if i % k == 0 then command ∷ [] else []

-- what the lane does with the i-th document: it is put; a multiple of 10 deletes the one four before, and greater multiples publish,
-- copy to node 2 and merge
abbrev pub load_commands : ℕ → List LineCommand
load_commands i =
    (Put (record { key = load_key i; text = load_text i }) ∷ []) ++ (at_multiple 10 i (Delete (load_key (i - 4))) ++ (at_multiple 50 i Publish
    ++ (at_multiple 100 i (Copy (record { 0 = 2 })) ++ at_multiple 200 i (Merge 4))))

-- commands of a lane as lines, numbered from here on
abbrev pub lines_numbered : (number lane : ℕ) → List LineCommand → List Line
lines_numbered number lane [] = []
lines_numbered number lane (c ∷ commands) =
    record { at = record { lane = record { 0 = lane }; line = record { 0 = number } }; command = c } ∷ lines_numbered (number + 1) lane commands

-- the lines of the first n documents, from the third line of the script on
abbrev pub load_lines : ℕ → List Line
load_lines zero = []
load_lines (suc i) = load_lines i ++ lines_numbered (3 + length (load_lines i)) (load_lane (suc i)) (load_commands (suc i))

-- what is searched at the end
abbrev pub load_queries : List Query
load_queries = Word (codes "doc") ∷ Word (codes "a0") ∷ All (Word (codes "a0") ∷ Word (codes "b0") ∷ []) ∷ Phrase (codes "a1" ∷ codes "b1" ∷ []) ∷ []

-- what lane 1 does behind the join: it publishes, settles and searches at node 3
abbrev pub last_commands : List LineCommand
last_commands = Publish ∷ Settle ∷ map (Search (record { 0 = 3 })) load_queries

-- the script of n documents, for three nodes and two workers, in two phases
abbrev pub generated_script : ℕ → Script
generated_script n = record {
  nodes = 3;
  workers = 2;
  log = false;
  phases = phase_of (load_lines n) ∷ phase_of (lines_numbered (4 + length (load_lines n)) 1 last_commands) ∷ [];
}

-- these commands of a lane came behind the lines, numbered on from the number of the first
abbrev pub AddsLines : (first lane : ℕ) → List LineCommand → (old new : List Line) → Type 0
AddsLines first lane commands old new = new ≡ old ++ lines_numbered (first + length old) lane commands
