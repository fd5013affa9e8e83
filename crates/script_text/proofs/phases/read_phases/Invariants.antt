use Rattle.std.proofs.Common.{◌+◌, ◌≤◌, length}
use Rattle.script_text.specs.Grammar.{lines_of_text, statements_from}
use Rattle.script_text.proofs.PhaseLemmas.{SoFar}
use Rattle.script_text.proofs.phases.read_phases.Given as goal

abbrev pub invariant-loop-statement : goal.invariant-loop-statement
invariant-loop-statement l =
    SoFar l.nodes l.log l.fn.before (statements_from l.fn.number (lines_of_text l.text)) l.before (statements_from l.number (lines_of_text l.left)) l.phases.items l.lines.items
    × (l.number + length l.left ≤ l.fn.number + length l.text)

abbrev pub decreases-loop-statement : goal.decreases-loop-statement
decreases-loop-statement l = length l.left
