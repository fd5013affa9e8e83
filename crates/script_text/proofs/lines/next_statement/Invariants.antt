use Rattle.std.proofs.Common.{◌≡◌, ◌+◌, ◌≤◌, length}
use Rattle.script_text.specs.Grammar.{lines_of_text, statements_from}
use Rattle.script_text.proofs.lines.next_statement.Given as goal

abbrev pub invariant-loop-line : goal.invariant-loop-line
invariant-loop-line l =
    (statements_from l.number (lines_of_text l.left) ≡ statements_from l.fn.number (lines_of_text l.text)) × (l.number + length l.left ≤ l.fn.number + length l.text) × (length l.left ≤ length l.text)

abbrev pub decreases-loop-line : goal.decreases-loop-line
decreases-loop-line l = length l.left
