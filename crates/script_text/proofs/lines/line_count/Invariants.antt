use Rattle.std.proofs.Common.{◌≡◌, ◌+◌, ◌≤◌, length}
use Rattle.script_text.specs.Grammar.{lines_of_text}
use Rattle.script_text.proofs.lines.line_count.Given as goal

abbrev pub invariant-loop-rest : goal.invariant-loop-rest
invariant-loop-rest l = (l.count + length (lines_of_text l.left) ≡ length (lines_of_text l.text)) × (l.count + length l.left ≤ length l.text)

abbrev pub decreases-loop-rest : goal.decreases-loop-rest
decreases-loop-rest l = length l.left
