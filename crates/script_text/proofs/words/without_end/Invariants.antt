use Rattle.std.proofs.Common.{◌≡◌, length}
use Rattle.script_text.specs.Grammar.{without_end}
use Rattle.script_text.proofs.words.without_end.Given as goal

abbrev pub invariant-loop-last : goal.invariant-loop-last
invariant-loop-last l = without_end l.left ≡ without_end l.line

abbrev pub decreases-loop-last : goal.decreases-loop-last
decreases-loop-last l = length l.left
