use Rattle.std.proofs.Common.{length}
use Rattle.report_judge.proofs.SourceLaws.{IsPassed}
use Rattle.report_judge.proofs.source.from_mark.Given as goal

abbrev pub invariant-loop-line : goal.invariant-loop-line
invariant-loop-line l = IsPassed l.bytes l.left

abbrev pub decreases-loop-line : goal.decreases-loop-line
decreases-loop-line l = length l.left
