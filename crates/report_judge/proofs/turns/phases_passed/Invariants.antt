use Rattle.std.specs.Prelude.{reverse}
use Rattle.report_judge.specs.Turns.{ArePhasesAnswered}
use Rattle.report_judge.proofs.turns.phases_passed.Given as goal

abbrev pub invariant-loop : goal.invariant-loop
invariant-loop l = ArePhasesAnswered l.script (reverse l.entries) l.next
