use Rattle.std.proofs.Common.{◌≡◌, drop}
use Rattle.std.specs.Prelude.{reverse}
use Rattle.script_serving.specs.Lines.{earlier_phases_answered}
use Rattle.report_judge.proofs.lines.earlier_phases_answered.Given as goal

abbrev pub invariant-loop-phase : goal.invariant-loop-phase
invariant-loop-phase l = earlier_phases_answered (drop l.phase-index l.phases) l.at (reverse l.entries) ≡ earlier_phases_answered l.phases l.at (reverse l.entries)
