use Rattle.std.proofs.Common.{◌≡◌}
use Rattle.script_text.specs.Grammar.{of_lane}
use Rattle.script_text.proofs.PhaseLemmas.{of_others}
use Rattle.script_text.proofs.phases.split_lane.Given as goal

abbrev pub invariant-loop-line : goal.invariant-loop-line
invariant-loop-line l = (l.mine.items ≡ of_lane l.lane l.yielded) × (l.others.items ≡ of_others l.lane l.yielded)
