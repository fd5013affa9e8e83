use Rattle.std.proofs.Common.{◌≡◌, ◌-◌, ◌++◌}
use Rattle.script_text.specs.Grammar.{lanes_from}
use Rattle.script_text.proofs.phases.phase_of.Given as goal

abbrev pub invariant-loop-lane : goal.invariant-loop-lane
invariant-loop-lane l = lanes_from 8 1 l.fn.lines.items ≡ l.lanes.items ++ lanes_from (9 - l.lane) l.lane l.left.items
