use Rattle.std.proofs.Common.{◌≡◌}
use Rattle.history_rules.specs.Nodes.{newest_version}
use Rattle.run_drawing.specs.Drawing.{first_of}
use Rattle.run_drawing.proofs.pages.newest_at.Given as goal

abbrev pub invariant-loop-i : goal.invariant-loop-i
invariant-loop-i l = l.last ≡ newest_version (first_of l.entries l.i)
