use Rattle.std.proofs.Common.{◌≡◌, reverse, take}
use Rattle.run_drawing.specs.Drawing.{lanes_of}
use Rattle.run_drawing.proofs.whole.lanes.Given as goal

abbrev pub invariant-loop-entry : goal.invariant-loop-entry
invariant-loop-entry l = l.lanes ≡ lanes_of (reverse (take l.entry-index l.entries))
