use Rattle.std.proofs.Common.{◌≡◌, take}
use Rattle.std.specs.Prelude.{reverse}
use Rattle.load_script.specs.Totals.{total_at}
use Rattle.load_script.proofs.found.total_at.Given as goal

abbrev pub invariant-loop-entry : goal.invariant-loop-entry
invariant-loop-entry l = l.total ≡ total_at l.at (reverse (take l.entry-index l.entries))
