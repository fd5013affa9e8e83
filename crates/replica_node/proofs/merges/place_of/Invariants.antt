use Rattle.std.proofs.Common.{◌≡◌, ◌+◌, ◌-◌, length, drop}
use Rattle.replica_node.specs.Merges.{copy_place}
use Rattle.replica_node.proofs.merges.place_of.Given as goal

abbrev pub invariant-loop-i : goal.invariant-loop-i
invariant-loop-i l = l.i + copy_place l.number (drop l.i l.copies) ≡ copy_place l.number l.copies

abbrev pub decreases-loop-i : goal.decreases-loop-i
decreases-loop-i l = length l.copies - l.i
