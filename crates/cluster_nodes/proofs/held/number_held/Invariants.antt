use Rattle.std.proofs.Common.{◌≡◌, ◌≤◌, length, take}
use Rattle.cluster_nodes.specs.Held.{held_number}
use Rattle.cluster_nodes.proofs.held.number_held.Given as goal

abbrev pub invariant-loop-left : goal.invariant-loop-left
invariant-loop-left l = (l.left ≤ length l.held) × (held_number (take l.left l.held) l.key ≡ held_number l.held l.key)

abbrev pub decreases-loop-left : goal.decreases-loop-left
decreases-loop-left l = l.left
