use Rattle.std.proofs.Common.{◌≡◌, ◌-◌, length, drop}
use Rattle.copy_state.specs.States.{meta_names}
use Rattle.replica_node.specs.Overlapping.{first_overlapping}
use Rattle.replica_node.proofs.overlapping.first_copying.Given as goal

abbrev pub invariant-loop-i : goal.invariant-loop-i
invariant-loop-i l = first_overlapping (meta_names l.files) (drop l.i l.copies) ≡ first_overlapping (meta_names l.files) l.copies

abbrev pub decreases-loop-i : goal.decreases-loop-i
decreases-loop-i l = length l.copies - l.i
