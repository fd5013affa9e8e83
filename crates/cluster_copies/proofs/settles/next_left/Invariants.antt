use Rattle.std.proofs.Common.{◌≡◌, length}
use Rattle.history_book.specs.Log.{printed}
use Rattle.cluster_state.specs.Settles.{IsSettling}
use Rattle.cluster_copies.proofs.settles.next_left.Given as goal

abbrev pub invariant-loop-n : goal.invariant-loop-n
invariant-loop-n g l = record {
  settling : IsSettling l.cluster.nodes (printed l.cluster.log) l.at l.task;
  same : l.task.version ≡ l.initial.task.version;
}

abbrev pub decreases-loop-n : goal.decreases-loop-n
decreases-loop-n g l = length l.task.left.items
