use Rattle.std.proofs.Common.{◌+◌}
use Rattle.history_book.specs.Log.{printed}
use Rattle.cluster_state.proofs.ReplicaLists.{AreReplicasTo}
use Rattle.cluster_state.proofs.receivers.replicas.Given as goal

abbrev pub invariant-loop-k : goal.invariant-loop-k
invariant-loop-k l = AreReplicasTo l.book.nodes (printed l.book.log) (l.k + 1) l.left.items
