-- What settles hand out, and what they wait for.
use Rattle.std.specs.Prelude.{ℕ, ◌≡◌, ◌≢◌, ◌≤◌, ◌<◌, ◌⊎◌, List, None, Some}
use Rattle.std.specs.List.{All, AllPairs, Contains}
use Rattle.nrt_base.specs.declared.numbers.At.{At}
use Rattle.nrt_base.specs.declared.numbers.NodeNo.{NodeNo}
use Rattle.history_rules.specs.declared.entry.Event.TheVariants.{Settling}
use Rattle.history_rules.specs.Nodes.{Past, IsNode, IsReplica, version_of}
use Rattle.history_rules.specs.Lines.{start_entry, before_start, highest_switched, NodeSurvives}
use Rattle.history_tables.specs.Begins.{open_line}
use Rattle.cluster_nodes.specs.declared.tasks.SettleTask.{SettleTask}

-- these are the replicas, ascending
pub record AreReplicas (size : ℕ) (past : Past) (nodes : List NodeNo) : Type 0 where
  pub each : All (λ n. IsNode size n.0 × IsReplica past n.0) nodes
  pub ascending : AllPairs (λ m n. m.0 < n.0) nodes
  pub all : (n : NodeNo) → IsNode size n.0 → IsReplica past n.0 → Contains nodes n

-- the node was a replica at the line's start; while it has not crashed since, it is above those that the line switched, or has reached
-- the version
pub record IsLeft (size : ℕ) (past : Past) (at : At) (v : ℕ) (n : NodeNo) : Type 0 where
  pub node : IsNode size n.0
  pub replica : IsReplica (before_start at past) n.0
  pub ordered : NodeSurvives past at n.0 → (highest_switched at past < n.0) ⊎ (v ≤ version_of n.0 past)

-- A line settles: it started at this version and has no reply; what is left ascends; and each replica of its start that is not
-- left has reached the version, or has crashed since.
pub record IsSettling (size : ℕ) (past : Past) (at : At) (task : SettleTask) : Type 0 where
  pub started : start_entry at past ≡ Some (Settling task.version)
  pub is_open : open_line at past ≢ None
  pub left : All (IsLeft size past at task.version.0) task.left.items
  pub ascending : AllPairs (λ m n. m.0 < n.0) task.left.items
  pub reached : (n : NodeNo) → IsNode size n.0 → IsReplica (before_start at past) n.0 → NodeSurvives past at n.0
      → Contains task.left.items n ⊎ (task.version.0 ≤ version_of n.0 past)

-- a settle waits for this replica: it is below the version, and above all that the line switched
pub record WaitsFor (size : ℕ) (past : Past) (at : At) (v : ℕ) (n : NodeNo) : Type 0 where
  pub node : IsNode size n.0
  pub was : IsReplica (before_start at past) n.0
  pub replica : IsReplica past n.0
  pub survives : NodeSurvives past at n.0
  pub behind : version_of n.0 past < v
  pub ordered : highest_switched at past < n.0
