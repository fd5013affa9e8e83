use Rattle.std.proofs.Common.{◌≡◌, take}
use Rattle.std.specs.Prelude.{reverse}
use Rattle.history_rules.specs.Faults.{same_kind, has_fault}
use Rattle.history_rules.specs.Started.{is_node_of}
use Rattle.point_history.proofs.refusals.has_fault_at_node.Given as goal

abbrev pub invariant-loop-entry : goal.invariant-loop-entry
invariant-loop-entry l =
    l.met ≡ has_fault (is_node_of l.nodes (reverse l.start) l.begun) (same_kind l.kind) l.at (reverse (take l.entry-index l.entries))
