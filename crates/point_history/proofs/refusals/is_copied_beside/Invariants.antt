use Rattle.std.proofs.Common.{◌≡◌, take}
use Rattle.std.specs.Prelude.{reverse}
use Rattle.history_rules.specs.Started.{is_node_of, is_copied_beside}
use Rattle.point_history.proofs.refusals.is_copied_beside.Given as goal

abbrev pub invariant-loop-entry : goal.invariant-loop-entry
invariant-loop-entry l =
    l.copied ≡ is_copied_beside (is_node_of l.nodes (reverse l.start) l.begun) l.v.0 l.at (reverse (take l.entry-index l.entries))
