use Rattle.std.proofs.Common.{◌≡◌, ◌==◌, take}
use Rattle.std.specs.Prelude.{reverse}
use Rattle.std.specs.Prelude.{◌&&◌, not}
use Rattle.history_rules.specs.declared.cause.FaultKind.TheVariants.{Link, Damage}
use Rattle.history_rules.specs.Faults.{same_kind, has_fault}
use Rattle.history_rules.specs.Started.{is_node_of}
use Rattle.point_history.proofs.refusals.has_damage.Given as goal

abbrev pub invariant-loop-entry : goal.invariant-loop-entry
invariant-loop-entry l =
    l.met ≡ has_fault (λ n. is_node_of l.nodes (reverse l.start) l.begun n && not (has_fault (λ m. m == n) (same_kind Link) l.at (reverse l.entries))) (same_kind Damage) l.at (reverse (take l.entry-index l.entries))
