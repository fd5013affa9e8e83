use Rattle.std.proofs.Common.{◌≡◌, ◌==◌, take}
use Rattle.std.specs.Prelude.{reverse}
use Rattle.history_rules.specs.declared.cause.FaultKind.TheVariants.{Link}
use Rattle.history_rules.specs.Faults.{same_kind, has_fault}
use Rattle.point_history.proofs.refusals.has_link_fault.Given as goal

abbrev pub invariant-loop-entry : goal.invariant-loop-entry
invariant-loop-entry l =
    l.met ≡ has_fault (λ m. m == l.n.0) (same_kind Link) l.at (reverse (take l.entry-index l.entries))
