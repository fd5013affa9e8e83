use Rattle.std.proofs.Common.{◌≡◌, ◌≤◌, take}
use Rattle.std.specs.Prelude.{reverse}
use Rattle.history_rules.specs.Points.{operations_at}
use Rattle.history_facts.specs.Origins.{operations_from, size_of}
use Rattle.history_facts.proofs.written.origin_of.Given as goal

abbrev pub invariant-loop-i : goal.invariant-loop-i
invariant-loop-i l = (operations_from l.origin ≡ operations_at (reverse (take l.i l.entries)) l.version) × (size_of l.origin ≤ l.i)
