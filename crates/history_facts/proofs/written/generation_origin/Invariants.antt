use Rattle.std.proofs.Common.{◌≡◌, ◌≤◌, take}
use Rattle.std.specs.Prelude.{reverse}
use Rattle.history_facts.specs.Origins.{operations_from, operations_before_generation, size_of}
use Rattle.history_facts.proofs.written.generation_origin.Given as goal

abbrev pub invariant-loop-i : goal.invariant-loop-i
invariant-loop-i l =
    (operations_from l.origin ≡ operations_before_generation (reverse (take l.i l.entries))) × (size_of l.origin ≤ l.i)
