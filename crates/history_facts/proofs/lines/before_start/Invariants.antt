use Rattle.std.proofs.Common.{◌≡◌, ◌≤◌, length, take}
use Rattle.std.specs.Prelude.{reverse}
use Rattle.history_rules.specs.Lines.{before_start}
use Rattle.history_facts.proofs.lines.before_start.Given as goal

abbrev pub invariant-loop-i : goal.invariant-loop-i
invariant-loop-i l = (reverse l.before ≡ before_start l.at (reverse (take l.i l.entries))) × (length l.before ≤ l.i)
