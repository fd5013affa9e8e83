use Rattle.std.proofs.Common.{ℕ, ◌≤◌}
use Rattle.std.specs.Prelude.{reverse}
use Rattle.history_rules.specs.Nodes.{IsReplica, version_of}
use Rattle.history_rules.specs.Lines.{before_start, NodeSurvives}
use Rattle.point_history.proofs.rules.all_settled.Given as goal

abbrev pub invariant-loop-below : goal.invariant-loop-below
invariant-loop-below l = (n : ℕ) → 1 ≤ n → n ≤ l.below
    → IsReplica (before_start l.at (reverse l.entries)) n → NodeSurvives (reverse l.entries) l.at n → l.v.0 ≤ version_of n (reverse l.entries)
