use Rattle.std.proofs.Common.{ℕ, ◌≡◌, ◌≤◌, false}
use Rattle.std.specs.Prelude.{reverse}
use Rattle.history_rules.specs.Lines.{NodeSurvives}
use Rattle.history_rules.specs.Faults.{has_file_fault}
use Rattle.point_history.proofs.rules.all_whole.Given as goal

abbrev pub invariant-loop-below : goal.invariant-loop-below
invariant-loop-below l = (n : ℕ) → 1 ≤ n → n ≤ l.below
    → NodeSurvives (reverse l.entries) l.at n → has_file_fault n l.at (reverse l.entries) ≡ false
