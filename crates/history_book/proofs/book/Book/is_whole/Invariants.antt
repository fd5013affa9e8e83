use Rattle.std.proofs.Common.{ℕ, ◌≡◌, ◌≤◌, false}
use Rattle.history_rules.specs.Lines.{NodeSurvives}
use Rattle.history_rules.specs.Faults.{has_file_fault}
use Rattle.history_book.specs.Log.{printed}
use Rattle.history_book.proofs.book.Book.is_whole.Given as goal

abbrev pub invariant-loop-below : goal.invariant-loop-below
invariant-loop-below l = (n : ℕ) → 1 ≤ n → n ≤ l.below
    → NodeSurvives (printed l.self.log) l.at n → has_file_fault n l.at (printed l.self.log) ≡ false
