use Rattle.std.proofs.Common.{◌≡◌, ℕ, get_or, length}
use Rattle.merge_tasks.specs.Fates.{no_file_plans}
use Rattle.merge_tasks.proofs.fates.first_plans.Given as goal

abbrev pub invariant-loop-next : goal.invariant-loop-next
invariant-loop-next l = record { count : length l.rows.items ≡ l.next; none : (n : ℕ) → get_or l.rows.items n no_file_plans ≡ no_file_plans }
