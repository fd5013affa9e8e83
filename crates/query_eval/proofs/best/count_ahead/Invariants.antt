use Rattle.std.proofs.Common.{◌≤◌, length}
use Rattle.query_eval.specs.Best.{hit_with, count_ahead}
use Rattle.query_eval.proofs.best.count_ahead.Given as goal

abbrev pub invariant-loop-place : goal.invariant-loop-place
invariant-loop-place l = (l.place ≤ length l.hits) × (count_ahead l.hits (hit_with l.key l.rank) ≤ l.place)

abbrev pub decreases-loop-place : goal.decreases-loop-place
decreases-loop-place l = l.place
