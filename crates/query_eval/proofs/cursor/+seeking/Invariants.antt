use Rattle.std.proofs.Common.{◌+◌, ◌*◌}
use Rattle.query_eval.specs.Cursor.{parted}
use Rattle.query_eval.proofs.cursor.+seeking.Given as goal

abbrev pub decreases-bound_of : goal.decreases-bound_of
decreases-bound_of l = 2 * parted l.cursor.now

abbrev pub decreases-bound_of_both : goal.decreases-bound_of_both
decreases-bound_of_both l = 2 * (parted l.first.now + parted l.second.now) + 1

abbrev pub decreases-bound_of_either : goal.decreases-bound_of_either
decreases-bound_of_either l = 2 * (parted l.first.now + parted l.second.now) + 1
