use Rattle.std.proofs.Common.{◌+◌, ◌*◌}
use Rattle.query_eval.specs.Cursor.{parted}
use Rattle.query_eval.proofs.cursor.+marking.Given as goal

abbrev pub decreases-mark : goal.decreases-mark
decreases-mark l = 2 * parted l.cursor.now

abbrev pub decreases-mark_both : goal.decreases-mark_both
decreases-mark_both l = 2 * (parted l.first.now + parted l.second.now) + 1

abbrev pub decreases-mark_either : goal.decreases-mark_either
decreases-mark_either l = 2 * (parted l.first.now + parted l.second.now) + 1

abbrev pub decreases-mark_rest : goal.decreases-mark_rest
decreases-mark_rest l = 2 * parted l.part.now + 1
