use Rattle.std.proofs.Common.{reverse}
use Rattle.history_points.proofs.AskedLaws.{one_written}
use Rattle.history_points.proofs.reached.write.Goals as goal

pub returns-in_ok-change-in-Accepted-clause-texts : goal.returns-in_ok-change-in-Accepted-clause-texts
returns-in_ok-change-in-Accepted-clause-texts c = λ taken.
    one_written (reverse c.args.before.now) c.args.entry.now c.in-Accepted.seq c.in-Accepted.op _ _ c.in-Accepted.is c.requires.texts c.in_ok-change-in-Accepted.ensures.after
