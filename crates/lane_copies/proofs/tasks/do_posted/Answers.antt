use Rattle.std.proofs.Common.{refl}
use Rattle.lane_copies.proofs.Hearing.{on_works_heard}
use Rattle.lane_copies.proofs.tasks.do_posted.Goals as goal

pub returns-clause-heard : goal.returns-clause-heard
returns-clause-heard g c = on_works_heard refl c.args.lanes.now.lock.now c.do_first.result c.args.lane.now _ c.requires refl c.do_first.ensures
