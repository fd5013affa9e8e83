use Rattle.lane_threads.proofs.phase.do_left.Goals as goal

pub do_tasks-requires : goal.do_tasks-requires
do_tasks-requires g c = c.requires.idle 0 _ c.requires.some
