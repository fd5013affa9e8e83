use Rattle.lane_threads.specs.Parts.{HasHeard}
use Rattle.lane_threads.proofs.turn.do_tasks.Given as goal

abbrev pub invariant-loop : goal.invariant-loop
invariant-loop g l = HasHeard (g.Q.RunsLines.set_up l.runner).log l.lock l.initial.lane l.lane
