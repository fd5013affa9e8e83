use Rattle.lane_threads.specs.Walks.{Going}
use Rattle.lane_threads.specs.Seats.{log_seen, IsLaneSeat}
use Rattle.lane_threads.proofs.part.run_lines.Given as goal

abbrev pub invariant-loop-line : goal.invariant-loop-line
invariant-loop-line g l =
    IsLaneSeat (g.Q.RunsLines.set_up l.runner).log l.lock l.fn.lane.0 l.seat × Going (g.Q.RunsLines.set_up l.runner).log l.fn.lane.0 l.lines l.line-index (log_seen l.initial.seat) (log_seen l.seat)
