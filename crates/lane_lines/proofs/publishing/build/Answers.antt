use Rattle.lane_threads.specs.Seats.{log_seen}
use Rattle.lane_lines.proofs.Publishes.{flushed_work}
use Rattle.lane_lines.proofs.publishing.build.Goals as goal

pub end-requires-clause-work : goal.end-requires-clause-work
end-requires-clause-work g c = flushed_work c.args.at (log_seen c.args.seat.now) c.args.task.now c.in_ok-work.work c.requires.flushing c.in_ok-work.ensures
