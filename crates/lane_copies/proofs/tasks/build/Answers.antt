use Rattle.lane_threads.specs.Seats.{log_seen}
use Rattle.lane_copies.proofs.Claims.{made_out}
use Rattle.lane_copies.proofs.tasks.build.Goals as goal

pub merge-requires-clause-rows : goal.merge-requires-clause-rows
merge-requires-clause-rows g c = c.requires.work.fit.rows

pub merge-requires-clause-some : goal.merge-requires-clause-some
merge-requires-clause-some g c = c.requires.work.fit.some

pub merge-requires-clause-sound : goal.merge-requires-clause-sound
merge-requires-clause-sound g c = c.requires.work.fit.sound

pub bring_merged-answer-requires-clause-merged : goal.bring_merged-answer-requires-clause-merged
bring_merged-answer-requires-clause-merged g c = made_out c.args.work.now c.args.task.now.seg _ (log_seen c.args.seat.now) c.requires.work c.in_ok-merged.ensures
