use Rattle.std.proofs.Common.{arith}
use Rattle.lane_threads.proofs.Turns.{worker_did}
use Rattle.lane_threads.proofs.turn.take_turn.Goals as goal

pub returns-then-is_worker : goal.returns-then-is_worker
returns-then-is_worker g c =
    worker_did (g.Q.RunsLines.set_up c.args.runner.now).log c.args.lock.now c.args.phase.now c.args.lane.now c.run_worker.new.lane c.requires.phase (c.is_worker.ensures.beyond c.if-is_worker.true)
    c.run_worker.ensures.number c.run_worker.ensures.heard

pub returns : goal.returns
returns g c = record { part = c.run_part.ensures; worker = λ beyond. absurd (let within = c.is_worker.ensures.within c.if-is_worker.false in omega arith) }
