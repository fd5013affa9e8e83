use Rattle.commit_steps.specs.Flights.{pending_name}
use Rattle.commit_steps.proofs.Answers.{write_fault}
use Rattle.commit_steps.proofs.states.Synced.write_pending.Goals as goal

pub fault_of-requires : goal.fault_of-requires
fault_of-requires g c = write_fault (g.D.Dir.cells c.args.dir.now) c.pending_name.result (pending_name c.args.self.0.commit) c.in-Err.fault c.pending_name.ensures.name c.requires
    c.in-Err.ensures.not_missing c.in-Err.ensures.exists
