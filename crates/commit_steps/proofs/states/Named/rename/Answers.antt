use Rattle.commit_steps.specs.Flights.{pending_name, own_name}
use Rattle.commit_steps.proofs.Answers.{rename_fault, renamed_cells}
use Rattle.commit_steps.proofs.states.Named.rename.Goals as goal

pub fault_of-requires : goal.fault_of-requires
fault_of-requires g c = rename_fault (g.D.Dir.cells c.args.dir.now) c.pending_name.result c.commit_name.result (pending_name c.args.self.0.commit) (own_name c.args.self.0.commit) c.in-Err.fault
    c.pending_name.ensures.name c.commit_name.ensures.name c.requires.there c.requires.free c.in-Err.ensures.missing c.in-Err.ensures.exists

pub returns-in-Err-clause-cells : goal.returns-in-Err-clause-cells
returns-in-Err-clause-cells g c = renamed_cells (g.D.Dir.cells c.args.dir.now) (g.D.Dir.cells c.rename.new.self) c.pending_name.result c.commit_name.result
    (pending_name c.args.self.0.commit) (own_name c.args.self.0.commit) c.in-Err.fault c.fault_of.result c.in-Err.ensures.cells c.pending_name.ensures.name c.commit_name.ensures.name c.fault_of.ensures
