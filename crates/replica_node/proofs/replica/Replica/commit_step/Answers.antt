use Rattle.searcher_switch.proofs.Appearing.{step_appears, stop_appears}
use Rattle.replica_node.specs.Replica.{replica_names}
use Rattle.replica_node.proofs.Committing.{standing_steps, standing_stopped}
use Rattle.replica_node.proofs.Keeping.{core_of}
use Rattle.replica_node.proofs.Calls.{either, step_whole, step_sourced, step_held, stop_whole, stop_sourced, stop_held}
use Rattle.replica_node.proofs.replica.Replica.commit_step.Goals as goal

pub invariant_of-self : goal.invariant_of-self
invariant_of-self g c = either c.step.result c.step.ensures.ok c.step.ensures.err
    (λ ok. step_whole g.D.Dir.cells c.self.inside.parts c.self.invariant c.step.new.dir c.step.new.files c.step.new.self c.step.ensures.step.shifts c.step.ensures.step.sound ok)
    (λ err. stop_whole g.D.Dir.cells c.self.inside.parts c.self.invariant c.step.new.dir c.step.new.files c.step.new.self c.step.ensures.step.shifts c.step.ensures.step.sound err)

pub returns-clause-whole : goal.returns-clause-whole
returns-clause-whole g c = either c.step.result c.step.ensures.ok c.step.ensures.err
    (λ ok. step_whole g.D.Dir.cells c.self.inside.parts c.self.invariant c.step.new.dir c.step.new.files c.step.new.self c.step.ensures.step.shifts c.step.ensures.step.sound ok)
    (λ err. stop_whole g.D.Dir.cells c.self.inside.parts c.self.invariant c.step.new.dir c.step.new.files c.step.new.self c.step.ensures.step.shifts c.step.ensures.step.sound err)

pub returns-clause-standing : goal.returns-clause-standing
returns-clause-standing g c = rw (← c.self.view_is)
    (either c.step.result c.step.ensures.ok c.step.ensures.err
    (λ ok. standing_steps g.D.Dir.cells c.self.inside.parts (core_of g.D.Dir.cells c.self.inside.parts c.self.invariant) c.step.new.dir c.step.new.files c.step.new.self c.step.ensures.step.shifts c.step.ensures.step.sound ok c.step.ensures.reads)
    (λ err. standing_stopped g.D.Dir.cells c.self.inside.parts (core_of g.D.Dir.cells c.self.inside.parts c.self.invariant) c.step.new.dir c.step.new.files c.step.new.self c.step.ensures.step.shifts c.step.ensures.step.sound err c.step.ensures.reads))

pub returns-clause-sourced : goal.returns-clause-sourced
returns-clause-sourced g c = rw (← c.self.view_is)
    (either c.step.result c.step.ensures.ok c.step.ensures.err
    (λ ok. step_sourced g.D.Dir.cells c.self.inside.parts c.self.invariant c.step.new.dir c.step.new.files c.step.new.self c.step.ensures.step.shifts c.step.ensures.step.sound ok)
    (λ err. stop_sourced g.D.Dir.cells c.self.inside.parts c.self.invariant c.step.new.dir c.step.new.files c.step.new.self c.step.ensures.step.shifts c.step.ensures.step.sound err))

pub returns-clause-held : goal.returns-clause-held
returns-clause-held g c = rw (← c.self.view_is)
    (either c.step.result c.step.ensures.ok c.step.ensures.err
    (λ ok. step_held g.D.Dir.cells c.self.inside.parts c.self.invariant c.step.new.dir c.step.new.files c.step.new.self c.step.ensures.step.shifts c.step.ensures.step.sound ok)
    (λ err. stop_held g.D.Dir.cells c.self.inside.parts c.self.invariant c.step.new.dir c.step.new.files c.step.new.self c.step.ensures.step.shifts c.step.ensures.step.sound err))

pub returns-clause-appears : goal.returns-clause-appears
returns-clause-appears g c = rw (← c.self.view_is)
    (either c.step.result c.step.ensures.ok c.step.ensures.err
    (λ ok. step_appears (g.D.Dir.cells c.self.inside.parts.dir) (g.D.Dir.cells c.step.new.dir) c.self.inside.parts.files c.step.new.files (replica_names c.self.inside.parts) c.self.inside.parts.commits c.step.new.self c.self.invariant.node c.step.ensures.step.shifts ok)
    (λ err. stop_appears (g.D.Dir.cells c.self.inside.parts.dir) (g.D.Dir.cells c.step.new.dir) c.self.inside.parts.files c.step.new.files (replica_names c.self.inside.parts) c.self.inside.parts.commits c.step.new.self c.self.invariant.node c.step.ensures.step.shifts err))

pub returns-clause-calls : goal.returns-clause-calls
returns-clause-calls g c = rw (← c.self.view_is) c.step.ensures.calls
