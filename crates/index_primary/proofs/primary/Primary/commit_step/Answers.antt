use Rattle.index_primary.proofs.Keeping.{primary_stepped, commit_appears}
use Rattle.index_primary.proofs.primary.Primary.commit_step.Goals as goal

pub invariant_of-self : goal.invariant_of-self
invariant_of-self g c = primary_stepped g.D.Dir.cells c.self.inside.parts c.self.invariant c.step.result c.step.new.dir c.step.new.files c.step.new.self c.step.ensures.step.shifts c.step.ensures.step.sound c.step.ensures.ok c.step.ensures.err

pub returns-clause-whole : goal.returns-clause-whole
returns-clause-whole g c = invariant_of-self g c

pub returns-clause-appears : goal.returns-clause-appears
returns-clause-appears g c = rw (← c.self.view_is)
    (commit_appears g.D.Dir.cells c.self.inside.parts c.self.invariant c.step.result c.step.new.dir c.step.new.files c.step.new.self c.step.ensures.step.shifts c.step.ensures.ok c.step.ensures.err)

pub returns-clause-calls : goal.returns-clause-calls
returns-clause-calls g c = rw (← c.self.view_is) c.step.ensures.calls
