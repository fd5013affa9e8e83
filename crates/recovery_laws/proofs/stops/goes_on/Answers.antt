use Rattle.std.proofs.Common.{◌∙◌, inl, sym}
use Rattle.recovery_laws.proofs.StopLaws.{is_made, step_goes, step_more, stays_in_flight}
use Rattle.recovery_laws.proofs.stops.goes_on.Goals as goal

pub returns-in-Ok-clause-goes : goal.returns-in-Ok-clause-goes
returns-in-Ok-clause-goes g c = step_goes c.args.replica.now.commits c.commit_step.new.self.commits c.requires.in_flight (rw c.in-Ok.is at c.commit_step.ensures.ok)

pub returns-in-Ok-clause-more : goal.returns-in-Ok-clause-more
returns-in-Ok-clause-more g c = λ more.
    step_more c.args.replica.now.commits c.commit_step.new.self.commits c.requires.in_flight (rw c.in-Ok.is at c.commit_step.ensures.ok)
    (sym c.in-Ok.ensures.done ∙ is_made c.in-Ok.made more)

pub returns-in-Err-clause-goes : goal.returns-in-Err-clause-goes
returns-in-Err-clause-goes g c = inl (stays_in_flight c.args.replica.now.commits c.commit_step.new.self.commits c.requires.in_flight (rw c.in-Err.is at c.commit_step.ensures.err))
