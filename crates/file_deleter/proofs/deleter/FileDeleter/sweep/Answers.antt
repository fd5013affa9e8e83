use Rattle.file_deleter.proofs.Removing.{faults_later, faults_rise}
use Rattle.file_deleter.proofs.Sounding.{swept}
use Rattle.file_deleter.proofs.deleter.FileDeleter.sweep.Goals as goal

pub returns-clause-lets_go : goal.returns-clause-lets_go
returns-clause-lets_go g c = rw (← c.self.view_is) (swept _ _ _ _ c.self.invariant.order c.sweep.ensures.removals c.sweep.ensures.counts)

pub returns-clause-cause : goal.returns-clause-cause
returns-clause-cause g c = faults_rise _ _ _ _ c.sweep.ensures.removals

pub returns-clause-later : goal.returns-clause-later
returns-clause-later g c = faults_later _ _ _ _ c.sweep.ensures.removals
