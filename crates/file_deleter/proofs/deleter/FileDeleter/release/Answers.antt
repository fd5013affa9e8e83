use Rattle.file_deleter.proofs.Releasing.{releases, in_order, lets_go_of, release_later, release_cause}
use Rattle.file_deleter.proofs.deleter.FileDeleter.release.Goals as goal

pub returns-clause-releases : goal.returns-clause-releases
returns-clause-releases g c = rw (← c.self.view_is) (releases _ _ _ _ _ c.release.ensures.released)

pub returns-clause-order : goal.returns-clause-order
returns-clause-order g c = rw (← c.self.view_is) (in_order _ _ _ _ _ c.release.ensures.released)

pub returns-clause-lets_go : goal.returns-clause-lets_go
returns-clause-lets_go g c = rw (← c.self.view_is) (lets_go_of _ _ _ _ _ c.release.ensures.released)

pub returns-clause-cause : goal.returns-clause-cause
returns-clause-cause g c = release_cause _ _ _ _ _ c.release.ensures.released

pub returns-clause-later : goal.returns-clause-later
returns-clause-later g c = release_later _ _ _ _ _ c.release.ensures.released
