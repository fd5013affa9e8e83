use Rattle.replica_opening.proofs.Openings.{settled_nothing, settled_commit}
use Rattle.replica_opening.proofs.opening.open_book.Goals as goal

pub returns-in-None-clause-sound : goal.returns-in-None-clause-sound
returns-in-None-clause-sound g c settled =
    c.new.ensures.sound (g.D.Dir.cells c.args.dir.now) c.args.files.now (settled_nothing (g.D.Dir.cells c.args.dir.now) c.args.number c.args.infos.now c.requires.finds c.requires.there c.in-None.is settled)

pub returns-in-Ok-clause-sound : goal.returns-in-Ok-clause-sound
returns-in-Ok-clause-sound g c settled =
    c.in-Ok.ensures.sound (settled_commit (g.D.Dir.cells c.args.dir.now) c.args.number c.in-Some.number c.args.infos.now c.requires.finds c.requires.there c.in-Some.is settled)
