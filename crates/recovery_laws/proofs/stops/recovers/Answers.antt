use Rattle.std.proofs.Common.{subst}
use Rattle.disk_model.specs.Disk.{HasCrashed}
use Rattle.recovery_laws.proofs.StopLaws.{finds_commit, only_cut_off}
use Rattle.recovery_laws.proofs.stops.recovers.Goals as goal

pub returns-in-Ok-clause-found : goal.returns-in-Ok-clause-found
returns-in-Ok-clause-found g c =
    finds_commit c.args.replica (g.D.Dir.cells c.args.replica.dir) (g.D.Dir.cells c.in-Ok.dir)
    (subst (λ d. HasCrashed (g.D.Dir.cells d) (g.D.Dir.cells c.in-Ok.dir)) c.into_dir.ensures c.in-Ok.ensures) c.images.ensures
    c.version.ensures.whole.node.sound.safe c.recover.result c.recover.ensures.none c.recover.ensures.whole

pub returns-in-Ok-clause-refused : goal.returns-in-Ok-clause-refused
returns-in-Ok-clause-refused g c =
    only_cut_off c.args.replica (g.D.Dir.cells c.args.replica.dir) (g.D.Dir.cells c.in-Ok.dir)
    (subst (λ d. HasCrashed (g.D.Dir.cells d) (g.D.Dir.cells c.in-Ok.dir)) c.into_dir.ensures c.in-Ok.ensures) c.images.ensures
    c.version.ensures.whole.node.sound.safe c.recover.result c.recover.ensures.none c.recover.ensures.whole
