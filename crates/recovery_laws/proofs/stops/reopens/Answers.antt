use Rattle.std.proofs.Common.{refl, subst}
use Rattle.disk_model.specs.Disk.{HasCrashed}
use Rattle.recovery_laws.proofs.StopLaws.{crashed_settled, reopened}
use Rattle.recovery_laws.proofs.stops.reopens.Goals as goal

pub opens_on-requires : goal.opens_on-requires
opens_on-requires g c = crashed_settled (g.D.Dir.cells c.into_dir.result) (g.D.Dir.cells c.in-Ok.dir) c.in-Ok.ensures

pub returns-in-Ok : goal.returns-in-Ok
returns-in-Ok g c =
    reopened c.args.replica (g.D.Dir.cells c.args.replica.dir) (g.D.Dir.cells c.in-Ok.dir)
    (subst (λ d. HasCrashed (g.D.Dir.cells d) (g.D.Dir.cells c.in-Ok.dir)) c.into_dir.ensures c.in-Ok.ensures) c.images.ensures
    g.D.Dir.cells refl c.in-Ok.dir refl c.opens_on.result c.opens_on.ensures
