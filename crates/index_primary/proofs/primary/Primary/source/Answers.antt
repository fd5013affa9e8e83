use Rattle.std.proofs.Common.{◌≡◌, List, ℕ, Err, ap}
use Rattle.index_primary.specs.declared.parts.PrimaryFault.TheVariants.{Failed}
use Rattle.index_primary.proofs.LoadCounts.{told_alike, load_refused, failed_of}
use Rattle.index_primary.proofs.primary.Primary.source.Goals as goal

pub returns-clause-plans : goal.returns-clause-plans
returns-clause-plans g c = rw (← c.self.view_is) (told_alike (g.D.Dir.plans c.self.inside.parts.dir) (g.D.Dir.plans c.load.new.self) c.in-Ok.bytes c.in-Ok.ensures.plans)

pub returns-in-Err-clause-plans : goal.returns-in-Err-clause-plans
returns-in-Err-clause-plans g c = rw (← c.self.view_is)
    (load_refused (List ℕ) (List ℕ) (g.D.Dir.plans c.self.inside.parts.dir) (g.D.Dir.plans c.load.new.self) c.in-Err.fault c.refused.result c.refused.ensures c.in-Err.ensures.plans)

pub returns-in-Err-clause-failed : goal.returns-in-Err-clause-failed
returns-in-Err-clause-failed g c told = rw (← c.self.view_is) (c.in-Err.ensures.faults.failed (ap Err (failed_of c.in-Err.fault c.refused.result c.refused.ensures (let e : c.refused.result ≡ Failed = cc in e))))
