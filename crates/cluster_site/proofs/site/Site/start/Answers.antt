use Rattle.cluster_site.proofs.Stands.{new_stands}
use Rattle.cluster_site.proofs.site.Site.start.Goals as goal

pub invariant_of-result : goal.invariant_of-result
invariant_of-result g c = new_stands g.D.Dir.cells g.D.Dir.plans c.in_ok-cluster.cluster c.in_ok-cluster.ensures.log
