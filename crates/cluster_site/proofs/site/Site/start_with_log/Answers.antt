use Rattle.cluster_site.proofs.Opens.{logged_stands}
use Rattle.cluster_site.proofs.site.Site.start_with_log.Goals as goal

pub invariant_of-result : goal.invariant_of-result
invariant_of-result g c = logged_stands g.D.Dir.cells g.D.Dir.plans c.in_ok-cluster.cluster c.in_ok-log.log c.in_ok-cluster.ensures.log c.in_ok-log.ensures.records c.in_ok-log.ensures.goes_on
