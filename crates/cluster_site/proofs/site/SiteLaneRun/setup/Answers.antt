use Rattle.cluster_site.proofs.Stands.{setup_is}
use Rattle.cluster_site.proofs.site.SiteLaneRun.setup.Goals as goal

pub returns : goal.returns
returns g c = setup_is c.self.inside.cluster c.self.inside.log c.args.self.now c.node_count.result c.is_some.result c.self.view_is c.node_count.ensures c.is_some.ensures
