use Rattle.cluster_site.proofs.Stands.{settled}
use Rattle.cluster_site.proofs.site.SiteLaneRun.has_ended.Goals as goal

pub returns-clause-settled : goal.returns-clause-settled
returns-clause-settled g c = λ running. settled c.args.self.now.kept c.args.self.now.run.log c.ended.ensures.faults (c.ended.ensures.in_step running)
