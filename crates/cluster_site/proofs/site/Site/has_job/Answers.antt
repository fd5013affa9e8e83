use Rattle.std.proofs.Common.{◌≡◌, ◌↔◌, false, subst}
use Rattle.std.specs.Prelude.{IsTrue, IsSomeAnd}
use Rattle.history_book.specs.Jobs.{job_of}
use Rattle.cluster_site.specs.Sites.{SiteRun}
use Rattle.cluster_site.proofs.site.Site.has_job.Goals as goal

pub returns : goal.returns
returns g c = subst (λ (s : SiteRun). IsTrue c.has_job.result ↔ IsSomeAnd (job_of c.args.lane.0 s.run.log) (λ row. row.ended ≡ false)) c.self.view_is c.has_job.ensures
