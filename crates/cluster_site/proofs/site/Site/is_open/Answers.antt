use Rattle.std.proofs.Common.{◌≢◌, ◌↔◌, None, subst}
use Rattle.std.specs.Prelude.{IsTrue}
use Rattle.history_tables.specs.Begins.{open_line}
use Rattle.history_book.specs.Log.{printed}
use Rattle.cluster_site.specs.Sites.{SiteRun}
use Rattle.cluster_site.proofs.site.Site.is_open.Goals as goal

pub returns : goal.returns
returns g c = subst (λ (s : SiteRun). IsTrue c.is_open.result ↔ (open_line c.args.at (printed s.run.log) ≢ None)) c.self.view_is c.is_open.ensures
