use Rattle.std.proofs.lemmas.Result.{on_ok_weaker}
use Rattle.cluster_state.proofs.Rows.{fresh_in}
use Rattle.cluster_core.proofs.Does.{files_does, files_replied, does_was}
use Rattle.cluster_core.proofs.cluster.Cluster.files.Goals as goal

pub returns-clause-does : goal.returns-clause-does
returns-clause-does g c = on_ok_weaker c.files.result
    (λ lists. does_was _ c.args.at _ _ _ c.self.view_is (files_does c.args.at c.args.n _ _ (fresh_in c.args.at _ _ c.self.view_is c.requires.fresh) lists)) c.files.ensures.ok

pub returns-clause-replied : goal.returns-clause-replied
returns-clause-replied g c = on_ok_weaker c.files.result (λ lists. files_replied c.args.at c.args.n _ _ lists) c.files.ensures.ok
