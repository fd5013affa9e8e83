use Rattle.std.proofs.lemmas.Result.{on_ok_weaker}
use Rattle.cluster_state.proofs.Rows.{fresh_in}
use Rattle.cluster_core.proofs.Does.{does_was}
use Rattle.cluster_core.proofs.LifeDoes.{reopen_does, reopen_replied}
use Rattle.cluster_core.proofs.cluster.Cluster.reopen.Goals as goal

pub returns-clause-does : goal.returns-clause-does
returns-clause-does g c = on_ok_weaker c.reopen.result
    (λ opens. does_was _ c.args.at _ _ _ c.self.view_is (reopen_does c.args.at c.args.n _ _ (fresh_in c.args.at _ _ c.self.view_is c.requires.fresh) opens)) c.reopen.ensures.ok

pub returns-clause-replied : goal.returns-clause-replied
returns-clause-replied g c = on_ok_weaker c.reopen.result (λ opens. reopen_replied c.args.at c.args.n _ _ opens) c.reopen.ensures.ok
