use Rattle.std.proofs.lemmas.Result.{on_ok_weaker}
use Rattle.cluster_state.proofs.Rows.{fresh_in}
use Rattle.cluster_core.proofs.Does.{accept_does, does_was}
use Rattle.cluster_core.proofs.cluster.Cluster.accept.Goals as goal

pub returns-clause-does : goal.returns-clause-does
returns-clause-does g c = on_ok_weaker c.accept.result
    (λ now. does_was _ c.args.at _ _ _ c.self.view_is (accept_does c.args.op c.args.at _ _ _ (fresh_in c.args.at _ _ c.self.view_is c.requires.fresh) now)) c.accept.ensures.ok
