use Rattle.std.proofs.lemmas.Result.{IfOk-weaker}
use Rattle.cluster_state.proofs.Rows.{fresh_in}
use Rattle.cluster_core.proofs.Does.{search_does, search_begun, does_was}
use Rattle.cluster_core.proofs.cluster.Cluster.search_start.Goals as goal

pub returns-clause-does : goal.returns-clause-does
returns-clause-does g c = λ query. IfOk-weaker c.search_start.result _ _
    (λ turn starts. does_was _ c.args.at _ _ _ c.self.view_is (search_does c.args.at c.args.n query _ _ turn (fresh_in c.args.at _ _ c.self.view_is c.requires.fresh) starts)) c.search_start.ensures.ok

pub returns-clause-begun : goal.returns-clause-begun
returns-clause-begun g c = IfOk-weaker c.search_start.result _ _
    (λ turn starts. search_begun c.args.at c.args.n _ _ turn (fresh_in c.args.at _ _ c.self.view_is c.requires.fresh) starts) c.search_start.ensures.ok
