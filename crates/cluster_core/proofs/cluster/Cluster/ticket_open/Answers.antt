use Rattle.std.proofs.lemmas.Result.{on_ok_weaker}
use Rattle.cluster_state.proofs.Rows.{fresh_in}
use Rattle.cluster_core.proofs.Does.{open_does, does_was}
use Rattle.cluster_core.proofs.cluster.Cluster.ticket_open.Goals as goal

pub returns-clause-does : goal.returns-clause-does
returns-clause-does g c = on_ok_weaker c.ticket_open.result
    (λ now. does_was _ c.args.at _ _ _ c.self.view_is (open_does c.args.at c.args.n c.args.t _ _ (fresh_in c.args.at _ _ c.self.view_is c.requires.fresh) now)) c.ticket_open.ensures.ok
