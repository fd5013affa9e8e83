use Rattle.std.proofs.Common.{refl}
use Rattle.std.proofs.lemmas.Result.{on_ok_weaker}
use Rattle.cluster_state.proofs.Rows.{fresh_in}
use Rattle.cluster_core.proofs.Does.{close_does, close_replied, does_was}
use Rattle.cluster_core.proofs.cluster.Cluster.ticket_close.Goals as goal

pub returns-clause-does : goal.returns-clause-does
returns-clause-does g c = on_ok_weaker c.ticket_close.result
    (λ now. does_was _ c.args.at _ _ _ c.self.view_is (close_does c.args.at c.args.t _ _ _ refl (fresh_in c.args.at _ _ c.self.view_is c.requires.fresh) now)) c.ticket_close.ensures.ok

pub returns-clause-replied : goal.returns-clause-replied
returns-clause-replied g c = on_ok_weaker c.ticket_close.result (λ now. close_replied c.args.at c.args.t c.self.inside.state c.ticket_close.new.state _ now) c.ticket_close.ensures.ok
