use Rattle.std.proofs.Common.{subst}
use Rattle.std.proofs.lemmas.Result.{IfOk-weaker}
use Rattle.history_rules.specs.Tickets.{open_ticket}
use Rattle.history_book.specs.Log.{printed}
use Rattle.cluster_state.specs.Run.{Run}
use Rattle.cluster_core.specs.Doing.{IsBegunAtWork}
use Rattle.cluster_state.specs.Calls.{asked_event}
use Rattle.cluster_state.proofs.Rows.{fresh_in}
use Rattle.cluster_core.proofs.Does.{ask_does, ask_begun, does_was}
use Rattle.cluster_core.proofs.cluster.Cluster.ask_start.Goals as goal

pub returns-clause-does : goal.returns-clause-does
returns-clause-does g c = λ query. IfOk-weaker c.ask_start.result _ _
    (λ turn starts. does_was _ c.args.at _ _ _ c.self.view_is (ask_does c.args.at c.args.t query _ _ turn (fresh_in c.args.at _ _ c.self.view_is c.requires.fresh) starts)) c.ask_start.ensures.ok

pub returns-clause-begun : goal.returns-clause-begun
returns-clause-begun g c = IfOk-weaker c.ask_start.result _ _
    (λ turn starts. subst (λ (r : Run). IsBegunAtWork c.args.at (λ lease. asked_event c.args.t (open_ticket c.args.at.lane.0 c.args.t.0 (printed r.log)) lease.version) c.ask_start.new.state turn) c.self.view_is
    (ask_begun c.args.at c.args.t c.self.inside.state c.ask_start.new.state turn (fresh_in c.args.at _ _ c.self.view_is c.requires.fresh) starts)) c.ask_start.ensures.ok
