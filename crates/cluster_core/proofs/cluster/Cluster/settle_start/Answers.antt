use Rattle.std.proofs.Common.{subst}
use Rattle.std.proofs.lemmas.Result.{IfOk-weaker}
use Rattle.history_rules.specs.declared.entry.Event.TheVariants.{Settling}
use Rattle.history_book.specs.Log.{printed}
use Rattle.cluster_state.specs.Run.{Run}
use Rattle.cluster_state.specs.Copies.{newest_of}
use Rattle.cluster_core.specs.Doing.{IsBegunAtWork}
use Rattle.cluster_state.proofs.Rows.{fresh_in}
use Rattle.cluster_core.proofs.Does.{does_was}
use Rattle.cluster_core.proofs.CopyDoes.{settle_does, settle_begun}
use Rattle.cluster_core.proofs.cluster.Cluster.settle_start.Goals as goal

pub returns-clause-does : goal.returns-clause-does
returns-clause-does g c = IfOk-weaker c.settle_start.result _ _
    (λ turn starts. does_was _ c.args.at _ _ _ c.self.view_is (settle_does c.args.at _ _ turn (fresh_in c.args.at _ _ c.self.view_is c.requires.fresh) starts)) c.settle_start.ensures.ok

pub returns-clause-begun : goal.returns-clause-begun
returns-clause-begun g c = IfOk-weaker c.settle_start.result _ _
    (λ turn starts. subst (λ (r : Run). IsBegunAtWork c.args.at (λ task. Settling (newest_of (printed r.log))) c.settle_start.new.state turn) c.self.view_is
    (settle_begun c.args.at c.self.inside.state c.settle_start.new.state turn (fresh_in c.args.at _ _ c.self.view_is c.requires.fresh) starts)) c.settle_start.ensures.ok
