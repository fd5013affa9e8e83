use Rattle.std.proofs.Common.{◌∙◌, sym}
use Rattle.std.proofs.lemmas.Result.{IfOk-weaker}
use Rattle.cluster_state.proofs.Rows.{fresh_in}
use Rattle.cluster_core.proofs.Does.{publish_does, publish_begun, does_was, runs_in}
use Rattle.cluster_core.proofs.NoneTold.{on_starts}
use Rattle.cluster_core.proofs.cluster.Cluster.publish_start.Goals as goal

pub returns-clause-does : goal.returns-clause-does
returns-clause-does g c = IfOk-weaker c.publish_start.result _ _
    (λ turn starts. does_was _ c.args.at _ _ _ c.self.view_is
    (publish_does c.args.at _ _ turn (runs_in _ _ c.self.view_is c.requires.running) (fresh_in c.args.at _ _ c.self.view_is c.requires.fresh) starts)) c.publish_start.ensures.ok

pub returns-clause-none : goal.returns-clause-none
returns-clause-none g c = on_starts c.args.at c.self.inside.state c.args.self.now c.publish_start.new.state c.publish_start.result c.self.view_is (sym c.has_cut_over.ensures.is ∙ c.has_cut_over.ensures.since) c.publish_start.ensures.ok

pub returns-clause-begun : goal.returns-clause-begun
returns-clause-begun g c = IfOk-weaker c.publish_start.result _ _
    (λ turn starts. publish_begun c.args.at _ _ turn (fresh_in c.args.at _ _ c.self.view_is c.requires.fresh) starts) c.publish_start.ensures.ok
