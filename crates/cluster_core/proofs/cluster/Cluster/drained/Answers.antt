use Rattle.std.proofs.Common.{◌≤◌, sym, subst}
use Rattle.std.proofs.lemmas.Result.{IfOk-weaker}
use Rattle.history_book.specs.Told.{counted_for}
use Rattle.cluster_state.proofs.Rows.{fresh_in}
use Rattle.cluster_state.specs.Run.{Run}
use Rattle.cluster_core.proofs.Does.{does_was}
use Rattle.cluster_core.proofs.MergeDoes.{drain_does, drain_replied}
use Rattle.cluster_core.proofs.cluster.Cluster.drained.Goals as goal

pub returns-clause-does : goal.returns-clause-does
returns-clause-does g c = IfOk-weaker c.drained.result _ _
    (λ turn turns. does_was _ c.args.at _ _ _ c.self.view_is
    (drain_does c.args.at c.args.most _ _ turn (subst (λ (r : Run). counted_for c.args.at r.log ≤ c.args.most) (sym c.self.view_is) c.requires.few) (fresh_in c.args.at _ _ c.self.view_is c.requires.fresh) turns)) c.drained.ensures.ok

pub returns-clause-replied : goal.returns-clause-replied
returns-clause-replied g c = IfOk-weaker c.drained.result _ _ (λ turn turns. drain_replied c.args.at c.args.most _ _ turn turns) c.drained.ensures.ok
