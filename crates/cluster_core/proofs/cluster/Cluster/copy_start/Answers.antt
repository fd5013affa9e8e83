use Rattle.std.proofs.Common.{subst}
use Rattle.std.proofs.lemmas.Result.{IfOk-weaker}
use Rattle.history_rules.specs.declared.entry.Event.TheVariants.{Copying}
use Rattle.history_book.specs.Log.{printed}
use Rattle.cluster_state.specs.Run.{Run}
use Rattle.cluster_state.specs.Copies.{newest_of}
use Rattle.cluster_core.specs.Doing.{IsBegunAtWork}
use Rattle.cluster_state.proofs.Rows.{fresh_in}
use Rattle.cluster_core.proofs.Does.{runs_in}
use Rattle.cluster_core.proofs.CopyDoes.{copy_done, copy_begun}
use Rattle.cluster_core.proofs.cluster.Cluster.copy_start.Goals as goal

pub returns-clause-does : goal.returns-clause-does
returns-clause-does g c = copy_done c.args.at c.args.n c.self.inside.state c.args.self.now c.copy_start.new.state c.copy_start.result c.self.view_is (runs_in _ _ c.self.view_is c.requires.running)
    (fresh_in c.args.at _ _ c.self.view_is c.requires.fresh) c.copy_start.ensures.ok c.copy_start.ensures.exact

pub returns-clause-begun : goal.returns-clause-begun
returns-clause-begun g c = IfOk-weaker c.copy_start.result _ _
    (λ turn starts. subst (λ (r : Run). IsBegunAtWork c.args.at (λ task. Copying c.args.n (newest_of (printed r.log))) c.copy_start.new.state turn) c.self.view_is
    (copy_begun c.args.at c.args.n c.self.inside.state c.copy_start.new.state turn (fresh_in c.args.at _ _ c.self.view_is c.requires.fresh) starts)) c.copy_start.ensures.ok
