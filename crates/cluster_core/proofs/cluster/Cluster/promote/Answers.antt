use Rattle.std.proofs.Common.{subst}
use Rattle.std.specs.Prelude.{OnOk}
use Rattle.std.proofs.lemmas.Result.{on_ok_weaker}
use Rattle.history_book.specs.Log.{printed}
use Rattle.script_serving.specs.declared.script.LineCommand.TheVariants.{Promote}
use Rattle.script_serving.specs.Refusals.{refusal}
use Rattle.cluster_state.specs.Run.{Run}
use Rattle.cluster_state.proofs.Rows.{fresh_in}
use Rattle.cluster_recovery.specs.Promotions.{PromoteTells}
use Rattle.cluster_core.proofs.Does.{does_was}
use Rattle.cluster_core.proofs.PromoteDoes.{promote_does, promote_replied}
use Rattle.cluster_core.proofs.cluster.Cluster.promote.Goals as goal

pub returns-clause-does : goal.returns-clause-does
returns-clause-does g c = on_ok_weaker c.promote.result
    (λ now. does_was _ c.args.at _ _ _ c.self.view_is (promote_does c.args.at c.args.n c.args.force _ _ (fresh_in c.args.at _ _ c.self.view_is c.requires.fresh) now)) c.promote.ensures.ok

pub returns-clause-replied : goal.returns-clause-replied
returns-clause-replied g c = on_ok_weaker c.promote.result (promote_replied c.args.at c.args.n c.args.force _ _) c.promote.ensures.ok

pub returns-clause-rest : goal.returns-clause-rest
returns-clause-rest g c =
    subst (λ (r : Run). OnOk c.promote.result (PromoteTells g.D.Dir.cells (refusal (Promote c.args.n c.args.force) c.args.at.lane.0 (printed r.log)) c.args.n.0 r c.promote.new.state)) c.self.view_is c.promote.ensures.rest
