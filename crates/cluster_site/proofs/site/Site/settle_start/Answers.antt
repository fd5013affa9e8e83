use Rattle.std.proofs.Common.{refl, subst}
use Rattle.std.specs.Prelude.{IfOk, OnErr, OnOk}
use Rattle.history_book.specs.Log.{printed}
use Rattle.history_rules.specs.declared.entry.Event.TheVariants.{Settling}
use Rattle.script_serving.specs.declared.script.LineCommand.TheVariants.{Settle}
use Rattle.cluster_state.specs.Copies.{newest_of}
use Rattle.cluster_state.specs.CopyCalls.{SettleStarts}
use Rattle.cluster_state.specs.Run.{IsEnded, KeepsRest}
use Rattle.cluster_core.specs.Doing.{IsBegunAtWork}
use Rattle.cluster_site.proofs.Stands.{call_stands, call_does}
use Rattle.cluster_site.specs.Sites.{SiteRun}
use Rattle.cluster_site.proofs.site.Site.settle_start.Goals as goal

pub invariant_of-self : goal.invariant_of-self
invariant_of-self g c = call_stands g.D.Dir.cells g.D.Dir.plans c.self.inside.cluster c.settle_start.new.self c.self.inside.log c.args.self.now c.self.view_is c.requires.running c.self.invariant Settle c.args.at refl c.settle_start.result c.settle_start.ensures.does c.settle_start.ensures.err

pub returns-clause-does : goal.returns-clause-does
returns-clause-does g c = call_does g.D.Dir.cells g.D.Dir.plans c.self.inside.cluster c.settle_start.new.self c.self.inside.log c.args.self.now c.self.view_is c.requires.running c.self.invariant Settle c.args.at refl c.settle_start.result c.settle_start.ensures.does

-- ---- as the cluster says

pub returns-clause-ok : goal.returns-clause-ok
returns-clause-ok g c =
    subst (λ (s : SiteRun). IfOk c.settle_start.result (SettleStarts c.args.at s.run c.settle_start.new.self)) c.self.view_is c.settle_start.ensures.ok

pub returns-clause-rest : goal.returns-clause-rest
returns-clause-rest g c =
    subst (λ (s : SiteRun). OnOk c.settle_start.result (KeepsRest s.run c.settle_start.new.self)) c.self.view_is c.settle_start.ensures.rest

pub returns-clause-err : goal.returns-clause-err
returns-clause-err g c =
    subst (λ (s : SiteRun). OnErr c.settle_start.result (IsEnded s.run c.settle_start.new.self)) c.self.view_is c.settle_start.ensures.err

pub returns-clause-begun : goal.returns-clause-begun
returns-clause-begun g c =
    subst (λ (s : SiteRun). IfOk c.settle_start.result (IsBegunAtWork c.args.at (λ task. Settling (newest_of (printed s.run.log))) c.settle_start.new.self)) c.self.view_is c.settle_start.ensures.begun
