use Rattle.std.proofs.Common.{refl, subst}
use Rattle.std.specs.Prelude.{IfOk, OnErr}
use Rattle.script_serving.specs.declared.script.LineCommand.TheVariants.{Settle}
use Rattle.cluster_state.specs.CopyCalls.{SettleGoesOn}
use Rattle.cluster_state.specs.Run.{IsEnded}
use Rattle.cluster_site.proofs.Stands.{call_stands, call_does}
use Rattle.cluster_site.specs.Sites.{SiteRun}
use Rattle.cluster_state.specs.Keeping.{KeepsButBegun}
use Rattle.cluster_site.proofs.site.Site.settle_next.Goals as goal

pub invariant_of-self : goal.invariant_of-self
invariant_of-self g c = call_stands g.D.Dir.cells g.D.Dir.plans c.self.inside.cluster c.settle_next.new.self c.self.inside.log c.args.self.now c.self.view_is c.requires.running c.self.invariant Settle c.args.at refl c.settle_next.result c.settle_next.ensures.does c.settle_next.ensures.err

pub returns-clause-does : goal.returns-clause-does
returns-clause-does g c = call_does g.D.Dir.cells g.D.Dir.plans c.self.inside.cluster c.settle_next.new.self c.self.inside.log c.args.self.now c.self.view_is c.requires.running c.self.invariant Settle c.args.at refl c.settle_next.result c.settle_next.ensures.does

-- ---- as the cluster says

pub returns-clause-ok : goal.returns-clause-ok
returns-clause-ok g c =
    subst (λ (s : SiteRun). IfOk c.settle_next.result (SettleGoesOn c.args.at s.run c.settle_next.new.self c.settle_next.new.task)) c.self.view_is c.settle_next.ensures.ok

pub returns-clause-rest : goal.returns-clause-rest
returns-clause-rest g c =
    subst (λ (s : SiteRun). IfOk c.settle_next.result (KeepsButBegun s.run c.settle_next.new.self)) c.self.view_is c.settle_next.ensures.rest

pub returns-clause-err : goal.returns-clause-err
returns-clause-err g c =
    subst (λ (s : SiteRun). OnErr c.settle_next.result (IsEnded s.run c.settle_next.new.self)) c.self.view_is c.settle_next.ensures.err
