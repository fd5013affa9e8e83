use Rattle.std.proofs.Common.{refl, subst}
use Rattle.std.specs.Prelude.{OnErr, OnOk}
use Rattle.script_serving.specs.declared.script.LineCommand.TheVariants.{Fault}
use Rattle.cluster_state.specs.Run.{IsEnded}
use Rattle.cluster_core.specs.Given.{PlansFault}
use Rattle.cluster_site.proofs.Stands.{call_stands, call_does}
use Rattle.cluster_site.specs.Sites.{SiteRun}
use Rattle.cluster_site.proofs.site.Site.fault.Goals as goal

pub invariant_of-self : goal.invariant_of-self
invariant_of-self g c = call_stands g.D.Dir.cells g.D.Dir.plans c.self.inside.cluster c.fault.new.self c.self.inside.log c.args.self.now c.self.view_is c.requires.running c.self.invariant (Fault c.args.n c.args.plan) c.args.at refl c.fault.result c.fault.ensures.does c.fault.ensures.err

pub returns-clause-does : goal.returns-clause-does
returns-clause-does g c = call_does g.D.Dir.cells g.D.Dir.plans c.self.inside.cluster c.fault.new.self c.self.inside.log c.args.self.now c.self.view_is c.requires.running c.self.invariant (Fault c.args.n c.args.plan) c.args.at refl c.fault.result c.fault.ensures.does

-- ---- as the cluster says

pub returns-clause-ok : goal.returns-clause-ok
returns-clause-ok g c =
    subst (λ (s : SiteRun). OnOk c.fault.result (PlansFault c.args.at c.args.n c.args.plan s.run c.fault.new.self)) c.self.view_is c.fault.ensures.ok

pub returns-clause-err : goal.returns-clause-err
returns-clause-err g c =
    subst (λ (s : SiteRun). OnErr c.fault.result (IsEnded s.run c.fault.new.self)) c.self.view_is c.fault.ensures.err
