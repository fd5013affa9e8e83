use Rattle.std.proofs.Common.{refl, subst}
use Rattle.std.specs.Prelude.{IfOk, OnErr, OnOk}
use Rattle.script_serving.specs.declared.script.LineCommand.TheVariants.{Drain}
use Rattle.cluster_state.specs.Run.{IsEnded}
use Rattle.cluster_core.specs.Given.{DrainTurns, KeepsButTasks}
use Rattle.cluster_site.proofs.Stands.{call_stands, call_does}
use Rattle.cluster_site.specs.Sites.{SiteRun}
use Rattle.cluster_site.proofs.site.Site.drained.Goals as goal

pub invariant_of-self : goal.invariant_of-self
invariant_of-self g c = call_stands g.D.Dir.cells g.D.Dir.plans c.self.inside.cluster c.drained.new.self c.self.inside.log c.args.self.now c.self.view_is c.requires.running c.self.invariant (Drain c.args.most) c.args.at refl c.drained.result c.drained.ensures.does c.drained.ensures.err

pub returns-clause-does : goal.returns-clause-does
returns-clause-does g c = call_does g.D.Dir.cells g.D.Dir.plans c.self.inside.cluster c.drained.new.self c.self.inside.log c.args.self.now c.self.view_is c.requires.running c.self.invariant (Drain c.args.most) c.args.at refl c.drained.result c.drained.ensures.does

-- ---- as the cluster says

pub returns-clause-ok : goal.returns-clause-ok
returns-clause-ok g c =
    subst (λ (s : SiteRun). IfOk c.drained.result (DrainTurns c.args.at c.args.most s.run c.drained.new.self)) c.self.view_is c.drained.ensures.ok

pub returns-clause-rest : goal.returns-clause-rest
returns-clause-rest g c = subst (λ (s : SiteRun). OnOk c.drained.result (KeepsButTasks s.run c.drained.new.self)) c.self.view_is c.drained.ensures.rest

pub returns-clause-err : goal.returns-clause-err
returns-clause-err g c =
    subst (λ (s : SiteRun). OnErr c.drained.result (IsEnded s.run c.drained.new.self)) c.self.view_is c.drained.ensures.err
