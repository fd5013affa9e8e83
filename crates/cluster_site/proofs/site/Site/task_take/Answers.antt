use Rattle.std.proofs.Common.{subst}
use Rattle.std.specs.Prelude.{IfOk, OnErr, OnOk}
use Rattle.cluster_state.specs.Run.{IsEnded}
use Rattle.cluster_core.specs.Given.{TakesTask, KeepsButTasks}
use Rattle.cluster_site.proofs.Stands.{task_stands, task_does}
use Rattle.cluster_site.specs.Sites.{SiteRun}
use Rattle.cluster_site.proofs.site.Site.task_take.Goals as goal

pub invariant_of-self : goal.invariant_of-self
invariant_of-self g c = task_stands g.D.Dir.cells g.D.Dir.plans c.self.inside.cluster c.task_take.new.self c.self.inside.log c.args.self.now c.self.view_is c.requires.running c.self.invariant c.args.by c.task_take.result c.task_take.ensures.does c.task_take.ensures.err

pub returns-clause-does : goal.returns-clause-does
returns-clause-does g c = task_does g.D.Dir.cells g.D.Dir.plans c.self.inside.cluster c.task_take.new.self c.self.inside.log c.args.self.now c.self.view_is c.requires.running c.self.invariant c.args.by c.task_take.result c.task_take.ensures.does

-- ---- as the cluster says

pub returns-clause-ok : goal.returns-clause-ok
returns-clause-ok g c =
    subst (λ (s : SiteRun). IfOk c.task_take.result (TakesTask c.args.by s.run c.task_take.new.self)) c.self.view_is c.task_take.ensures.ok

pub returns-clause-rest : goal.returns-clause-rest
returns-clause-rest g c = subst (λ (s : SiteRun). OnOk c.task_take.result (KeepsButTasks s.run c.task_take.new.self)) c.self.view_is c.task_take.ensures.rest

pub returns-clause-err : goal.returns-clause-err
returns-clause-err g c =
    subst (λ (s : SiteRun). OnErr c.task_take.result (IsEnded s.run c.task_take.new.self)) c.self.view_is c.task_take.ensures.err
