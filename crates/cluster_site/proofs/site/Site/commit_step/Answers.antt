use Rattle.std.proofs.Common.{refl, subst}
use Rattle.std.specs.Prelude.{IfOk, OnErr, OnOk}
use Rattle.script_serving.specs.declared.script.LineCommand.TheVariants.{Commit}
use Rattle.cluster_state.specs.LifeCalls.{CommitSteps}
use Rattle.cluster_state.specs.Run.{IsEnded}
use Rattle.cluster_site.proofs.Stands.{call_stands, call_does}
use Rattle.cluster_site.specs.Sites.{SiteRun}
use Rattle.cluster_state.specs.Keeping.{KeepsButCommit}
use Rattle.cluster_site.proofs.site.Site.commit_step.Goals as goal

pub invariant_of-self : goal.invariant_of-self
invariant_of-self g c = call_stands g.D.Dir.cells g.D.Dir.plans c.self.inside.cluster c.commit_step.new.self c.self.inside.log c.args.self.now c.self.view_is c.requires.running c.self.invariant (Commit c.args.task.now.node) c.args.at refl c.commit_step.result c.commit_step.ensures.does c.commit_step.ensures.err

pub returns-clause-does : goal.returns-clause-does
returns-clause-does g c = call_does g.D.Dir.cells g.D.Dir.plans c.self.inside.cluster c.commit_step.new.self c.self.inside.log c.args.self.now c.self.view_is c.requires.running c.self.invariant (Commit c.args.task.now.node) c.args.at refl c.commit_step.result c.commit_step.ensures.does

-- ---- as the cluster says

pub returns-clause-ok : goal.returns-clause-ok
returns-clause-ok g c =
    subst (λ (s : SiteRun). IfOk c.commit_step.result (CommitSteps c.args.at c.args.task.now.node c.args.task.now.version s.run c.commit_step.new.self)) c.self.view_is c.commit_step.ensures.ok

pub returns-clause-rest : goal.returns-clause-rest
returns-clause-rest g c =
    subst (λ (s : SiteRun). OnOk c.commit_step.result (KeepsButCommit c.args.task.now.node.0 s.run c.commit_step.new.self)) c.self.view_is c.commit_step.ensures.rest

pub returns-clause-err : goal.returns-clause-err
returns-clause-err g c =
    subst (λ (s : SiteRun). OnErr c.commit_step.result (IsEnded s.run c.commit_step.new.self)) c.self.view_is c.commit_step.ensures.err
