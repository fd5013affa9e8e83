use Rattle.std.proofs.Common.{subst}
use Rattle.std.specs.Prelude.{IfOk, OnErr, OnOk}
use Rattle.cluster_state.specs.Run.{IsEnded}
use Rattle.cluster_core.specs.Given.{CutTurns, KeepsButCut}
use Rattle.cluster_site.proofs.Stands.{task_stands, task_does}
use Rattle.cluster_site.specs.Sites.{SiteRun}
use Rattle.cluster_site.proofs.site.Site.merge_cut.Goals as goal

pub invariant_of-self : goal.invariant_of-self
invariant_of-self g c = task_stands g.D.Dir.cells g.D.Dir.plans c.self.inside.cluster c.merge_cut.new.self c.self.inside.log c.args.self.now c.self.view_is c.requires.running c.self.invariant c.args.task.now.by c.merge_cut.result c.merge_cut.ensures.does c.merge_cut.ensures.err

pub returns-clause-does : goal.returns-clause-does
returns-clause-does g c = task_does g.D.Dir.cells g.D.Dir.plans c.self.inside.cluster c.merge_cut.new.self c.self.inside.log c.args.self.now c.self.view_is c.requires.running c.self.invariant c.args.task.now.by c.merge_cut.result c.merge_cut.ensures.does

-- ---- as the cluster says

pub returns-clause-ok : goal.returns-clause-ok
returns-clause-ok g c =
    subst (λ (s : SiteRun). IfOk c.merge_cut.result (CutTurns c.args.task.now.line c.args.task.now.seg c.args.task.now.by s.run c.merge_cut.new.self)) c.self.view_is c.merge_cut.ensures.ok

pub returns-clause-rest : goal.returns-clause-rest
returns-clause-rest g c = subst (λ (s : SiteRun). OnOk c.merge_cut.result (KeepsButCut s.run c.merge_cut.new.self)) c.self.view_is c.merge_cut.ensures.rest

pub returns-clause-err : goal.returns-clause-err
returns-clause-err g c =
    subst (λ (s : SiteRun). OnErr c.merge_cut.result (IsEnded s.run c.merge_cut.new.self)) c.self.view_is c.merge_cut.ensures.err
