use Rattle.std.proofs.Common.{subst}
use Rattle.std.specs.Prelude.{OnErr, OnOk}
use Rattle.cluster_state.specs.Run.{IsEnded}
use Rattle.cluster_core.specs.Given.{EndsBuild, KeepsBuilt}
use Rattle.cluster_site.proofs.Stands.{task_stands, task_does}
use Rattle.cluster_site.specs.Sites.{SiteRun}
use Rattle.merge_tasks.specs.Board.{is_unwritten, open_merge}
use Rattle.cluster_site.proofs.site.Site.merge_ready.Goals as goal

pub invariant_of-self : goal.invariant_of-self
invariant_of-self g c = task_stands g.D.Dir.cells g.D.Dir.plans c.self.inside.cluster c.merge_ready.new.self c.self.inside.log c.args.self.now c.self.view_is c.requires.running c.self.invariant c.args.task.now.by c.merge_ready.result c.merge_ready.ensures.does c.merge_ready.ensures.err

pub returns-clause-does : goal.returns-clause-does
returns-clause-does g c = task_does g.D.Dir.cells g.D.Dir.plans c.self.inside.cluster c.merge_ready.new.self c.self.inside.log c.args.self.now c.self.view_is c.requires.running c.self.invariant c.args.task.now.by c.merge_ready.result c.merge_ready.ensures.does

-- ---- as the cluster says

pub returns-clause-ok : goal.returns-clause-ok
returns-clause-ok g c =
    subst (λ (s : SiteRun). OnOk c.merge_ready.result (EndsBuild c.args.task.now.line c.args.task.now.seg c.args.task.now.by s.run c.merge_ready.new.self (is_unwritten (open_merge c.args.task.now.seg.0 s.run.rest.tasks.rows)))) c.self.view_is c.merge_ready.ensures.ok

pub returns-clause-rest : goal.returns-clause-rest
returns-clause-rest g c = subst (λ (s : SiteRun). OnOk c.merge_ready.result (KeepsBuilt c.args.task.now.seg s.run c.merge_ready.new.self)) c.self.view_is c.merge_ready.ensures.rest

pub returns-clause-err : goal.returns-clause-err
returns-clause-err g c =
    subst (λ (s : SiteRun). OnErr c.merge_ready.result (IsEnded s.run c.merge_ready.new.self)) c.self.view_is c.merge_ready.ensures.err
