use Rattle.std.proofs.Common.{subst}
use Rattle.std.specs.Prelude.{IfOk, OnErr, OnOk}
use Rattle.cluster_state.specs.Run.{IsEnded}
use Rattle.cluster_core.specs.Given.{PartTurns, KeepsButCopies}
use Rattle.cluster_site.proofs.Stands.{task_stands, task_does}
use Rattle.cluster_site.specs.Sites.{SiteRun}
use Rattle.cluster_site.proofs.site.Site.precopy_arrived.Goals as goal

pub invariant_of-self : goal.invariant_of-self
invariant_of-self g c = task_stands g.D.Dir.cells g.D.Dir.plans c.self.inside.cluster c.precopy_arrived.new.self c.self.inside.log c.args.self.now c.self.view_is c.requires.running c.self.invariant c.args.task.now.by c.precopy_arrived.result c.precopy_arrived.ensures.does c.precopy_arrived.ensures.err

pub returns-clause-does : goal.returns-clause-does
returns-clause-does g c = task_does g.D.Dir.cells g.D.Dir.plans c.self.inside.cluster c.precopy_arrived.new.self c.self.inside.log c.args.self.now c.self.view_is c.requires.running c.self.invariant c.args.task.now.by c.precopy_arrived.result c.precopy_arrived.ensures.does

-- ---- as the cluster says

pub returns-clause-ok : goal.returns-clause-ok
returns-clause-ok g c =
    subst (λ (s : SiteRun). IfOk c.precopy_arrived.result (PartTurns c.args.task.now.line c.args.task.now.seg c.args.task.now.by c.args.copy.node c.args.copy.job c.args.file.now.fate s.run c.precopy_arrived.new.self)) c.self.view_is c.precopy_arrived.ensures.ok

pub returns-clause-rest : goal.returns-clause-rest
returns-clause-rest g c = subst (λ (s : SiteRun). OnOk c.precopy_arrived.result (KeepsButCopies c.args.copy.node.0 c.args.copy.job s.run c.precopy_arrived.new.self)) c.self.view_is c.precopy_arrived.ensures.rest

pub returns-clause-err : goal.returns-clause-err
returns-clause-err g c =
    subst (λ (s : SiteRun). OnErr c.precopy_arrived.result (IsEnded s.run c.precopy_arrived.new.self)) c.self.view_is c.precopy_arrived.ensures.err
