use Rattle.std.proofs.Common.{refl, subst}
use Rattle.std.specs.Prelude.{IfOk, OnErr}
use Rattle.history_book.specs.Log.{printed}
use Rattle.history_rules.specs.declared.entry.Event.TheVariants.{Copying}
use Rattle.script_serving.specs.declared.script.LineCommand.TheVariants.{Copy}
use Rattle.cluster_state.specs.Copies.{newest_of}
use Rattle.cluster_state.specs.CopyCalls.{CopyStarts, CopyStartsWhen}
use Rattle.cluster_state.specs.Run.{IsEnded}
use Rattle.cluster_core.specs.Doing.{IsBegunAtWork}
use Rattle.cluster_site.proofs.Stands.{call_stands, call_does}
use Rattle.cluster_site.specs.Sites.{SiteRun}
use Rattle.cluster_state.specs.Keeping.{KeepsButBegun}
use Rattle.cluster_site.proofs.site.Site.copy_start.Goals as goal

pub invariant_of-self : goal.invariant_of-self
invariant_of-self g c = call_stands g.D.Dir.cells g.D.Dir.plans c.self.inside.cluster c.copy_start.new.self c.self.inside.log c.args.self.now c.self.view_is c.requires.running c.self.invariant (Copy c.args.n) c.args.at refl c.copy_start.result c.copy_start.ensures.does c.copy_start.ensures.err

pub returns-clause-does : goal.returns-clause-does
returns-clause-does g c = call_does g.D.Dir.cells g.D.Dir.plans c.self.inside.cluster c.copy_start.new.self c.self.inside.log c.args.self.now c.self.view_is c.requires.running c.self.invariant (Copy c.args.n) c.args.at refl c.copy_start.result c.copy_start.ensures.does

-- ---- as the cluster says

pub returns-clause-ok : goal.returns-clause-ok
returns-clause-ok g c =
    subst (λ (s : SiteRun). IfOk c.copy_start.result (CopyStarts c.args.at c.args.n s.run c.copy_start.new.self)) c.self.view_is c.copy_start.ensures.ok

pub returns-clause-rest : goal.returns-clause-rest
returns-clause-rest g c =
    subst (λ (s : SiteRun). IfOk c.copy_start.result (KeepsButBegun s.run c.copy_start.new.self)) c.self.view_is c.copy_start.ensures.rest

pub returns-clause-exact : goal.returns-clause-exact
returns-clause-exact g c =
    subst (λ (s : SiteRun). IfOk c.copy_start.result (CopyStartsWhen c.args.at c.args.n s.run.log)) c.self.view_is c.copy_start.ensures.exact

pub returns-clause-err : goal.returns-clause-err
returns-clause-err g c =
    subst (λ (s : SiteRun). OnErr c.copy_start.result (IsEnded s.run c.copy_start.new.self)) c.self.view_is c.copy_start.ensures.err

pub returns-clause-begun : goal.returns-clause-begun
returns-clause-begun g c =
    subst (λ (s : SiteRun). IfOk c.copy_start.result (IsBegunAtWork c.args.at (λ task. Copying c.args.n (newest_of (printed s.run.log))) c.copy_start.new.self)) c.self.view_is c.copy_start.ensures.begun
