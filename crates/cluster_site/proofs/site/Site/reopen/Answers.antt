use Rattle.std.proofs.Common.{refl, subst}
use Rattle.std.specs.Prelude.{OnErr, OnOk}
use Rattle.script_serving.specs.declared.script.LineCommand.TheVariants.{Reopen}
use Rattle.cluster_state.specs.LifeCalls.{ReopensNode}
use Rattle.cluster_state.specs.Run.{IsEnded, names_at, plans_at}
use Rattle.cluster_site.proofs.Stands.{call_stands, call_does}
use Rattle.cluster_site.specs.Sites.{SiteRun}
use Rattle.cluster_state.specs.Keeping.{TellsSameOfOthers, KeepsButNode}
use Rattle.cluster_site.proofs.site.Site.reopen.Goals as goal

pub invariant_of-self : goal.invariant_of-self
invariant_of-self g c = call_stands g.D.Dir.cells g.D.Dir.plans c.self.inside.cluster c.reopen.new.self c.self.inside.log c.args.self.now c.self.view_is c.requires.running c.self.invariant (Reopen c.args.n) c.args.at refl c.reopen.result c.reopen.ensures.does c.reopen.ensures.err

pub returns-clause-does : goal.returns-clause-does
returns-clause-does g c = call_does g.D.Dir.cells g.D.Dir.plans c.self.inside.cluster c.reopen.new.self c.self.inside.log c.args.self.now c.self.view_is c.requires.running c.self.invariant (Reopen c.args.n) c.args.at refl c.reopen.result c.reopen.ensures.does

-- ---- as the cluster says

pub returns-clause-ok : goal.returns-clause-ok
returns-clause-ok g c =
    subst (λ (s : SiteRun). OnOk c.reopen.result (ReopensNode c.args.at c.args.n s.run c.reopen.new.self)) c.self.view_is c.reopen.ensures.ok

pub returns-clause-rest : goal.returns-clause-rest
returns-clause-rest g c =
    subst (λ (s : SiteRun). OnOk c.reopen.result (KeepsButNode c.args.n.0 s.run c.reopen.new.self)) c.self.view_is c.reopen.ensures.rest

pub returns-clause-disks : goal.returns-clause-disks
returns-clause-disks g c =
    subst (λ (s : SiteRun). OnOk c.reopen.result (TellsSameOfOthers plans_at c.args.n.0 s.run c.reopen.new.self)) c.self.view_is c.reopen.ensures.disks

pub returns-clause-names : goal.returns-clause-names
returns-clause-names g c =
    subst (λ (s : SiteRun). OnOk c.reopen.result (TellsSameOfOthers names_at c.args.n.0 s.run c.reopen.new.self)) c.self.view_is c.reopen.ensures.names

pub returns-clause-err : goal.returns-clause-err
returns-clause-err g c =
    subst (λ (s : SiteRun). OnErr c.reopen.result (IsEnded s.run c.reopen.new.self)) c.self.view_is c.reopen.ensures.err
