use Rattle.std.proofs.Common.{◌≡◌, refl, subst}
use Rattle.std.specs.Prelude.{OnErr, OnOk}
use Rattle.script_serving.specs.declared.script.LineCommand.TheVariants.{Files}
use Rattle.cluster_state.specs.Calls.{ListsFiles}
use Rattle.cluster_state.specs.Run.{IsEnded, KeepsRest}
use Rattle.cluster_site.proofs.Stands.{call_stands, call_does}
use Rattle.cluster_site.specs.Sites.{SiteRun}
use Rattle.cluster_site.proofs.site.Site.files.Goals as goal

pub invariant_of-self : goal.invariant_of-self
invariant_of-self g c = call_stands g.D.Dir.cells g.D.Dir.plans c.self.inside.cluster c.files.new.self c.self.inside.log c.args.self.now c.self.view_is c.requires.running c.self.invariant (Files c.args.n) c.args.at refl c.files.result c.files.ensures.does c.files.ensures.err

pub returns-clause-does : goal.returns-clause-does
returns-clause-does g c = call_does g.D.Dir.cells g.D.Dir.plans c.self.inside.cluster c.files.new.self c.self.inside.log c.args.self.now c.self.view_is c.requires.running c.self.invariant (Files c.args.n) c.args.at refl c.files.result c.files.ensures.does

-- ---- as the cluster says

pub returns-clause-ok : goal.returns-clause-ok
returns-clause-ok g c =
    subst (λ (s : SiteRun). OnOk c.files.result (ListsFiles c.args.at c.args.n s.run c.files.new.self)) c.self.view_is c.files.ensures.ok

pub returns-clause-plans : goal.returns-clause-plans
returns-clause-plans g c = subst (λ (s : SiteRun). OnOk c.files.result (c.files.new.self.rest.plans ≡ s.run.rest.plans)) c.self.view_is c.files.ensures.plans

pub returns-clause-names : goal.returns-clause-names
returns-clause-names g c = subst (λ (s : SiteRun). OnOk c.files.result (c.files.new.self.rest.names ≡ s.run.rest.names)) c.self.view_is c.files.ensures.names

pub returns-clause-rest : goal.returns-clause-rest
returns-clause-rest g c = subst (λ (s : SiteRun). OnOk c.files.result (KeepsRest s.run c.files.new.self)) c.self.view_is c.files.ensures.rest

pub returns-clause-err : goal.returns-clause-err
returns-clause-err g c =
    subst (λ (s : SiteRun). OnErr c.files.result (IsEnded s.run c.files.new.self)) c.self.view_is c.files.ensures.err
