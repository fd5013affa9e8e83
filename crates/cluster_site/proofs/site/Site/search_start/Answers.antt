use Rattle.std.proofs.Common.{◌≡◌, refl, [], subst}
use Rattle.std.specs.Prelude.{IfOk, OnErr, OnOk}
use Rattle.documents.specs.declared.query.Query.TheVariants.{Word}
use Rattle.script_serving.specs.declared.script.LineCommand.TheVariants.{Search}
use Rattle.cluster_state.specs.Calls.{SearchStarts}
use Rattle.cluster_state.specs.Run.{IsEnded, KeepsRest}
use Rattle.cluster_site.proofs.Stands.{call_stands, call_does}
use Rattle.cluster_site.specs.Sites.{SiteRun}
use Rattle.cluster_site.proofs.site.Site.search_start.Goals as goal

pub invariant_of-self : goal.invariant_of-self
invariant_of-self g c = call_stands g.D.Dir.cells g.D.Dir.plans c.self.inside.cluster c.search_start.new.self c.self.inside.log c.args.self.now c.self.view_is c.requires.running c.self.invariant (Search c.args.n (Word [])) c.args.at refl c.search_start.result (c.search_start.ensures.does (Word [])) c.search_start.ensures.err

pub returns-clause-does : goal.returns-clause-does
returns-clause-does g c = λ query. call_does g.D.Dir.cells g.D.Dir.plans c.self.inside.cluster c.search_start.new.self c.self.inside.log c.args.self.now c.self.view_is c.requires.running c.self.invariant (Search c.args.n query) c.args.at refl c.search_start.result (c.search_start.ensures.does query)

-- ---- as the cluster says

pub returns-clause-ok : goal.returns-clause-ok
returns-clause-ok g c =
    subst (λ (s : SiteRun). IfOk c.search_start.result (SearchStarts c.args.at c.args.n s.run c.search_start.new.self)) c.self.view_is c.search_start.ensures.ok

pub returns-clause-plans : goal.returns-clause-plans
returns-clause-plans g c = subst (λ (s : SiteRun). OnOk c.search_start.result (c.search_start.new.self.rest.plans ≡ s.run.rest.plans)) c.self.view_is c.search_start.ensures.plans

pub returns-clause-names : goal.returns-clause-names
returns-clause-names g c = subst (λ (s : SiteRun). OnOk c.search_start.result (c.search_start.new.self.rest.names ≡ s.run.rest.names)) c.self.view_is c.search_start.ensures.names

pub returns-clause-rest : goal.returns-clause-rest
returns-clause-rest g c = subst (λ (s : SiteRun). OnOk c.search_start.result (KeepsRest s.run c.search_start.new.self)) c.self.view_is c.search_start.ensures.rest

pub returns-clause-err : goal.returns-clause-err
returns-clause-err g c =
    subst (λ (s : SiteRun). OnErr c.search_start.result (IsEnded s.run c.search_start.new.self)) c.self.view_is c.search_start.ensures.err
