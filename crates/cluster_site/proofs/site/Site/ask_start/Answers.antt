use Rattle.std.proofs.Common.{◌≡◌, refl, [], subst}
use Rattle.std.specs.Prelude.{IfOk, OnErr, OnOk}
use Rattle.documents.specs.declared.query.Query.TheVariants.{Word}
use Rattle.history_book.specs.Log.{printed}
use Rattle.history_rules.specs.Tickets.{open_ticket}
use Rattle.script_serving.specs.declared.script.LineCommand.TheVariants.{Ask}
use Rattle.cluster_state.specs.Calls.{AskStarts, asked_event}
use Rattle.cluster_state.specs.Run.{IsEnded, KeepsRest}
use Rattle.cluster_core.specs.Doing.{IsBegunAtWork}
use Rattle.cluster_site.proofs.Stands.{call_stands, call_does}
use Rattle.cluster_site.specs.Sites.{SiteRun}
use Rattle.cluster_site.proofs.site.Site.ask_start.Goals as goal

pub invariant_of-self : goal.invariant_of-self
invariant_of-self g c = call_stands g.D.Dir.cells g.D.Dir.plans c.self.inside.cluster c.ask_start.new.self c.self.inside.log c.args.self.now c.self.view_is c.requires.running c.self.invariant (Ask c.args.t (Word [])) c.args.at refl c.ask_start.result (c.ask_start.ensures.does (Word [])) c.ask_start.ensures.err

pub returns-clause-does : goal.returns-clause-does
returns-clause-does g c = λ query. call_does g.D.Dir.cells g.D.Dir.plans c.self.inside.cluster c.ask_start.new.self c.self.inside.log c.args.self.now c.self.view_is c.requires.running c.self.invariant (Ask c.args.t query) c.args.at refl c.ask_start.result (c.ask_start.ensures.does query)

-- ---- as the cluster says

pub returns-clause-ok : goal.returns-clause-ok
returns-clause-ok g c =
    subst (λ (s : SiteRun). IfOk c.ask_start.result (AskStarts c.args.at c.args.t s.run c.ask_start.new.self)) c.self.view_is c.ask_start.ensures.ok

pub returns-clause-plans : goal.returns-clause-plans
returns-clause-plans g c = subst (λ (s : SiteRun). OnOk c.ask_start.result (c.ask_start.new.self.rest.plans ≡ s.run.rest.plans)) c.self.view_is c.ask_start.ensures.plans

pub returns-clause-names : goal.returns-clause-names
returns-clause-names g c = subst (λ (s : SiteRun). OnOk c.ask_start.result (c.ask_start.new.self.rest.names ≡ s.run.rest.names)) c.self.view_is c.ask_start.ensures.names

pub returns-clause-rest : goal.returns-clause-rest
returns-clause-rest g c = subst (λ (s : SiteRun). OnOk c.ask_start.result (KeepsRest s.run c.ask_start.new.self)) c.self.view_is c.ask_start.ensures.rest

pub returns-clause-err : goal.returns-clause-err
returns-clause-err g c =
    subst (λ (s : SiteRun). OnErr c.ask_start.result (IsEnded s.run c.ask_start.new.self)) c.self.view_is c.ask_start.ensures.err

pub returns-clause-begun : goal.returns-clause-begun
returns-clause-begun g c =
    subst (λ (s : SiteRun). IfOk c.ask_start.result (IsBegunAtWork c.args.at (λ lease. asked_event c.args.t (open_ticket c.args.at.lane.0 c.args.t.0 (printed s.run.log)) lease.version) c.ask_start.new.self)) c.self.view_is c.ask_start.ensures.begun
