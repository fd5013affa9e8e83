use Rattle.std.proofs.Common.{◌≡◌, refl, subst, ◌∷◌}
use Rattle.std.specs.Prelude.{OnErr, OnOk}
use Rattle.history_book.specs.Log.{printed, shown}
use Rattle.script_serving.specs.declared.script.LineCommand.TheVariants.{Open}
use Rattle.cluster_state.specs.Calls.{open_event}
use Rattle.cluster_state.specs.Run.{IsEnded, IsNow, KeepsRest}
use Rattle.cluster_site.proofs.Stands.{call_stands, call_does}
use Rattle.cluster_site.specs.Sites.{SiteRun}
use Rattle.cluster_site.proofs.site.Site.ticket_open.Goals as goal

pub invariant_of-self : goal.invariant_of-self
invariant_of-self g c = call_stands g.D.Dir.cells g.D.Dir.plans c.self.inside.cluster c.ticket_open.new.self c.self.inside.log c.args.self.now c.self.view_is c.requires.running c.self.invariant (Open c.args.n c.args.t) c.args.at refl c.ticket_open.result c.ticket_open.ensures.does c.ticket_open.ensures.err

pub returns-clause-does : goal.returns-clause-does
returns-clause-does g c = call_does g.D.Dir.cells g.D.Dir.plans c.self.inside.cluster c.ticket_open.new.self c.self.inside.log c.args.self.now c.self.view_is c.requires.running c.self.invariant (Open c.args.n c.args.t) c.args.at refl c.ticket_open.result c.ticket_open.ensures.does

-- ---- as the cluster says

pub returns-clause-ok : goal.returns-clause-ok
returns-clause-ok g c =
    subst (λ (s : SiteRun). OnOk c.ticket_open.result (IsNow s.run c.ticket_open.new.self (shown c.args.at (open_event c.args.at.lane.0 c.args.n c.args.t (printed s.run.log)) ∷ s.run.log))) c.self.view_is c.ticket_open.ensures.ok

pub returns-clause-plans : goal.returns-clause-plans
returns-clause-plans g c = subst (λ (s : SiteRun). OnOk c.ticket_open.result (c.ticket_open.new.self.rest.plans ≡ s.run.rest.plans)) c.self.view_is c.ticket_open.ensures.plans

pub returns-clause-names : goal.returns-clause-names
returns-clause-names g c = subst (λ (s : SiteRun). OnOk c.ticket_open.result (c.ticket_open.new.self.rest.names ≡ s.run.rest.names)) c.self.view_is c.ticket_open.ensures.names

pub returns-clause-rest : goal.returns-clause-rest
returns-clause-rest g c = subst (λ (s : SiteRun). OnOk c.ticket_open.result (KeepsRest s.run c.ticket_open.new.self)) c.self.view_is c.ticket_open.ensures.rest

pub returns-clause-err : goal.returns-clause-err
returns-clause-err g c =
    subst (λ (s : SiteRun). OnErr c.ticket_open.result (IsEnded s.run c.ticket_open.new.self)) c.self.view_is c.ticket_open.ensures.err
