use Rattle.std.proofs.Common.{refl, subst, ◌∷◌}
use Rattle.std.specs.Prelude.{OnErr, OnOk}
use Rattle.history_book.specs.Log.{printed, shown}
use Rattle.history_rules.specs.Tickets.{open_ticket}
use Rattle.script_serving.specs.declared.script.LineCommand.TheVariants.{Close}
use Rattle.cluster_state.specs.Calls.{close_by}
use Rattle.cluster_state.specs.GivesUp.{met_log}
use Rattle.cluster_state.specs.Run.{IsEnded, IsNow, KeepsRest}
use Rattle.cluster_site.proofs.Stands.{call_stands, call_does}
use Rattle.cluster_site.specs.Sites.{SiteRun}
use Rattle.cluster_site.proofs.site.Site.ticket_close.Goals as goal

pub invariant_of-self : goal.invariant_of-self
invariant_of-self g c = call_stands g.D.Dir.cells g.D.Dir.plans c.self.inside.cluster c.ticket_close.new.self c.self.inside.log c.args.self.now c.self.view_is c.requires.running c.self.invariant (Close c.args.t) c.args.at refl c.ticket_close.result c.ticket_close.ensures.does c.ticket_close.ensures.err

pub returns-clause-does : goal.returns-clause-does
returns-clause-does g c = call_does g.D.Dir.cells g.D.Dir.plans c.self.inside.cluster c.ticket_close.new.self c.self.inside.log c.args.self.now c.self.view_is c.requires.running c.self.invariant (Close c.args.t) c.args.at refl c.ticket_close.result c.ticket_close.ensures.does

-- ---- as the cluster says

pub returns-clause-ok : goal.returns-clause-ok
returns-clause-ok g c =
    subst (λ (s : SiteRun). OnOk c.ticket_close.result (IsNow s.run c.ticket_close.new.self (shown c.args.at (close_by c.args.t (open_ticket c.args.at.lane.0 c.args.t.0 (printed s.run.log))) ∷ met_log c.args.at s.run c.ticket_close.new.self))) c.self.view_is c.ticket_close.ensures.ok

pub returns-clause-rest : goal.returns-clause-rest
returns-clause-rest g c = subst (λ (s : SiteRun). OnOk c.ticket_close.result (KeepsRest s.run c.ticket_close.new.self)) c.self.view_is c.ticket_close.ensures.rest

pub returns-clause-err : goal.returns-clause-err
returns-clause-err g c =
    subst (λ (s : SiteRun). OnErr c.ticket_close.result (IsEnded s.run c.ticket_close.new.self)) c.self.view_is c.ticket_close.ensures.err
