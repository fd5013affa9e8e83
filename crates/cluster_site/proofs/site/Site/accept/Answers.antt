use Rattle.std.proofs.Common.{◌≡◌, ◌+◌, ◌∙◌, ◌∷◌, refl, ap, sym, subst}
use Rattle.std.specs.Prelude.{OnOk, OnErr, is_some}
use Rattle.history_rules.specs.declared.entry.Event.TheVariants.{Accepted}
use Rattle.history_rules.specs.Nodes.{accepted_count}
use Rattle.history_book.specs.Log.{printed, shown}
use Rattle.script_serving.specs.Refusals.{without_primary}
use Rattle.cluster_state.specs.Run.{IsNow, IsEnded, KeepsRest}
use Rattle.cluster_state.specs.Calls.{by_refusal}
use Rattle.cluster_site.specs.Sites.{SiteRun}
use Rattle.cluster_site.proofs.Stands.{runs_was}
use Rattle.cluster_site.proofs.Accepts.{refused_stands, unlogged_stands, accept_stands, accept_does, kept_same, kept_more}
use Rattle.cluster_site.proofs.site.Site.accept.Goals as goal

-- ---- no primary runs

pub invariant_of-self : goal.invariant_of-self
invariant_of-self g c =
    refused_stands g.D.Dir.cells g.D.Dir.plans c.self.inside.cluster c.accept.new.self c.self.inside.log c.self.inside.log c.args.self.now c.args.op c.args.at (accepted_count (printed c.self.inside.cluster.log) + 1) c.self.view_is c.requires.running c.self.invariant
    c.accept.result (sym c.next_accept.ensures.primary ∙ ap is_some c.in_default.is) c.accept.ensures.ok c.accept.ensures.does c.accept.ensures.err

pub returns-in_default-clause-ok : goal.returns-in_default-clause-ok
returns-in_default-clause-ok g c =
    subst (λ (s : SiteRun). OnOk c.accept.result (IsNow s.run c.accept.new.self (shown c.args.at (by_refusal (without_primary (printed s.run.log)) (Accepted (accepted_count (printed s.run.log) + 1) c.args.op)) ∷ s.run.log))) c.self.view_is c.accept.ensures.ok

pub returns-in_default-clause-plans : goal.returns-in_default-clause-plans
returns-in_default-clause-plans g c = subst (λ (s : SiteRun). OnOk c.accept.result (c.accept.new.self.rest.plans ≡ s.run.rest.plans)) c.self.view_is c.accept.ensures.plans

pub returns-in_default-clause-names : goal.returns-in_default-clause-names
returns-in_default-clause-names g c = subst (λ (s : SiteRun). OnOk c.accept.result (c.accept.new.self.rest.names ≡ s.run.rest.names)) c.self.view_is c.accept.ensures.names

pub returns-in_default-clause-rest : goal.returns-in_default-clause-rest
returns-in_default-clause-rest g c = subst (λ (s : SiteRun). OnOk c.accept.result (KeepsRest s.run c.accept.new.self)) c.self.view_is c.accept.ensures.rest

pub returns-in_default-clause-err : goal.returns-in_default-clause-err
returns-in_default-clause-err g c = subst (λ (s : SiteRun). OnErr c.accept.result (IsEnded s.run c.accept.new.self)) c.self.view_is c.accept.ensures.err

pub returns-in_default-clause-does : goal.returns-in_default-clause-does
returns-in_default-clause-does g c =
    accept_does g.D.Dir.cells g.D.Dir.plans c.self.inside.cluster c.accept.new.self c.self.inside.log c.self.inside.log c.args.self.now c.args.op c.args.at (accepted_count (printed c.self.inside.cluster.log) + 1) c.self.view_is c.requires.running c.self.invariant
    c.accept.result refl c.accept.ensures.does

pub returns-in_default-clause-kept : goal.returns-in_default-clause-kept
returns-in_default-clause-kept g c = λ few. kept_same c.self.inside.cluster c.self.inside.log c.self.inside.log c.args.self.now c.args.op c.self.view_is c.accept.result (sym c.next_accept.ensures.primary ∙ ap is_some c.in_default.is) refl

-- ---- one runs: the log comes first

pub note-requires : goal.note-requires
note-requires g c = c.self.invariant.stands (runs_was c.self.inside.cluster c.self.inside.log c.args.self.now c.self.view_is c.requires.running)

pub invariant_of-self-in-Err : goal.invariant_of-self-in-Err
invariant_of-self-in-Err g c =
    unlogged_stands g.D.Dir.cells g.D.Dir.plans c.self.inside.cluster c.end.new.self c.self.inside.log c.note.new.log c.args.self.now c.args.op c.args.at (accepted_count (printed c.self.inside.cluster.log) + 1) c.self.view_is c.requires.running c.self.invariant
    c.note.ensures.same c.end.ensures

pub returns-in-Err-clause-err : goal.returns-in-Err-clause-err
returns-in-Err-clause-err g c = subst (λ (s : SiteRun). IsEnded s.run c.end.new.self) c.self.view_is c.end.ensures

pub invariant_of-self-in-Ok : goal.invariant_of-self-in-Ok
invariant_of-self-in-Ok g c =
    accept_stands g.D.Dir.cells g.D.Dir.plans c.self.inside.cluster c.accept-in-Ok.new.self c.self.inside.log c.note.new.log c.args.self.now c.args.op c.args.at (accepted_count (printed c.self.inside.cluster.log) + 1) c.self.view_is c.requires.running c.self.invariant
    c.accept-in-Ok.result _ refl c.requires.fresh (sym c.next_accept.ensures.primary ∙ ap is_some c.in-Some.is) c.accept-in-Ok.ensures.ok c.accept-in-Ok.ensures.does c.accept-in-Ok.ensures.err c.in-Ok.ensures.records c.in-Ok.ensures.stands

pub returns-in-Ok-clause-ok : goal.returns-in-Ok-clause-ok
returns-in-Ok-clause-ok g c =
    subst (λ (s : SiteRun). OnOk c.accept-in-Ok.result (IsNow s.run c.accept-in-Ok.new.self (shown c.args.at (by_refusal (without_primary (printed s.run.log)) (Accepted (accepted_count (printed s.run.log) + 1) c.args.op)) ∷ s.run.log))) c.self.view_is c.accept-in-Ok.ensures.ok

pub returns-in-Ok-clause-plans : goal.returns-in-Ok-clause-plans
returns-in-Ok-clause-plans g c = subst (λ (s : SiteRun). OnOk c.accept-in-Ok.result (c.accept-in-Ok.new.self.rest.plans ≡ s.run.rest.plans)) c.self.view_is c.accept-in-Ok.ensures.plans

pub returns-in-Ok-clause-names : goal.returns-in-Ok-clause-names
returns-in-Ok-clause-names g c = subst (λ (s : SiteRun). OnOk c.accept-in-Ok.result (c.accept-in-Ok.new.self.rest.names ≡ s.run.rest.names)) c.self.view_is c.accept-in-Ok.ensures.names

pub returns-in-Ok-clause-rest : goal.returns-in-Ok-clause-rest
returns-in-Ok-clause-rest g c = subst (λ (s : SiteRun). OnOk c.accept-in-Ok.result (KeepsRest s.run c.accept-in-Ok.new.self)) c.self.view_is c.accept-in-Ok.ensures.rest

pub returns-in-Ok-clause-err : goal.returns-in-Ok-clause-err
returns-in-Ok-clause-err g c = subst (λ (s : SiteRun). OnErr c.accept-in-Ok.result (IsEnded s.run c.accept-in-Ok.new.self)) c.self.view_is c.accept-in-Ok.ensures.err

pub returns-in-Ok-clause-does : goal.returns-in-Ok-clause-does
returns-in-Ok-clause-does g c =
    accept_does g.D.Dir.cells g.D.Dir.plans c.self.inside.cluster c.accept-in-Ok.new.self c.self.inside.log c.note.new.log c.args.self.now c.args.op c.args.at (accepted_count (printed c.self.inside.cluster.log) + 1) c.self.view_is c.requires.running c.self.invariant
    c.accept-in-Ok.result c.note.ensures.same c.accept-in-Ok.ensures.does

pub returns-in-Ok-clause-kept : goal.returns-in-Ok-clause-kept
returns-in-Ok-clause-kept g c =
    kept_more c.self.inside.cluster c.self.inside.log c.note.new.log c.args.self.now c.args.op c.self.view_is c.accept-in-Ok.result _ refl (sym c.next_accept.ensures.primary ∙ ap is_some c.in-Some.is)
    c.in-Some.ensures.generation c.in-Some.ensures.number c.in-Ok.ensures.records
