use Rattle.std.proofs.Common.{◌≡◌, ◌∙◌, ap, subst}
use Rattle.std.specs.Prelude.{OnOk}
use Rattle.std.proofs.lemmas.Result.{on_ok_weaker}
use Rattle.cluster_state.specs.Run.{Rest}
use Rattle.script_serving.specs.declared.script.LineCommand.TheVariants.{Promote}
use Rattle.cluster_site.specs.Sites.{SiteRun}
use Rattle.cluster_site.specs.Replays.{PromotesThen}
use Rattle.cluster_site.proofs.Stands.{runs_was, ended_stands}
use Rattle.cluster_site.proofs.Promotions.{ended_goes, promoted_owes, promoted_goes, promoted_stands, promoted_does, promoted_replied, promoted_whole, promoted_nodes}
use Rattle.cluster_site.proofs.site.Site.promote.Goals as goal

-- ---- the promotion found no memory

pub invariant_of-self : goal.invariant_of-self
invariant_of-self g c = ended_stands g.D.Dir.cells g.D.Dir.plans c.self.inside.cluster c.promote.new.self c.self.inside.log c.args.self.now c.self.view_is c.requires.running c.self.invariant c.in_err-promote.ensures.err

pub returns-in_err-promote-clause-goes : goal.returns-in_err-promote-clause-goes
returns-in_err-promote-clause-goes g c = ended_goes (Promote c.args.n c.args.force) c.args.at c.self.inside.cluster c.promote.new.self c.self.inside.log c.args.self.now c.self.view_is c.in_err-promote.ensures.err

pub returns-in_err-promote-clause-nodes : goal.returns-in_err-promote-clause-nodes
returns-in_err-promote-clause-nodes g c = c.in_err-promote.ensures.err.nodes ∙ ap (λ (s : SiteRun). s.run.nodes) c.self.view_is

-- ---- and what is accepted again behind it

pub accept_lacking-requires-clause-stands : goal.accept_lacking-requires-clause-stands
accept_lacking-requires-clause-stands g c = c.self.invariant.stands (runs_was c.self.inside.cluster c.self.inside.log c.args.self.now c.self.view_is c.requires.running)

pub accept_lacking-requires-clause-owes : goal.accept_lacking-requires-clause-owes
accept_lacking-requires-clause-owes g c = promoted_owes g.D.Dir.cells g.D.Dir.plans c.args.n c.args.force c.args.at c.self.inside.cluster c.promote.new.self c.promote.new.self c.self.inside.log c.args.self.now c.self.view_is c.requires.running c.requires.fresh c.self.invariant c.in_ok-promote.ensures.ok

pub invariant_of-self-2 : goal.invariant_of-self-2
invariant_of-self-2 g c =
    promoted_stands g.D.Dir.cells g.D.Dir.plans c.args.n c.args.force c.args.at c.self.inside.cluster c.promote.new.self c.accept_lacking.new.cluster c.self.inside.log c.args.self.now c.self.view_is c.requires.running c.requires.fresh c.self.invariant c.in_ok-promote.ensures.ok
    c.accept_lacking.ensures.nodes c.in_ok-promote.ensures.replied c.accept_lacking.result c.accept_lacking.new.log c.accept_lacking.ensures.same c.accept_lacking.ensures.ended c.accept_lacking.ensures.done c.accept_lacking.ensures.goes

pub returns-clause-ok : goal.returns-clause-ok
returns-clause-ok g c =
    promoted_whole g.D.Dir.cells g.D.Dir.plans c.args.n c.args.force c.args.at c.self.inside.cluster c.promote.new.self c.accept_lacking.new.cluster c.self.inside.log c.args.self.now c.self.view_is c.requires.running c.requires.fresh c.self.invariant c.in_ok-promote.ensures.ok
    c.accept_lacking.ensures.nodes c.in_ok-promote.ensures.replied c.accept_lacking.result c.accept_lacking.ensures.running (on_ok_weaker c.accept_lacking.result (λ (same : c.accept_lacking.new.cluster.rest ≡ c.promote.new.self.rest). ap (λ (t : Rest). t.plans) same) c.accept_lacking.ensures.rest) c.accept_lacking.ensures.done

pub returns-clause-rest : goal.returns-clause-rest
returns-clause-rest g c =
    subst (λ (s : SiteRun). OnOk c.accept_lacking.result (PromotesThen g.D.Dir.cells c.args.at c.args.n c.args.force s.run c.accept_lacking.new.cluster)) c.self.view_is
    (on_ok_weaker c.accept_lacking.result
    (λ (same : c.accept_lacking.new.cluster.rest ≡ c.promote.new.self.rest). record { mid = c.promote.new.self; behind = c.in_ok-promote.ensures.ok; tells = c.in_ok-promote.ensures.rest; rest = same }) c.accept_lacking.ensures.rest)

pub returns-clause-nodes : goal.returns-clause-nodes
returns-clause-nodes g c =
    promoted_nodes g.D.Dir.cells g.D.Dir.plans c.args.n c.args.force c.args.at c.self.inside.cluster c.promote.new.self c.accept_lacking.new.cluster c.self.inside.log c.args.self.now c.self.view_is c.requires.running c.requires.fresh c.self.invariant c.in_ok-promote.ensures.ok
    c.accept_lacking.ensures.nodes c.in_ok-promote.ensures.replied

pub returns-clause-does : goal.returns-clause-does
returns-clause-does g c =
    promoted_does g.D.Dir.cells g.D.Dir.plans c.args.n c.args.force c.args.at c.self.inside.cluster c.promote.new.self c.accept_lacking.new.cluster c.self.inside.log c.args.self.now c.self.view_is c.requires.running c.requires.fresh c.self.invariant c.in_ok-promote.ensures.ok
    c.accept_lacking.ensures.nodes c.in_ok-promote.ensures.replied c.accept_lacking.result c.accept_lacking.new.log c.accept_lacking.ensures.same c.accept_lacking.ensures.running c.accept_lacking.ensures.done

pub returns-clause-replied : goal.returns-clause-replied
returns-clause-replied g c =
    promoted_replied g.D.Dir.cells g.D.Dir.plans c.args.n c.args.force c.args.at c.self.inside.cluster c.promote.new.self c.accept_lacking.new.cluster c.self.inside.log c.args.self.now c.self.view_is c.requires.running c.requires.fresh c.self.invariant c.in_ok-promote.ensures.ok
    c.accept_lacking.ensures.nodes c.in_ok-promote.ensures.replied c.accept_lacking.result c.accept_lacking.ensures.done

pub returns-clause-goes : goal.returns-clause-goes
returns-clause-goes g c =
    promoted_goes g.D.Dir.cells g.D.Dir.plans c.args.n c.args.force c.args.at c.self.inside.cluster c.promote.new.self c.accept_lacking.new.cluster c.self.inside.log c.args.self.now c.self.view_is c.requires.running c.requires.fresh c.self.invariant c.in_ok-promote.ensures.ok
    c.accept_lacking.ensures.nodes c.in_ok-promote.ensures.replied c.accept_lacking.result c.accept_lacking.ensures.done c.accept_lacking.ensures.goes
