use Rattle.std.proofs.Common.{refl, false, subst, ℕ, ◌==◌, ◌∷◌, ◌≡◌}
use Rattle.std.specs.Prelude.{OnErr, OnOk}
use Rattle.history_book.specs.Log.{printed, shown}
use Rattle.script_serving.specs.declared.script.LineCommand.TheVariants.{Crash}
use Rattle.history_rules.specs.Nodes.{is_running, is_at, primary_of}
use Rattle.cluster_state.specs.LifeCalls.{crash_event, crashed_plans, CrashesDirBy}
use Rattle.cluster_state.specs.GivesUp.{met_log}
use Rattle.cluster_state.specs.Run.{IsEnded, IsNow, files_at, plans_at}
use Rattle.cluster_core.specs.Given.{CrashTells}
use Rattle.cluster_site.proofs.Stands.{call_stands, call_does}
use Rattle.cluster_site.specs.Sites.{SiteRun}
use Rattle.cluster_site.proofs.site.Site.crash.Goals as goal

pub invariant_of-self : goal.invariant_of-self
invariant_of-self g c = call_stands g.D.Dir.cells g.D.Dir.plans c.self.inside.cluster c.crash.new.self c.self.inside.log c.args.self.now c.self.view_is c.requires.running c.self.invariant (Crash c.args.n c.args.pick) c.args.at refl c.crash.result c.crash.ensures.does c.crash.ensures.err

pub returns-clause-does : goal.returns-clause-does
returns-clause-does g c = call_does g.D.Dir.cells g.D.Dir.plans c.self.inside.cluster c.crash.new.self c.self.inside.log c.args.self.now c.self.view_is c.requires.running c.self.invariant (Crash c.args.n c.args.pick) c.args.at refl c.crash.result c.crash.ensures.does

-- ---- as the cluster says

pub returns-clause-ok : goal.returns-clause-ok
returns-clause-ok g c =
    subst (λ (s : SiteRun). OnOk c.crash.result (IsNow s.run c.crash.new.self (shown c.args.at (crash_event c.args.n (printed s.run.log)) ∷ met_log c.args.at s.run c.crash.new.self))) c.self.view_is c.crash.ensures.ok

pub returns-clause-rest : goal.returns-clause-rest
returns-clause-rest g c =
    subst (λ (s : SiteRun). OnOk c.crash.result (CrashTells (is_running c.args.n.0 (printed s.run.log)) (is_at (primary_of (printed s.run.log)) c.args.n.0) c.args.n.0 s.run c.crash.new.self)) c.self.view_is c.crash.ensures.rest

pub returns-clause-stays : goal.returns-clause-stays
returns-clause-stays g c =
    subst (λ (s : SiteRun). OnOk c.crash.result ((m : ℕ) → (c.args.n.0 == m) ≡ false → files_at m c.crash.new.self ≡ files_at m s.run)) c.self.view_is c.crash.ensures.stays

pub returns-clause-plans : goal.returns-clause-plans
returns-clause-plans g c =
    subst (λ (s : SiteRun). OnOk c.crash.result (plans_at c.args.n.0 c.crash.new.self ≡ crashed_plans (is_running c.args.n.0 (printed s.run.log)) (plans_at c.args.n.0 s.run))) c.self.view_is c.crash.ensures.plans

pub returns-clause-dir : goal.returns-clause-dir
returns-clause-dir g c =
    subst (λ (s : SiteRun). OnOk c.crash.result (CrashesDirBy (is_running c.args.n.0 (printed s.run.log)) g.D.Dir.cells g.D.FaultDir.names g.D.FaultDir.leaves c.args.n.0 c.args.pick s.run c.crash.new.self)) c.self.view_is c.crash.ensures.dir

pub returns-clause-err : goal.returns-clause-err
returns-clause-err g c =
    subst (λ (s : SiteRun). OnErr c.crash.result (IsEnded s.run c.crash.new.self)) c.self.view_is c.crash.ensures.err
