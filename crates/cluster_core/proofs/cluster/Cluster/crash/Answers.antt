use Rattle.std.proofs.Common.{subst}
use Rattle.std.specs.Prelude.{OnOk}
use Rattle.std.proofs.lemmas.Result.{on_ok_weaker}
use Rattle.history_rules.specs.Nodes.{is_running, is_at, primary_of}
use Rattle.history_book.specs.Log.{printed}
use Rattle.cluster_state.specs.LifeCalls.{CrashesDirBy}
use Rattle.cluster_state.specs.Run.{Run}
use Rattle.cluster_state.proofs.Rows.{fresh_in}
use Rattle.cluster_recovery.specs.Crashes.{CrashTells}
use Rattle.cluster_core.proofs.Does.{does_was}
use Rattle.cluster_core.proofs.LifeDoes.{crash_does, crash_replied}
use Rattle.cluster_core.proofs.cluster.Cluster.crash.Goals as goal

pub returns-clause-does : goal.returns-clause-does
returns-clause-does g c = on_ok_weaker c.crash.result
    (λ now. does_was _ c.args.at _ _ _ c.self.view_is (crash_does c.args.at c.args.n c.args.pick _ _ (fresh_in c.args.at _ _ c.self.view_is c.requires.fresh) now)) c.crash.ensures.ok

pub returns-clause-replied : goal.returns-clause-replied
returns-clause-replied g c = on_ok_weaker c.crash.result (λ now. crash_replied c.args.at c.args.n c.self.inside.state c.crash.new.state now) c.crash.ensures.ok

pub returns-clause-dir : goal.returns-clause-dir
returns-clause-dir g c =
    subst (λ (r : Run). OnOk c.crash.result (CrashesDirBy (is_running c.args.n.0 (printed r.log)) g.D.Dir.cells g.D.FaultDir.names g.D.FaultDir.leaves c.args.n.0 c.args.pick r c.crash.new.state)) c.self.view_is c.crash.ensures.dir

pub returns-clause-rest : goal.returns-clause-rest
returns-clause-rest g c =
    subst (λ (r : Run). OnOk c.crash.result (CrashTells (is_running c.args.n.0 (printed r.log)) (is_at (primary_of (printed r.log)) c.args.n.0) c.args.n.0 r c.crash.new.state)) c.self.view_is c.crash.ensures.rest
