use Rattle.std.proofs.Common.{Bool, sym, subst}
use Rattle.std.specs.Prelude.{OnOk}
use Rattle.std.proofs.lemmas.Result.{on_ok_weaker}
use Rattle.history_rules.specs.Nodes.{is_at, primary_of}
use Rattle.history_book.specs.Log.{printed}
use Rattle.cluster_state.specs.LifeCalls.{CrashesDirBy}
use Rattle.cluster_state.proofs.JobsLeft.{files_same}
use Rattle.cluster_state.proofs.LifeRows.{runs_told, crashed, uncrashed, plans_ended, plans_stayed, tasks_ended, tasks_stayed}
use Rattle.cluster_recovery.specs.Crashes.{CrashTells}
use Rattle.cluster_recovery.proofs.line_lives.crash.Goals as goal

pub returns-then-not-runs-clause-ok : goal.returns-then-not-runs-clause-ok
returns-then-not-runs-clause-ok g c =
    uncrashed c.refuse.result c.args.at c.args.n c.args.state.now c.refuse.new.state (runs_told c.args.n.0 _ _ _ _ c.book.ensures.log c.runs.ensures c.if-not-runs.true) c.refuse.ensures.ok c.refuse.ensures.plans

pub returns-then-not-runs-clause-plans : goal.returns-then-not-runs-clause-plans
returns-then-not-runs-clause-plans g c =
    plans_stayed c.refuse.result c.args.at c.args.n c.args.state.now c.refuse.new.state (runs_told c.args.n.0 _ _ _ _ c.book.ensures.log c.runs.ensures c.if-not-runs.true) c.refuse.ensures.plans

pub returns-then-not-runs-clause-stays : goal.returns-then-not-runs-clause-stays
returns-then-not-runs-clause-stays g c = on_ok_weaker c.refuse.result (λ same m apart. files_same m c.args.state.now c.refuse.new.state same) c.refuse.ensures.jobs

pub returns-clause-ok : goal.returns-clause-ok
returns-clause-ok g c =
    crashed c.crash_node.result c.args.at c.args.n c.args.state.now c.crash_node.new.cluster (runs_told c.args.n.0 _ _ _ _ c.book.ensures.log c.runs.ensures c.if-not-runs.false) c.crash_node.ensures.ok

pub returns-clause-plans : goal.returns-clause-plans
returns-clause-plans g c =
    plans_ended c.crash_node.result c.args.at c.args.n c.args.state.now c.crash_node.new.cluster (runs_told c.args.n.0 _ _ _ _ c.book.ensures.log c.runs.ensures c.if-not-runs.false) c.crash_node.ensures.plans

pub returns-then-not-runs-clause-dir : goal.returns-then-not-runs-clause-dir
returns-then-not-runs-clause-dir g c =
    subst (λ (b : Bool). OnOk c.refuse.result (CrashesDirBy b g.D.Dir.cells g.D.FaultDir.names g.D.FaultDir.leaves c.args.n.0 c.args.pick c.args.state.now c.refuse.new.state))
    (sym (runs_told c.args.n.0 _ _ _ _ c.book.ensures.log c.runs.ensures c.if-not-runs.true)) (on_ok_weaker c.refuse.result (λ same. tt) c.refuse.ensures.plans)

pub returns-clause-dir : goal.returns-clause-dir
returns-clause-dir g c =
    subst (λ (b : Bool). OnOk c.crash_node.result (CrashesDirBy b g.D.Dir.cells g.D.FaultDir.names g.D.FaultDir.leaves c.args.n.0 c.args.pick c.args.state.now c.crash_node.new.cluster))
    (sym (runs_told c.args.n.0 _ _ _ _ c.book.ensures.log c.runs.ensures c.if-not-runs.false)) c.crash_node.ensures.dir

pub returns-then-not-runs-clause-tasks : goal.returns-then-not-runs-clause-tasks
returns-then-not-runs-clause-tasks g c =
    tasks_stayed c.refuse.result c.args.at c.args.n c.args.state.now c.refuse.new.state (runs_told c.args.n.0 _ _ _ _ c.book.ensures.log c.runs.ensures c.if-not-runs.true) c.refuse.ensures.tasks

pub returns-then-not-runs-clause-rest : goal.returns-then-not-runs-clause-rest
returns-then-not-runs-clause-rest g c =
    subst (λ (b : Bool). OnOk c.refuse.result (CrashTells b (is_at (primary_of (printed c.args.state.now.log)) c.args.n.0) c.args.n.0 c.args.state.now c.refuse.new.state))
    (sym (runs_told c.args.n.0 _ _ _ _ c.book.ensures.log c.runs.ensures c.if-not-runs.true)) c.refuse.ensures.rest

pub returns-clause-tasks : goal.returns-clause-tasks
returns-clause-tasks g c =
    tasks_ended c.crash_node.result c.args.at c.args.n c.args.state.now c.crash_node.new.cluster (runs_told c.args.n.0 _ _ _ _ c.book.ensures.log c.runs.ensures c.if-not-runs.false) c.crash_node.ensures.tasks

pub returns-clause-rest : goal.returns-clause-rest
returns-clause-rest g c =
    subst (λ (b : Bool). OnOk c.crash_node.result (CrashTells b (is_at (primary_of (printed c.args.state.now.log)) c.args.n.0) c.args.n.0 c.args.state.now c.crash_node.new.cluster))
    (sym (runs_told c.args.n.0 _ _ _ _ c.book.ensures.log c.runs.ensures c.if-not-runs.false)) c.crash_node.ensures.rest
