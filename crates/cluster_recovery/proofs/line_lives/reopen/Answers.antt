use Rattle.std.proofs.lemmas.Result.{on_ok_weaker}
use Rattle.cluster_state.proofs.LifeRows.{reopened, unreopened, runs_told}
use Rattle.cluster_recovery.proofs.KeptLives.{node_same, alike_names, alike_plans}
use Rattle.cluster_recovery.proofs.line_lives.reopen.Goals as goal

pub returns-then-runs-clause-ok : goal.returns-then-runs-clause-ok
returns-then-runs-clause-ok g c =
    unreopened c.refuse.result c.args.at c.args.n c.args.state.now c.refuse.new.state (runs_told c.args.n.0 _ _ _ _ c.book.ensures.log c.runs.ensures c.if-runs.true) c.refuse.ensures.ok c.refuse.ensures.plans

pub returns-then-runs-clause-rest : goal.returns-then-runs-clause-rest
returns-then-runs-clause-rest g c =
    on_ok_weaker c.refuse.result (node_same c.args.n.0 c.args.state.now c.refuse.new.state) c.refuse.ensures.rest

pub returns-then-runs-clause-disks : goal.returns-then-runs-clause-disks
returns-then-runs-clause-disks g c =
    on_ok_weaker c.refuse.result (alike_plans c.args.n.0 c.args.state.now c.refuse.new.state) c.refuse.ensures.plans

pub returns-then-runs-clause-names : goal.returns-then-runs-clause-names
returns-then-runs-clause-names g c =
    on_ok_weaker c.refuse.result (alike_names c.args.n.0 c.args.state.now c.refuse.new.state) c.refuse.ensures.names

pub returns-clause-ok : goal.returns-clause-ok
returns-clause-ok g c =
    on_ok_weaker c.reopen_node.result (reopened c.args.at c.args.n c.args.state.now c.reopen_node.new.cluster (runs_told c.args.n.0 _ _ _ _ c.book.ensures.log c.runs.ensures c.if-runs.false)) c.reopen_node.ensures.ok
