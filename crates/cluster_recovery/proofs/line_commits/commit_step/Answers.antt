use Rattle.std.proofs.Common.{◌≡◌, ◌==◌, ◌∙◌, true, false, sym, subst}
use Rattle.history_rules.specs.Nodes.{crashes}
use Rattle.history_rules.specs.Lines.{before_start}
use Rattle.history_book.specs.Log.{Log, printed}
use Rattle.cluster_state.specs.LifeCalls.{CommitSteps}
use Rattle.cluster_state.specs.declared.turn.Turn.{Turn}
use Rattle.cluster_state.proofs.LifeRows.{lost_ends}
use Rattle.cluster_recovery.proofs.CommitPaths.{steps_turned}
use Rattle.cluster_recovery.proofs.KeptLives.{commit_same}
use Rattle.cluster_recovery.proofs.line_commits.commit_step.Goals as goal

pub returns-then-not-node_survives-clause-ok : goal.returns-then-not-node_survives-clause-ok
returns-then-not-node_survives-clause-ok g c =
    lost_ends c.args.at c.args.n c.args.v c.args.state.now _
    (subst (λ (l : Log). (crashes c.args.n.0 (printed l) == crashes c.args.n.0 (before_start c.args.at (printed l))) ≡ false) c.book-3.ensures.log (sym c.node_survives.ensures ∙ c.if-not-node_survives.true)) c.in_ok-lose_commit.ensures.ok

pub returns-then-not-node_survives-clause-rest : goal.returns-then-not-node_survives-clause-rest
returns-then-not-node_survives-clause-rest g c =
    commit_same c.args.n.0 c.args.state.now c.lose_commit.new.state c.in_ok-lose_commit.ensures.rest c.in_ok-lose_commit.ensures.plans c.in_ok-lose_commit.ensures.names

pub returns-clause-ok : goal.returns-clause-ok
returns-clause-ok g c =
    subst (λ (turn : Turn (Unit {0})). CommitSteps c.args.at c.args.n c.args.v c.args.state.now c.step_commit.new.cluster turn) (sym c.turn_of.ensures)
    (steps_turned c.args.at c.args.n c.args.v c.args.state.now _
    (subst (λ (l : Log). (crashes c.args.n.0 (printed l) == crashes c.args.n.0 (before_start c.args.at (printed l))) ≡ true) c.book-3.ensures.log (sym c.node_survives.ensures ∙ c.if-not-node_survives.false)) c.in_ok-went.went c.in_ok-went.ensures.ok)
