use Rattle.std.proofs.Common.{refl}
use Rattle.cluster_recovery.proofs.KeptLives.{commit_same, commit_refused}
use Rattle.cluster_recovery.proofs.line_commits.commit_start.Goals as goal

pub returns-then-not-runs-clause-rest : goal.returns-then-not-runs-clause-rest
returns-then-not-runs-clause-rest g c = commit_refused c.refuse_turn.result c.args.n.0 c.args.state.now c.refuse_turn.new.state c.refuse_turn.ensures.rest c.refuse_turn.ensures.plans c.refuse_turn.ensures.names

pub returns-then-is_some-clause-rest : goal.returns-then-is_some-clause-rest
returns-then-is_some-clause-rest g c = commit_same c.args.n.0 c.args.state.now c.args.state.now refl refl refl
