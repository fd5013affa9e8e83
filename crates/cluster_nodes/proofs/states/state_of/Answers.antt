use Rattle.std.proofs.Common.{◌∙◌}
use Rattle.replica_node.proofs.Lent.{runs_here, none_runs}
use Rattle.cluster_nodes.proofs.RunningJobs.{no_want, want_is}
use Rattle.cluster_nodes.proofs.states.state_of.Goals as goal

pub returns-in_default : goal.returns-in_default
returns-in_default g c = no_want c.args.replica.now.job (none_runs (λ copy. copy.now) c.job.result c.args.replica.now.job c.job.ensures c.in_default.not-Some)

pub returns : goal.returns
returns g c = want_is c.args.replica.now.job c.in-Some.job.now c.in_ok-state.state (runs_here c.args.replica.now.job c.in-Some.job.now c.in-Some.ensures) (c.in_ok-state.ensures ∙ c.want.ensures)
