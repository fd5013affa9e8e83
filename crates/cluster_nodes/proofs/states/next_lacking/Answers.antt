use Rattle.replica_node.proofs.Lent.{runs_here, none_lent}
use Rattle.cluster_nodes.proofs.JobFiles.{next_lent}
use Rattle.cluster_nodes.proofs.states.next_lacking.Goals as goal

pub unreachable-requires : goal.unreachable-requires
unreachable-requires g c = none_lent (λ copy. copy.now) c.job.result c.args.replica.now.job c.job.ensures c.requires c.in_default.not-Some

pub returns : goal.returns
returns g c = next_lent c.args.replica.now.job c.in-Some.job.now c.next_file.result (runs_here c.args.replica.now.job c.in-Some.job.now c.in-Some.ensures) c.next_file.ensures
