use Rattle.cluster_state.proofs.JobLaw.{job_below}
use Rattle.cluster_state.proofs.MergingPaths.{two_parts}
use Rattle.cluster_state.proofs.cluster.ClusterState.job_low.Goals as goal

pub returns : goal.returns
returns g c = job_below g.D.Dir.cells c.args.self.now _ c.self.inside.ledger _ c.args.n.0 c.self.view_is (two_parts c.self.invariant) c.requires.running c.requires.node c.requires.replica
