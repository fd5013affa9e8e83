use Rattle.std.proofs.Common.{◌∙◌}
use Rattle.replica_node.proofs.Lent.{runs_here, none_lent}
use Rattle.cluster_nodes.proofs.RunningJobs.{out_of_job}
use Rattle.cluster_nodes.proofs.Stepping.{alters_by}
use Rattle.cluster_nodes.proofs.Stopping.{stops_for}
use Rattle.cluster_nodes.proofs.jobs.stop_for.Goals as goal

pub unreachable-requires : goal.unreachable-requires
unreachable-requires g c = none_lent (λ copy. copy.now) c.job.result c.args.replica.now.job c.job.ensures c.requires.some c.in_default.not-Some

pub give_back-requires : goal.give_back-requires
give_back-requires g c = record {
  out = out_of_job c.args.replica.now.job c.in-Some.job.now c.in_ok-state.state c.args.primary.now (runs_here c.args.replica.now.job c.in-Some.job.now c.in-Some.ensures) (c.in_ok-state.ensures ∙ c.want.ensures) c.requires.out;
}

pub returns : goal.returns
returns g c = stops_for g.D.Dir.cells c.args.primary.now c.give_back.new.self c.args.replica.now c.stop_job.new.replica c.in_ok-state.state c.in-Some.job.now (runs_here c.args.replica.now.job c.in-Some.job.now c.in-Some.ensures) (c.in_ok-state.ensures ∙ c.want.ensures)
    (alters_by g.D.Dir.cells c.args.primary.now c.give_back.new.self c.give_back.ensures.stays c.give_back.ensures.no_new c.give_back.ensures.appears c.give_back.ensures.others (λ w. c.give_back.ensures.whole)) c.give_back.ensures.states c.stop_job.ensures
