use Rattle.replica_node.proofs.Lent.{none_runs}
use Rattle.cluster_nodes.proofs.JobNumbers.{runs_point, some_runs, none_stops, point_stops}
use Rattle.cluster_nodes.proofs.jobs.stop_job.Goals as goal

pub returns-in_default : goal.returns-in_default
returns-in_default g c = none_stops g.D.Dir.cells c.args.replica.now (none_runs (λ copy. copy.now) c.job.result c.args.replica.now.job c.job.ensures c.in_default.not-Some)

pub fail-requires : goal.fail-requires
fail-requires g c = some_runs c.number-number.result c.in-Some.job.now c.args.replica.now (runs_point c.point_runs.ensures c.number-number.result c.in-Some.job.now c.args.replica.now c.in-Some.ensures c.number-number.ensures)

pub returns : goal.returns
returns g c = point_stops g.D.Dir.cells c.number-number.result c.in-Some.job.now c.args.replica.now c.fail.new.self
    (runs_point c.point_runs.ensures c.number-number.result c.in-Some.job.now c.args.replica.now c.in-Some.ensures c.number-number.ensures)
    c.fail.ensures.kept c.fail.ensures.whole c.fail.ensures.standing c.fail.ensures.sourced c.fail.ensures.appears
