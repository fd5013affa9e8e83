use Rattle.cluster_nodes.proofs.EndedJobs.{none_stopped, one_stopped, all_stopped}
use Rattle.cluster_nodes.proofs.ends.stop_jobs.Goals as goal

pub loop-k-init : goal.loop-k-init
loop-k-init g c = none_stopped g.D.Dir.cells c.args.places.now.items

pub loop-k-preserved : goal.loop-k-preserved
loop-k-preserved g c = one_stopped g.D.Dir.cells c.args.places.now.items c.loop-k.places.items c.stop_job_at.new.places.items c.loop-k.k c.loop-k.invariant c.stop_job_at.ensures.count c.stop_job_at.ensures.stops c.stop_job_at.ensures.others
