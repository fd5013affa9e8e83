use Rattle.std.proofs.Common.{◌≡◌, ◌∙◌, Err, refl, sym, subst, ap, is_some, []}
use Rattle.disk_model.specs.Disk.{reads_of}
use Rattle.copy_job.specs.Jobs.{reads_under}
use Rattle.searcher_switch.specs.Standing.{StandsForSome}
use Rattle.replica_node.proofs.Lent.{runs_here, job_has, none_lent, job_named}
use Rattle.cluster_nodes.proofs.RunningJobs.{out_of_job}
use Rattle.cluster_nodes.proofs.Stepping.{finishes, alters_by}
use Rattle.cluster_nodes.proofs.Stopping.{stops_finishing, dir_failed}
use Rattle.cluster_nodes.proofs.jobs.finish_job.Goals as goal

pub unreachable-requires : goal.unreachable-requires
unreachable-requires g c = none_lent (λ copy. copy.now) c.job.result c.args.replica.now.job c.job.ensures c.requires.some c.in_default.not-Some

pub finish-requires-clause-runs : goal.finish-requires-clause-runs
finish-requires-clause-runs g c = job_named c.args.replica.now.job c.in-Some.job.now c.number-number.result (runs_here c.args.replica.now.job c.in-Some.job.now c.in-Some.ensures) c.number-number.ensures

pub finish-requires-clause-some : goal.finish-requires-clause-some
finish-requires-clause-some g c = ap is_some (runs_here c.args.replica.now.job c.in-Some.job.now c.in-Some.ensures).there

pub finish-requires-clause-complete : goal.finish-requires-clause-complete
finish-requires-clause-complete g c = job_has (λ j. j.copy.missing ≡ []) c.args.replica.now.job c.in-Some.job.now (runs_here c.args.replica.now.job c.in-Some.job.now c.in-Some.ensures) c.requires.complete

pub finish-requires-clause-standing : goal.finish-requires-clause-standing
finish-requires-clause-standing g c =
    job_has (λ j. StandsForSome (reads_under j.copy.parts (reads_of (g.D.Dir.cells c.args.replica.now.dir))) j.infos) c.args.replica.now.job c.in-Some.job.now (runs_here c.args.replica.now.job c.in-Some.job.now c.in-Some.ensures) c.requires.standing

pub give_back-requires : goal.give_back-requires
give_back-requires g c = record {
  out = out_of_job c.args.replica.now.job c.in-Some.job.now c.in_ok-state.state c.args.primary.now (runs_here c.args.replica.now.job c.in-Some.job.now c.in-Some.ensures) (c.in_ok-state.ensures ∙ c.want.ensures) c.requires.out;
}

pub returns-in-Ok : goal.returns-in-Ok
returns-in-Ok g c = finishes g.D.Dir.cells c.args.primary.now c.give_back.new.self c.args.replica.now c.finish.new.self c.in_ok-state.state c.in-Some.job.now (runs_here c.args.replica.now.job c.in-Some.job.now c.in-Some.ensures) (c.in_ok-state.ensures ∙ c.want.ensures)
    (alters_by g.D.Dir.cells c.args.primary.now c.give_back.new.self c.give_back.ensures.stays c.give_back.ensures.no_new c.give_back.ensures.appears c.give_back.ensures.others (λ w. c.give_back.ensures.whole)) c.give_back.ensures.states
    c.in-Ok.ensures.others c.in-Ok.ensures.whole c.in-Ok.ensures.standing c.in-Ok.ensures.sourced c.in-Ok.ensures.appears c.in-Ok.ensures.infos c.in-Ok.ensures.job c.in-Ok.ensures.tickets c.in-Ok.ensures.pending c.in-Ok.ensures.stands

pub returns-in_ok-is_dir_failed-in-Err : goal.returns-in_ok-is_dir_failed-in-Err
returns-in_ok-is_dir_failed-in-Err g c = stops_finishing g.D.Dir.cells c.args.primary.now c.give_back-in-Err.new.self c.args.replica.now c.finish.new.self c.in_ok-state.state c.in-Some.job.now (runs_here c.args.replica.now.job c.in-Some.job.now c.in-Some.ensures) (c.in_ok-state.ensures ∙ c.want.ensures)
    (alters_by g.D.Dir.cells c.args.primary.now c.give_back-in-Err.new.self c.give_back-in-Err.ensures.stays c.give_back-in-Err.ensures.no_new c.give_back-in-Err.ensures.appears c.give_back-in-Err.ensures.others (λ w. c.give_back-in-Err.ensures.whole)) c.give_back-in-Err.ensures.states
    c.in-Err.ensures.others c.in-Err.ensures.whole c.in-Err.ensures.standing c.in-Err.ensures.sourced c.in-Err.ensures.appears c.in-Err.ensures.err (c.in-Err.ensures.stops (dir_failed (Err c.in-Err.fault) c.in-Err.fault refl c.in_ok-is_dir_failed-in-Err.ensures))

pub is_dir_failed-requires : goal.is_dir_failed-requires
is_dir_failed-requires g c = c.in-Err.ensures.fault
