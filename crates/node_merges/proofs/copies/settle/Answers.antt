use Rattle.std.proofs.Common.{Err, ap, ◌∙◌}
use Rattle.copy_job.specs.declared.fault.JobFault.{JobFault}
use Rattle.node_merges.proofs.CopySteps.{loses_placing}
use Rattle.node_merges.proofs.copies.settle.Goals as goal

pub returns-in-Ok : goal.returns-in-Ok
returns-in-Ok g c = record {
  others = c.in-Ok.ensures.others;
  settles = c.in-Ok.ensures.ok;
  whole = c.in-Ok.ensures.whole;
  standing = c.in-Ok.ensures.standing;
  sourced = c.in-Ok.ensures.sourced;
  appears = c.in-Ok.ensures.appears;
}

pub returns-in_ok-is_dir_failed-in-Err : goal.returns-in_ok-is_dir_failed-in-Err
returns-in_ok-is_dir_failed-in-Err g c =
    loses_placing g.D.Dir.cells c.args.job c.args.replica.now c.finish_precopy.new.self c.in-Err.ensures.others (c.finish_precopy.ensures.failed_ends (c.in-Err.is ∙ ap (λ (f : JobFault). Err f) c.in_ok-is_dir_failed-in-Err.ensures)).copies
    c.in-Err.ensures.whole c.in-Err.ensures.standing c.in-Err.ensures.sourced c.in-Err.ensures.appears

pub is_dir_failed-requires : goal.is_dir_failed-requires
is_dir_failed-requires g c = c.in-Err.ensures.fault
