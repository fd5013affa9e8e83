use Rattle.std.proofs.Common.{◌∙◌, sym}
use Rattle.replica_node.specs.Jobs.{running_point}
use Rattle.node_merges.proofs.CopySteps.{wants, lacks_one, lent_some, no_job}
use Rattle.node_merges.proofs.copies.step_of.Goals as goal

pub returns-then-is_some : goal.returns-then-is_some
returns-then-is_some g c = (
  lacks_one _ c.in-Some.copy.now c.args.seg.0 c.in_ok-next_file.field-0 c.in-Some-2.file (sym c.in-Some.ensures) (sym c.if-not-is_copy_of.ensures) c.in-Some-2.is c.in_ok-next_file.ensures,
  sym (lent_some _ _ c.job.result (running_point c.args.replica.now.job) c.job.ensures) ∙ sym c.if-is_some.ensures,
)

pub returns-else-is_some : goal.returns-else-is_some
returns-else-is_some g c = (
  wants _ c.in-Some.copy.now c.args.seg.0 c.in_ok-next_file.field-0 c.in-Some-2.file (sym c.in-Some.ensures) (sym c.if-not-is_copy_of.ensures) c.in-Some-2.is c.in_ok-next_file.ensures,
  no_job c.job.result (running_point c.args.replica.now.job) (lent_some _ _ c.job.result (running_point c.args.replica.now.job) c.job.ensures) (sym c.if-is_some.ensures),
)
