use Rattle.std.proofs.Common.{◌∙◌, sym}
use Rattle.replica_node.proofs.ends.end_stopped.Goals as goal

pub returns-then-not-is_stopped-clause-job : goal.returns-then-not-is_stopped-clause-job
returns-then-not-is_stopped-clause-job g c = sym c.if-not-is_stopped.ensures

pub returns-clause-job : goal.returns-clause-job
returns-clause-job g c = c.end_job.ensures.job ∙ sym c.if-not-is_stopped.ensures
