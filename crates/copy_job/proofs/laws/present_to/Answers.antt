use Rattle.copy_job.proofs.Points.{present_to}
use Rattle.copy_job.proofs.laws.present_to.Goals as goal

pub returns : goal.returns
returns c = present_to
