use Rattle.copy_job.proofs.Points.{reads_placed}
use Rattle.copy_job.proofs.laws.reads_placed.Goals as goal

pub returns : goal.returns
returns c = reads_placed
