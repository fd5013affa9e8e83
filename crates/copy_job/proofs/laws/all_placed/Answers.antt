use Rattle.copy_job.proofs.Points.{all_placed}
use Rattle.copy_job.proofs.laws.all_placed.Goals as goal

pub returns : goal.returns
returns c = all_placed
