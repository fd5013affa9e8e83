use Rattle.index_primary.proofs.Begins.{same_task}
use Rattle.index_primary.proofs.merge_starts.shared.Goals as goal

pub returns : goal.returns
returns c = same_task c.args.task.now c.in_ok-inputs.inputs c.in-Ok.live c.in_ok-inputs.ensures c.in-Ok.ensures
