use Rattle.lane_threads.proofs.EventParts.{entry_send}
use Rattle.lane_threads.proofs.crossing.entry_crosses.Goals as goal

pub returns : goal.returns
returns c = entry_send c.event_crosses.ensures
