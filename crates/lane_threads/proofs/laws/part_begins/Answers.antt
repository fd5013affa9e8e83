use Rattle.lane_threads.proofs.LineLemmas.{going_first}
use Rattle.lane_threads.proofs.laws.part_begins.Goals as goal

pub returns : goal.returns
returns c = going_first _ _ _ _ c.requires.faults c.requires.fresh
