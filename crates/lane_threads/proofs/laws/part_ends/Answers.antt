use Rattle.lane_threads.proofs.LineLemmas.{lines_ran}
use Rattle.lane_threads.proofs.laws.part_ends.Goals as goal

pub returns : goal.returns
returns c = lines_ran _ _ _ _ _ _ c.requires.all c.requires.going
