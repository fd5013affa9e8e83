use Rattle.lane_threads.proofs.WalkLemmas.{call_goes}
use Rattle.lane_threads.proofs.laws.call_takes_its_line_on.Goals as goal

pub returns : goal.returns
returns c = call_goes _ _ _ _ _ c.requires.faults c.requires.goes c.requires.none c.requires.first
