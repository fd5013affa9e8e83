use Rattle.lane_threads.proofs.WalkLemmas.{goes_then}
use Rattle.lane_threads.proofs.laws.steps_of_a_line_join.Goals as goal

pub returns : goal.returns
returns c = goes_then _ _ _ _ _ _ c.requires.before c.requires.after
