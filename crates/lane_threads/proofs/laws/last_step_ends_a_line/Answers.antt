use Rattle.lane_threads.proofs.LineLemmas.{ran_after}
use Rattle.lane_threads.proofs.laws.last_step_ends_a_line.Goals as goal

pub returns : goal.returns
returns c = ran_after _ _ _ _ _ _ c.requires.before c.requires.after
