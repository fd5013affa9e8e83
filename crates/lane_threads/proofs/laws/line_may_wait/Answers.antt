use Rattle.lane_threads.proofs.LineLemmas.{fresh_after}
use Rattle.lane_threads.proofs.laws.line_may_wait.Goals as goal

pub returns : goal.returns
returns c = fresh_after _ _ _ _ _ _ c.requires.before c.requires.after
