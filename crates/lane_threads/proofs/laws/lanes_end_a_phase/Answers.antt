use Rattle.lane_threads.proofs.ScriptLemmas.{phase_done}
use Rattle.lane_threads.proofs.laws.lanes_end_a_phase.Goals as goal

pub returns : goal.returns
returns c = phase_done _ _ _ _ _ _ c.requires.form c.requires.ran c.requires.apart c.requires.all
