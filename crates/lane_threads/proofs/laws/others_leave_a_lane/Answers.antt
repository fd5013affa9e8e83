use Rattle.lane_threads.proofs.PhaseLemmas.{serves_apart}
use Rattle.lane_threads.proofs.laws.others_leave_a_lane.Goals as goal

pub returns : goal.returns
returns c = serves_apart _ _ _ _ _ c.requires.form.under c.requires.apart c.requires.serves
