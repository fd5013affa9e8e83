use Rattle.std.proofs.Common.{◌-◌, ◌+◌, arith}
use Rattle.script_text.specs.Grammar.{lanes_from}
use Rattle.script_text.proofs.PhaseLemmas.{next_lane}
use Rattle.script_text.proofs.phases.phase_of.Goals as goal

pub loop-lane-preserved : goal.loop-lane-preserved
loop-lane-preserved c =
    next_lane (lanes_from 8 1 c.args.lines.items) c.loop-lane.lanes.items c.push_lane.new.lanes.items (9 - c.loop-lane.lane) (9 - (c.loop-lane.lane + 1)) c.loop-lane.lane
    c.loop-lane.left.items c.in_ok-mine.mine.items c.in_ok-mine.others.items c.loop-lane.invariant (omega arith) c.in_ok-mine.ensures.0 c.in_ok-mine.ensures.1 c.in_ok-push_lane.ensures
