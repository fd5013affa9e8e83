use Rattle.std.proofs.Common.{◌∙◌}
use Rattle.script_serving.specs.Lines.{lines_under}
use Rattle.lane_threads.proofs.Parts.{seeking_first, seeking_on, sought}
use Rattle.lane_threads.proofs.part.lines_for.Goals as goal

pub loop-number-init : goal.loop-number-init
loop-number-init c = seeking_first c.args.phase.now _ c.args.lane.0 c.requires c.as_slice-number-items.ensures

pub loop-number-preserved : goal.loop-number-preserved
loop-number-preserved c =
    seeking_on c.args.lane.0 c.as_slice-number-items.result.now c.loop-number.number-index c.loop-number-item.result c.loop-number-item.is c.loop-number-test.true (lines_under c.args.lane.0 c.args.phase.now.lanes) c.loop-number.invariant
    c.if-number-lane.false

pub returns-then-number-lane : goal.returns-then-number-lane
returns-then-number-lane c =
    c.as_slice.ensures
    ∙ sought c.args.lane.0 c.as_slice-number-items.result.now c.loop-number.number-index c.loop-number-item.result c.loop-number-item.is c.loop-number-test.true (lines_under c.args.lane.0 c.args.phase.now.lanes) c.loop-number.invariant
    c.if-number-lane.true
