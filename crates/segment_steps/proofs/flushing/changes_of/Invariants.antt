use Rattle.std.proofs.Common.{◌≡◌, map, take}
use Rattle.segment_steps.specs.Marks.{is_gone}
use Rattle.segment_steps.specs.Segments.{live_change}
use Rattle.segment_steps.proofs.flushing.changes_of.Given as goal

abbrev pub invariant-loop-segment : goal.invariant-loop-segment
invariant-loop-segment l = l.live.items ≡ map (live_change (is_gone l.gone)) (take l.segment-index l.segs)
