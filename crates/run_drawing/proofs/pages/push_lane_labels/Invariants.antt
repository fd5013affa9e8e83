use Rattle.std.proofs.Common.{◌≡◌, ◌++◌}
use Rattle.std.specs.List.{flat_map, range_with_len}
use Rattle.run_drawing.specs.Drawing.{lane_label}
use Rattle.run_drawing.proofs.pages.push_lane_labels.Given as goal

abbrev pub invariant-loop-next : goal.invariant-loop-next
invariant-loop-next l = l.out.items ≡ l.fn.out.items ++ flat_map lane_label (range_with_len 1 l.next)
