use Rattle.std.proofs.Common.{◌≡◌, ◌++◌}
use Rattle.std.specs.List.{flat_map, range_with_len}
use Rattle.run_drawing.specs.Drawing.{node_label}
use Rattle.run_drawing.proofs.pages.push_node_labels.Given as goal

abbrev pub invariant-loop-next : goal.invariant-loop-next
invariant-loop-next l = l.out.items ≡ l.fn.out.items ++ flat_map (node_label l.page) (range_with_len 1 l.next)
