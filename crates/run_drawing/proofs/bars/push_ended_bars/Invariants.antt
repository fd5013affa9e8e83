use Rattle.std.proofs.Common.{◌≡◌, ◌++◌, drop}
use Rattle.std.specs.List.{flat_map}
use Rattle.run_drawing.specs.Drawing.{ended_bar}
use Rattle.run_drawing.proofs.bars.push_ended_bars.Given as goal

abbrev pub invariant-loop-bar : goal.invariant-loop-bar
invariant-loop-bar l =
    l.out.items ++ flat_map (ended_bar l.page l.entry l.right l.said) (drop l.bar-index l.bars)
    ≡ l.fn.out.items ++ flat_map (ended_bar l.page l.entry l.right l.said) l.bars
