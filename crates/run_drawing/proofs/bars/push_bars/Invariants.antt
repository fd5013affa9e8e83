use Rattle.std.proofs.Common.{◌≡◌, ◌++◌, drop}
use Rattle.std.specs.List.{flat_map}
use Rattle.run_drawing.specs.Drawing.{bar_text}
use Rattle.run_drawing.proofs.bars.push_bars.Given as goal

abbrev pub invariant-loop-bar : goal.invariant-loop-bar
invariant-loop-bar l =
    l.out.items ++ flat_map (bar_text l.page l.right l.class l.said) (drop l.bar-index l.bars)
    ≡ l.fn.out.items ++ flat_map (bar_text l.page l.right l.class l.said) l.bars
