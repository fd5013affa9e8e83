use Rattle.std.proofs.Common.{◌≡◌, ◌++◌, map, take, drop}
use Rattle.run_picture.specs.Views.{view_by}
use Rattle.run_picture.proofs.shown.step_views.Given as goal

abbrev pub invariant-loop-i : goal.invariant-loop-i
invariant-loop-i l = l.views.items ≡ map (view_by l.event l.primary) (take l.i l.fn.views.items) ++ drop l.i l.fn.views.items
