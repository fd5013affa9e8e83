use Rattle.std.proofs.Common.{◌≡◌, map, []}
use Rattle.std.specs.List.{range_with_len}
use Rattle.run_picture.specs.Views.{view_of}
use Rattle.run_picture.proofs.shown.first_views.Given as goal

abbrev pub invariant-loop-next : goal.invariant-loop-next
invariant-loop-next l = l.views.items ≡ map (view_of []) (range_with_len 1 l.next)
