use Rattle.std.proofs.Common.{map, take, length}
use Rattle.history_points.specs.Kept.{ranked_hit, AreFirst}
use Rattle.history_points.proofs.best.best_of.Given as goal

abbrev pub invariant-loop-key : goal.invariant-loop-key
invariant-loop-key l = AreFirst (map ranked_hit (take (length l.yielded) l.ranks.entries)) l.best.items
