use Rattle.std.proofs.Common.{◌+◌, drop, map}
use Rattle.history_book.specs.Log.{printed}
use Rattle.cluster_state.specs.Met.{met_in, ArePlanned}
use Rattle.cluster_state.proofs.met.are_planned.Given as goal

abbrev pub invariant-loop-i : goal.invariant-loop-i
invariant-loop-i g l = ArePlanned (l.i + 1) (drop l.i l.before) (map (met_in g.D.FaultDir.planned) (drop l.i l.places.items)) (printed l.book.log) → ArePlanned 1 l.before (map (met_in g.D.FaultDir.planned) l.places.items) (printed l.book.log)
