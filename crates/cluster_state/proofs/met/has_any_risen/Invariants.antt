use Rattle.std.proofs.Common.{◌≡◌, ◌||◌, drop, map}
use Rattle.cluster_state.specs.Met.{met_in, has_any_risen}
use Rattle.cluster_state.proofs.met.has_any_risen.Given as goal

abbrev pub invariant-loop-i : goal.invariant-loop-i
invariant-loop-i g l = (l.met || has_any_risen (drop l.i l.before) (map (met_in g.D.FaultDir.planned) (drop l.i l.places.items))) ≡ has_any_risen l.before (map (met_in g.D.FaultDir.planned) l.places.items)
