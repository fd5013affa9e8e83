use Rattle.std.proofs.Common.{◌≡◌, take, map}
use Rattle.cluster_state.specs.Met.{met_in}
use Rattle.cluster_state.proofs.met.kinds_in.Given as goal

abbrev pub invariant-loop-place : goal.invariant-loop-place
invariant-loop-place g l = l.kinds.items ≡ map (met_in g.D.FaultDir.planned) (take l.place-index l.places)
