use Rattle.std.proofs.Common.{◌≡◌, ◌+◌, ◌-◌, length, drop}
use Rattle.index_primary.specs.States.{state_place, out_of}
use Rattle.index_primary.proofs.states.place.Given as goal

abbrev pub invariant-loop-i : goal.invariant-loop-i
invariant-loop-i l = l.i + state_place (out_of l.state) (drop l.i l.states) ≡ state_place (out_of l.state) l.states

abbrev pub decreases-loop-i : goal.decreases-loop-i
decreases-loop-i l = length l.states - l.i
