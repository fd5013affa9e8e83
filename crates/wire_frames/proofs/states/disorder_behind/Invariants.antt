use Rattle.std.proofs.Common.{◌≡◌, ℕ, ◌<◌}
use Rattle.wire_frames.specs.States.{kind_found, kind_behind}
use Rattle.wire_frames.proofs.states.disorder_behind.Given as goal

abbrev pub invariant-loop-i : goal.invariant-loop-i
invariant-loop-i l = (k : ℕ) → k < l.i → kind_found l.messages k ≡ kind_behind l.files l.completed k
