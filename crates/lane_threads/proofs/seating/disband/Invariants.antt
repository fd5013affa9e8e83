use Rattle.std.specs.Prelude.{ℕ, ◌≡◌, ◌+◌, length}
use Rattle.lane_threads.specs.Lanes.{AreJoined}
use Rattle.lane_threads.proofs.seating.disband.Given as goal

abbrev pub invariant-loop : goal.invariant-loop
invariant-loop g l = (k : ℕ) × (k + l.counter ≡ length l.initial.lanes.items) × AreJoined l.lock k l.hub l.initial.lanes.items l.lanes.items
