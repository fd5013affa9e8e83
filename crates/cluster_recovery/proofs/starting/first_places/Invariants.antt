use Rattle.std.proofs.Common.{◌≡◌, ℕ, length}
use Rattle.std.specs.Prelude.{IsSomeAnd}
use Rattle.history_rules.specs.Nodes.{IsNode}
use Rattle.cluster_nodes.specs.Places.{place_of}
use Rattle.cluster_state.specs.Starting.{OpensPlace}
use Rattle.cluster_recovery.proofs.starting.first_places.Given as goal

abbrev pub invariant-loop-dir : goal.invariant-loop-dir
invariant-loop-dir g l = record {
  count : length l.places.items ≡ length l.yielded;
  each : (n : ℕ) → IsNode (length l.yielded) n → IsSomeAnd (place_of l.places.items n) (OpensPlace g.D.Dir.cells n);
}
