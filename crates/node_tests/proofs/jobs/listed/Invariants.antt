use Rattle.std.proofs.Common.{length, ◌-◌}
use Rattle.node_tests.proofs.Listing.{AreListedTo}
use Rattle.node_tests.proofs.jobs.listed.Given as goal

abbrev pub decreases-loop-at : goal.decreases-loop-at
decreases-loop-at l = length l.names - l.at

abbrev pub invariant-loop-at : goal.invariant-loop-at
invariant-loop-at l = AreListedTo l.names l.at l.files
