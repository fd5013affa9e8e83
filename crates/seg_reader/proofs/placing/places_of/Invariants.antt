use Rattle.std.proofs.Common.{◌≡◌, length}
use Rattle.seg_reader.proofs.Placed.{IsByEntries}
use Rattle.seg_reader.proofs.placing.places_of.Given as goal

abbrev pub invariant-loop-entry : goal.invariant-loop-entry
invariant-loop-entry l = (length l.places.items ≡ length l.docs) × IsByEntries l.post.entries l.docs l.entry l.places.items
