use Rattle.std.proofs.Common.{◌≡◌, take}
use Rattle.index_primary.specs.StartCalls.{records_in}
use Rattle.index_primary.proofs.merge_starts.chosen.Given as goal

abbrev pub invariant-loop-entry : goal.invariant-loop-entry
invariant-loop-entry l = l.found ≡ records_in l.inputs (take l.entry-index l.records)
