use Rattle.std.proofs.Common.{◌≡◌, take}
use Rattle.index_primary.specs.Merges.{merge_inputs}
use Rattle.index_primary.proofs.states.inputs_of.Given as goal

abbrev pub invariant-loop-merge : goal.invariant-loop-merge
invariant-loop-merge l = l.inputs.items ≡ merge_inputs (take l.merge-index l.merges)
