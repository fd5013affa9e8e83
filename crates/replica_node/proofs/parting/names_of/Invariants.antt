use Rattle.std.proofs.Common.{◌≡◌, take}
use Rattle.copy_state.specs.States.{meta_names}
use Rattle.replica_node.proofs.parting.names_of.Given as goal

abbrev pub invariant-loop-file : goal.invariant-loop-file
invariant-loop-file l = l.names.items ≡ meta_names (take l.file-index l.files)
