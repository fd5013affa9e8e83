use Rattle.std.proofs.Common.{◌≡◌, take}
use Rattle.copy_state.specs.States.{meta_names}
use Rattle.replica_node.specs.Held.{held_metas}
use Rattle.replica_node.proofs.held.held_of.Given as goal

abbrev pub invariant-loop-file : goal.invariant-loop-file
invariant-loop-file l = l.metas ≡ held_metas l.known l.files (meta_names (take l.file-index l.wanted))
