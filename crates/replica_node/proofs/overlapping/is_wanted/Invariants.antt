use Rattle.std.proofs.Common.{◌≡◌, false, take}
use Rattle.disk_model.specs.Disk.{is_among}
use Rattle.copy_state.specs.States.{meta_names}
use Rattle.replica_node.proofs.overlapping.is_wanted.Given as goal

abbrev pub invariant-loop-file : goal.invariant-loop-file
invariant-loop-file l = is_among (meta_names (take l.file-index l.files)) l.name ≡ false
