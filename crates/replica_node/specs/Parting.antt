-- Pending files where a point comes to be searched.
use Rattle.std.specs.Prelude.{◌≡◌, List, ◌++◌}
use Rattle.disk_model.specs.Disk.{Name}
use Rattle.copy_state.specs.declared.state.CopyState.{CopyState}
use Rattle.copy_state.specs.States.{meta_names}
use Rattle.merge_precopy.specs.Pending.{Pending, files_named, files_not_named}
use Rattle.replica_node.specs.declared.parting.Left.{Left}

-- what is pending once a point of these files is searched, of whose state these are completed: the files that neither list names
abbrev pub pending_after : (names completed : List Name) → Pending → Pending
pending_after names completed p = record p { files = files_not_named completed (files_not_named names p.files) }

-- the pending files that the state's point leaves, and the names of the others
pub record AreLeft (p : Pending) (state : CopyState) (l : Left) : Type 0 where
  pub pending : l.pending ≡ pending_after (meta_names state.files) state.completed p
  pub dropped : l.dropped.items ≡ meta_names (files_named (meta_names state.files) p.files) ++ meta_names (files_named state.completed (files_not_named (meta_names state.files) p.files))
