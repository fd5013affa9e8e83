use Rattle.std.proofs.Common.{◌≡◌, Some, take}
use Rattle.std.specs.List.{All}
use Rattle.disk_model.specs.Disk.{Name, Content}
use Rattle.copy_state.specs.States.{meta_names}
use Rattle.index_primary.specs.States.{IsMetaIn}
use Rattle.index_primary.specs.Written.{names_of}
use Rattle.index_primary.proofs.merge_files.metas_told.Given as goal

abbrev pub invariant-loop-file : goal.invariant-loop-file
invariant-loop-file l = record {
  names : meta_names l.metas ≡ names_of (take l.file-index l.files);
  metas : (reads : Name → Content) → All (λ f. reads f.0 ≡ Some f.1) l.files → All (IsMetaIn reads) l.metas;
}
