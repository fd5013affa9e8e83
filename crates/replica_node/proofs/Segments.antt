-- The files of one segment, as those of infos.
use Rattle.std.proofs.Common.{List, [], ◌∷◌, sym, subst}
use Rattle.std.specs.Prelude.{◌↔◌}
use Rattle.std.specs.List.{Contains, flat_map}
use Rattle.std.specs.List.Sorted.{IsStrictlySortedBy}
use Rattle.std.specs.Ordering.{nat_cmp}
use Rattle.std.specs.Cmp.Lexicographic.{slice_cmp}
use Rattle.nrt_base.specs.declared.numbers.SegNo.{SegNo}
use Rattle.disk_model.specs.Disk.{Name}
use Rattle.segment_infos.specs.declared.infos.Infos.{Infos}
use Rattle.segment_infos.specs.Files.{files_of_segment, AreFilesOf}
use Rattle.copy_state.specs.declared.state.CopyState.{CopyState}
use Rattle.copy_state.specs.States.{meta_names}
use Rattle.replica_node.specs.Merges.{IsSegmentState}

-- infos of this segment alone, which has no live file
abbrev pub segment_infos : SegNo → Infos
segment_infos seg = record {
  generation = record { 0 = 1 };
  version = record { 0 = 1 };
  counter = 0;
  segs = record { seg = seg; rows = 0; live_gen = 0; live = 0 } ∷ [];
}

pub segment_files : (state : CopyState) (is : IsSegmentState state) → IsStrictlySortedBy (slice_cmp nat_cmp) (meta_names state.files) → AreFilesOf (segment_infos is.seg) (meta_names state.files)
segment_files state is ascending = record {
  ascending = ascending;
  named = λ q. subst (λ (ns : List Name). Contains ns q ↔ Contains (flat_map files_of_segment (segment_infos is.seg).segs) q) (sym is.files) ((λ h. h), (λ h. h));
}
