-- What calls of merges make of a primary's parts.
use Rattle.std.specs.Prelude.{ℕ, ◌≡◌, List, ◌++◌, Some, None, IsSomeAnd}
use Rattle.std.specs.List.{All}
use Rattle.nrt_base.specs.declared.numbers.SegNo.{SegNo}
use Rattle.disk_model.specs.Disk.{Name, Content}
use Rattle.seg_merge.specs.declared.task.Merged.{Merged}
use Rattle.seg_merge.specs.Merging.{IsMergedOf}
use Rattle.copy_state.specs.States.{IsCopyState}
use Rattle.index_primary.specs.declared.parts.PrimaryParts.{PrimaryParts}
use Rattle.index_primary.specs.declared.states.Merging.{Merging}
use Rattle.index_primary.specs.Cut.{last_number}
use Rattle.index_primary.specs.States.{IsStateOf, out_of}
use Rattle.index_primary.specs.Merges.{merge_loose, merge_filled, merge_of, merges_with, merges_without}
use Rattle.index_primary.specs.Primary.{publish_loose}
use Rattle.index_primary.specs.Written.{names_of}
use Rattle.index_primary.specs.declared.merge_files.StateReady.{StateReady}

module _ {D : Type 0} where
  -- the merged segment was made of the task of a merge in flight, of which nothing was made yet
  abbrev pub IsMadeFor : PrimaryParts D → Merged → Type 0
  IsMadeFor p merged = IsSomeAnd (merge_of merged.files.seg.0 p.merges) (λ m. (m.merged ≡ None) × IsMergedOf m.task merged)

  -- what was made of the merge is noted, and it holds the files that were written
  pub record IsReadied (merged : Merged) (old new : PrimaryParts D) : Type 0 where
    pub m : Merging
    pub found : merge_of merged.files.seg.0 old.merges ≡ Some m
    pub merges : new.merges ≡ merges_with merged (m.names ++ names_of merged.files.files) old.merges

  -- the lists that are made before the files of a merge are written
  pub record IsStateReady (p : PrimaryParts D) (merged : Merged) (r : StateReady) : Type 0 where
    pub m : Merging
    pub found : merge_of merged.files.seg.0 p.merges ≡ Some m
    pub unmade : m.merged ≡ None
    pub of : IsMergedOf m.task merged
    pub written : r.written ≡ names_of merged.files.files
    pub names : r.names ≡ m.names ++ names_of merged.files.files
    pub state : (reads : Name → Content) → All (λ f. reads f.0 ≡ Some f.1) merged.files.files
        → IsStateOf reads p.point_infos (names_of merged.files.files) (last_number p.commits) p.completed r.state
    pub copy : IsCopyState r.state
    pub out : r.out ≡ out_of r.state

  -- the numbers that are drawn and not there yet without this merge, and those of them whose parts are written
  abbrev pub loose_left : PrimaryParts D → SegNo → List ℕ
  loose_left p seg = publish_loose p.publish ++ merge_loose (merges_without seg.0 p.merges)

  abbrev pub filled_left : PrimaryParts D → SegNo → List ℕ
  filled_left p seg = merge_filled (merges_without seg.0 p.merges)
