-- The files that are pending at a replica.
use Rattle.std.specs.Prelude.{◌==◌, not, Bool, List, ◌++◌, filter}
use Rattle.std.specs.List.{list_any}
use Rattle.nrt_base.specs.declared.numbers.SegNo.{SegNo}
use Rattle.disk_model.specs.Disk.{Name, is_among}
use Rattle.copy_state.specs.declared.meta.FileMetaData.{FileMetaData}

-- the segments whose files are still to come, and the files that are pending, each with its metadata
pub record Pending : Type 0 where
  pub expected : List SegNo
  pub files : List (Name × FileMetaData)

-- the test whether a segment is among segments
abbrev pub is_expected : List SegNo → SegNo → Bool
is_expected segs seg = list_any (λ s. s.0 == seg.0) segs

-- the files of these names
abbrev pub files_named : List Name → List (Name × FileMetaData) → List (Name × FileMetaData)
files_named names files = filter (λ f. is_among names f.0) files

-- the files of other names
abbrev pub files_not_named : List Name → List (Name × FileMetaData) → List (Name × FileMetaData)
files_not_named names files = filter (λ f. not (is_among names f.0)) files

-- the files of a segment have come
abbrev pub with_files : Pending → SegNo → List (Name × FileMetaData) → Pending
with_files p seg parts = record {
  expected = filter (λ s. not (s.0 == seg.0)) p.expected;
  files = p.files ++ parts;
}
