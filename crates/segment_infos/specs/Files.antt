-- The files that infos name.
use Rattle.std.specs.Prelude.{ℕ, ◌==◌, List, [], ◌∷◌, ◌↔◌, if◌then◌else◌}
use Rattle.std.specs.List.{Contains, flat_map}
use Rattle.std.specs.List.Sorted.{IsStrictlySortedBy}
use Rattle.std.specs.Ordering.{nat_cmp}
use Rattle.std.specs.Cmp.Lexicographic.{slice_cmp}
use Rattle.file_names.specs.Names.{part_name_of, live_name_of}
use Rattle.file_names.specs.declared.composed.SegPart.TheVariants.{Docs, Post, Info}
use Rattle.segment_infos.specs.declared.infos.SegRecord.{SegRecord}
use Rattle.segment_infos.specs.declared.infos.Infos.{Infos}

-- the name of a segment's live file, where it has one
abbrev pub live_files : SegRecord → List (List ℕ)
live_files r = if r.live_gen == 0 then [] else live_name_of r.seg.0 r.live_gen ∷ []

-- the names of a segment's files: documents, postings, info, and live rows where it has a file of them
abbrev pub files_of_segment : SegRecord → List (List ℕ)
files_of_segment r = part_name_of r.seg.0 Docs ∷ part_name_of r.seg.0 Post ∷ part_name_of r.seg.0 Info ∷ live_files r

-- the list has the names of the files of each segment of the infos and no others, in ascending order and each once
pub record AreFilesOf (infos : Infos) (names : List (List ℕ)) : Type 0 where
  pub ascending : IsStrictlySortedBy (slice_cmp nat_cmp) names
  pub named : (name : List ℕ) → Contains names name ↔ Contains (flat_map files_of_segment infos.segs) name
