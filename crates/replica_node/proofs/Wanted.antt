-- The files of a merge copy's state, and their segment.
use Rattle.std.proofs.Common.{◌≡◌, ℕ, List, [], ◌∷◌, Some, None, sym, ap, ◌∙◌, inl, slice_get}
use Rattle.nrt_base.specs.declared.numbers.SegNo.{SegNo}
use Rattle.file_names.specs.Names.{part_name_of, IsFileOfSegment}
use Rattle.file_names.specs.declared.composed.SegPart.TheVariants.{Docs, Post, Info}
use Rattle.disk_model.specs.Disk.{Name, Cells}
use Rattle.copy_state.specs.declared.meta.FileMetaData.{FileMetaData}
use Rattle.copy_state.specs.States.{meta_names}
use Rattle.copy_job.specs.Jobs.{Job}
use Rattle.replica_node.specs.declared.parts.ReplicaParts.{ReplicaParts}
use Rattle.replica_node.specs.Merges.{copy_at, IsSegmentState}
use Rattle.replica_node.specs.Replica.{IsWholeReplica, IsMergeCopy}
use Rattle.replica_node.proofs.Merging.{all_at}

first_named : (files : List (Name × FileMetaData)) (q : Name) (rest : List Name) → meta_names files ≡ q ∷ rest → (f : Name × FileMetaData) → slice_get files 0 ≡ Some f → f.0 ≡ q
first_named [] q rest e f g = cc
first_named (x ∷ xs) q rest e f g = let name : x.0 ≡ q = cc in let same : x ≡ f = cc in sym (ap (λ (y : Name × FileMetaData). y.0) same) ∙ name

some_first : (files : List (Name × FileMetaData)) (q : Name) (rest : List Name) → meta_names files ≡ q ∷ rest → slice_get files 0 ≡ None → ⊥
some_first [] q rest e g = cc
some_first (x ∷ xs) q rest e g = cc

module _ {D : Type 0} (cells : D → Cells) (p : ReplicaParts D) (is : IsWholeReplica cells p) (number : ℕ) (k : Job) (e : copy_at number p.copies.running ≡ Some k) (files : List (Name × FileMetaData)) (same : files ≡ k.want.files) where
  segment : IsSegmentState k.want
  segment = (all_at (IsMergeCopy (cells p.dir) p.files p.jobs) number p.copies.running k e is.merges.each).segment

  names : meta_names files ≡ part_name_of segment.seg.0 Docs ∷ part_name_of segment.seg.0 Post ∷ part_name_of segment.seg.0 Info ∷ []
  names = ap meta_names same ∙ segment.files

  -- there is a first file
  pub wanted_first : slice_get files 0 ≡ None → ⊥
  wanted_first = some_first files (part_name_of segment.seg.0 Docs) (part_name_of segment.seg.0 Post ∷ part_name_of segment.seg.0 Info ∷ []) names

  -- and it is of the segment
  pub wanted_segment : (f : Name × FileMetaData) → slice_get files 0 ≡ Some f → (seg : SegNo) × IsFileOfSegment seg.0 f.0
  wanted_segment f first = (segment.seg, (segment.numbered, inl (Docs, first_named files (part_name_of segment.seg.0 Docs) (part_name_of segment.seg.0 Post ∷ part_name_of segment.seg.0 Info ∷ []) names f first)))
