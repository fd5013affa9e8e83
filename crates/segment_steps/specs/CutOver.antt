-- Merges in flight, and what a cut-over makes of the segments of infos.
use Rattle.std.specs.Prelude.{◌≡◌, ℕ, ◌<◌, ◌==◌, not, List, [], ◌∷◌, ◌++◌, length, map, Bool, true, false, Option, Some, None, if◌then◌else◌}
use Rattle.std.specs.List.{AllZip, filter, list_any}
use Rattle.nrt_base.specs.declared.doc.Doc.{Doc}
use Rattle.nrt_base.specs.declared.numbers.SegNo.{SegNo}
use Rattle.live_bits.specs.LiveRows.{live_rows}
use Rattle.segment_infos.specs.declared.infos.SegRecord.{SegRecord}
use Rattle.seg_merge.specs.Given.{Shown, File, record_of}
use Rattle.seg_merge.specs.declared.task.Merged.{Merged}
use Rattle.seg_merge.specs.Merging.{carried, IsWithin}
use Rattle.segment_steps.specs.declared.next.NextSegments.{NextSegments}
use Rattle.segment_steps.specs.declared.cutting.Replacement.{Replacement}
use Rattle.segment_steps.specs.Next.{Turn, record_after, shown_after, staying, is_changed, IsLiveFileAfter}

-- a segment of infos: its record and what it shows
abbrev pub Part : Type 0
Part = SegRecord × Shown

-- the segment is one of these
abbrev pub is_one_of : List SegNo → Part → Bool
is_one_of inputs p = list_any (λ seg. seg.0 == p.0.seg.0) inputs

-- those of the segments that are these, in their order, and the others
abbrev pub inputs_in : List SegNo → List Part → List Part
inputs_in inputs ps = filter (is_one_of inputs) ps

abbrev pub others_in : List SegNo → List Part → List Part
others_in inputs ps = filter (λ p. not (is_one_of inputs p)) ps

-- The first of these gives its place to the new ones, and the others of them leave.
abbrev pub in_place : List SegNo → List Part → List Part → List Part
in_place inputs new [] = []
in_place inputs new (p ∷ ps) = if is_one_of inputs p then new ++ others_in inputs ps else p ∷ in_place inputs new ps

abbrev pub lives_of : List Part → List (List Bool)
lives_of ps = map (λ p. p.1.live) ps

abbrev pub documents_of : List Part → List (List Doc)
documents_of ps = map (λ p. p.1.docs) ps

-- A merge in flight: its inputs are among the segments in their order and have the documents that they had; the rows noted
-- include those that are live now.
pub record IsMergeOf (ps : List Part) (inputs : List SegNo) (docs : List (List Doc)) (noted : List (List Bool)) : Type 0 where
  pub some : 0 < length inputs
  pub numbers : map (λ p. p.0.seg) (inputs_in inputs ps) ≡ inputs
  pub documents : documents_of (inputs_in inputs ps) ≡ docs
  pub rows : AllZip (λ ds rows. length ds ≡ length rows) docs noted
  pub within : AllZip IsWithin (lives_of (inputs_in inputs ps)) noted

-- the rows of the merged segment that are live now, where some died
abbrev pub change_by : List Bool → Option (List Bool)
change_by live = if live_rows live == length live then None else Some live

-- the merged segment, with what it shows, at a cut-over to inputs of which these rows are live
abbrev pub merged_turn : Merged → Shown → List (List Bool) → Turn
merged_turn merged shown lives = (record_of merged.files.seg merged.files.live, (shown, change_by (carried merged.from lives)))

abbrev pub part_after : ℕ → Turn → Part
part_after g t = (record_after g t, shown_after t)

-- the turn of the merged segment, or none where no row of it is live
abbrev pub merged_turns : ℕ → Merged → Shown → List (List Bool) → List Turn
merged_turns g merged shown lives = staying g [] (merged_turn merged shown lives ∷ [])

-- The segments after a cut-over: the merged one in place of its inputs, with the rows that are live now, or none where none is. The
-- one file is its live file, where some row died.
pub record IsCutOf (g : ℕ) (ps : List Part) (inputs : List SegNo) (merged : Merged) (shown : Shown) (made : NextSegments) : Type 0 where
  pub records_are : made.records ≡ map (λ p. p.0) (in_place inputs (map (part_after g) (merged_turns g merged shown (lives_of (inputs_in inputs ps)))) ps)
  pub segs_are : made.segs ≡ map (λ p. p.1) (in_place inputs (map (part_after g) (merged_turns g merged shown (lives_of (inputs_in inputs ps)))) ps)
  pub changes : AllZip (IsLiveFileAfter g) (filter is_changed (merged_turns g merged shown (lives_of (inputs_in inputs ps)))) made.files

-- ---- how it is gone through

-- a segment was taken over as it is
pub record KeepsSegment (p : Part) (old new : NextSegments) : Type 0 where
  pub records_are : new.records ≡ old.records ++ p.0 ∷ []
  pub segs_are : new.segs ≡ old.segs ++ p.1 ∷ []
  pub files_are : new.files ≡ old.files

-- the turn of the merged segment
abbrev pub turn_of : Replacement → Turn
turn_of merged = (merged.entry, (merged.segment, merged.change))

abbrev pub turns_of : ℕ → Replacement → List Turn
turns_of g merged = staying g [] (turn_of merged ∷ [])

-- what the rest of the segments gives, where the merged one was placed already, and where it was not
abbrev pub placed_rest : ℕ → List SegNo → Replacement → Bool → List Part → List Part
placed_rest g inputs merged true ps = others_in inputs ps
placed_rest g inputs merged false ps = in_place inputs (map (part_after g) (turns_of g merged)) ps

-- its live file is there once it was placed
abbrev pub AreFilesSo : ℕ → Replacement → Bool → List File → Type 0
AreFilesSo g merged true files = AllZip (IsLiveFileAfter g) (filter is_changed (turns_of g merged)) files
AreFilesSo g merged false files = files ≡ []

-- one segment was gone over
pub record StepsOverSegment (g : ℕ) (inputs : List SegNo) (merged : Replacement) (p : Part) (old new : NextSegments) (was now : Bool) : Type 0 where
  pub records_are : (ps : List Part) → new.records ++ map (λ q. q.0) (placed_rest g inputs merged now ps) ≡ old.records ++ map (λ q. q.0) (placed_rest g inputs merged was (p ∷ ps))
  pub segs_are : (ps : List Part) → new.segs ++ map (λ q. q.1) (placed_rest g inputs merged now ps) ≡ old.segs ++ map (λ q. q.1) (placed_rest g inputs merged was (p ∷ ps))
  pub files_are : AreFilesSo g merged was old.files → AreFilesSo g merged now new.files
  pub left : (ps : List Part) → (was ≡ false → 0 < length (inputs_in inputs (p ∷ ps))) → now ≡ false → 0 < length (inputs_in inputs ps)

-- the merged segment is in the place of its inputs
pub record IsPlaced (g : ℕ) (inputs : List SegNo) (merged : Replacement) (ps : List Part) (made : NextSegments) : Type 0 where
  pub records_are : made.records ≡ map (λ q. q.0) (in_place inputs (map (part_after g) (turns_of g merged)) ps)
  pub segs_are : made.segs ≡ map (λ q. q.1) (in_place inputs (map (part_after g) (turns_of g merged)) ps)
  pub changes : AllZip (IsLiveFileAfter g) (filter is_changed (turns_of g merged)) made.files
