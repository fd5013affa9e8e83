-- Merges in flight, and what is true of them.
use Rattle.std.specs.Prelude.{ℕ, suc, ◌≡◌, ◌≢◌, ◌<◌, ◌==◌, if◌then◌else◌, true, false, is_some, List, [], ◌∷◌, ◌++◌, Option, Some, None}
use Rattle.std.specs.List.{All, AllByRecursion, flat_map, list_any, zip}
use Rattle.disk_model.specs.Disk.{Name, Content, is_among}
use Rattle.file_deleter.specs.Holdings.{times}
use Rattle.nrt_base.specs.declared.numbers.SegNo.{SegNo}
use Rattle.segment_infos.specs.declared.infos.SegRecord.{SegRecord}
use Rattle.segment_steps.specs.Given.{Shown, Merged, docs_by_input, IsMergedOf}
use Rattle.segment_steps.specs.CutOver.{IsMergeOf}
use Rattle.index_primary.specs.declared.states.Merging.{Merging}
use Rattle.index_primary.specs.Written.{names_of}

-- the names that merges hold: the files of their inputs as they were at the start, and those that were written
abbrev pub merge_names : List Merging → List Name
merge_names [] = []
merge_names (m ∷ ms) = m.names ++ merge_names ms

-- the numbers that they drew, which no segment of the infos has
abbrev pub merge_loose : List Merging → List ℕ
merge_loose [] = []
merge_loose (m ∷ ms) = m.task.seg.0 ∷ merge_loose ms

-- those of them whose files are written
abbrev pub merge_filled : List Merging → List ℕ
merge_filled [] = []
merge_filled (m ∷ ms) = if is_some m.merged then m.task.seg.0 ∷ merge_filled ms else merge_filled ms

-- the numbers of their inputs
abbrev pub merge_inputs : List Merging → List SegNo
merge_inputs ms = flat_map (λ m. m.inputs) ms

-- the merge of a number
abbrev pub merge_of : ℕ → List Merging → Option Merging
merge_of n [] = None
merge_of n (m ∷ ms) = if m.task.seg.0 == n then Some m else merge_of n ms

-- its place, or the length
abbrev pub merge_place : ℕ → List Merging → ℕ
merge_place n [] = 0
merge_place n (m ∷ ms) = if m.task.seg.0 == n then 0 else suc (merge_place n ms)

-- the merges without it
abbrev pub merges_without : ℕ → List Merging → List Merging
merges_without n [] = []
merges_without n (m ∷ ms) = if m.task.seg.0 == n then ms else m ∷ merges_without n ms

-- the merges once this was made of the one of its number, which holds these names
abbrev pub merges_with : Merged → List Name → List Merging → List Merging
merges_with merged names [] = []
merges_with merged names (m ∷ ms) =
    if m.task.seg.0 == merged.files.seg.0 then record m { merged = Some merged; names = names } ∷ ms else m ∷ merges_with merged names ms

-- a merged segment was made of the merge's task; the merge holds its files, which read as they were made
pub record IsMade (reads : Name → Content) (m : Merging) (merged : Merged) : Type 0 where
  pub of : IsMergedOf m.task merged
  pub held : (q : Name) → is_among (names_of merged.files.files) q ≡ true → 0 < times m.names q
  pub reads_so : All (λ f. reads f.0 ≡ Some f.1) merged.files.files

-- so it is where a merged segment was made
abbrev pub IsMadeBy : (Name → Content) → Merging → Option Merged → Type 0
IsMadeBy reads m None = Unit {0}
IsMadeBy reads m (Some merged) = IsMade reads m merged

-- a merge in flight: its inputs are segments of these, of which no row is live that was not noted; and what was made of it reads so
pub record IsMerging (reads : Name → Content) (records : List SegRecord) (segs : List Shown) (m : Merging) : Type 0 where
  pub flight : IsMergeOf (zip records segs) m.inputs (docs_by_input m.task.inputs) m.task.live
  pub made : IsMadeBy reads m m.merged

-- two merges have two numbers, and no input of the one is one of the other
pub record AreOtherMerges (m other : Merging) : Type 0 where
  pub number : m.task.seg.0 ≢ other.task.seg.0
  pub inputs : (n : ℕ) → list_any (λ seg. seg.0 == n) m.inputs ≡ true → list_any (λ seg. seg.0 == n) other.inputs ≡ false

-- so it is of any two of them
abbrev pub AreApartMerges : List Merging → Type 0
AreApartMerges [] = Unit {0}
AreApartMerges (m ∷ ms) = AllByRecursion (AreOtherMerges m) ms × AreApartMerges ms
