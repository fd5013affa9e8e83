-- A merged segment: its rows, where they come from, and which of them are live later.
use Rattle.std.specs.Prelude.{◌≡◌, ℕ, ◌+◌, List, [], ◌∷◌, ◌++◌, length, map, slice_index_or, replicate, Bool, true, false, if◌then◌else◌}
use Rattle.std.specs.List.{filter, zip}
use Rattle.nrt_base.specs.declared.doc.Doc.{Doc}
use Rattle.seg_build.specs.Given.{Shown}
use Rattle.seg_build.specs.Built.{IsNewSegment}
use Rattle.seg_merge.specs.declared.task.MergeTask.{MergeTask}
use Rattle.seg_merge.specs.declared.task.RowFrom.{RowFrom}
use Rattle.seg_merge.specs.declared.task.Merged.{Merged}
use Rattle.seg_merge.specs.declared.merging.Gathered.{Gathered}

-- the documents of live rows, in order
abbrev pub live_docs : List Doc → List Bool → List Doc
live_docs docs live = map (λ x. x.0) (filter (λ x. x.1) (zip docs live))

-- the documents of the rows that are live so, input by input
abbrev pub all_live_docs : List (List Doc) → List (List Bool) → List Doc
all_live_docs [] lives = []
all_live_docs (docs ∷ inputs) [] = []
all_live_docs (docs ∷ inputs) (live ∷ lives) = live_docs docs live ++ all_live_docs inputs lives

-- a row of an input
abbrev pub row_from : (input row : ℕ) → RowFrom
row_from input row = record { input = input; row = row }

-- where the live rows of an input come from, of which the first row has this number
abbrev pub origins_in : (input row : ℕ) → List Bool → List RowFrom
origins_in input row [] = []
origins_in input row (is_live ∷ live) = if is_live then row_from input row ∷ origins_in input (row + 1) live else origins_in input (row + 1) live

-- where the live rows of inputs come from, of which the first has this number
abbrev pub origins : (input : ℕ) → List (List Bool) → List RowFrom
origins input [] = []
origins input (live ∷ lives) = origins_in input 0 live ++ origins (input + 1) lives

-- the row where it comes from is live
abbrev pub is_live_at : List (List Bool) → RowFrom → Bool
is_live_at lives from = slice_index_or (slice_index_or lives from.input []) from.row false

-- the rows that are live where they come from
abbrev pub carried : List RowFrom → List (List Bool) → List Bool
carried from lives = map (is_live_at lives) from

-- no row is live that was not, and there are as many rows
abbrev pub IsWithin : (live noted : List Bool) → Type 0
IsWithin [] [] = Unit {0}
IsWithin [] (n ∷ noted) = ⊥
IsWithin (l ∷ live) [] = ⊥
IsWithin (l ∷ live) (n ∷ noted) = (l ≡ true → n ≡ true) × IsWithin live noted

-- the documents of each input
abbrev pub docs_by_input : List Shown → List (List Doc)
docs_by_input inputs = map (λ s. s.docs) inputs

-- a mark for each row
abbrev pub HasAsManyRows : Shown → List Bool → Type 0
HasAsManyRows shown live = length live ≡ length shown.docs

-- as many marks as there were
abbrev pub AreAsLong : List Bool → List Bool → Type 0
AreAsLong live noted = length live ≡ length noted

-- the rows of the inputs that are live so were gathered, with where they come from
pub record IsGathered (inputs : List Shown) (lives : List (List Bool)) (gathered : Gathered) : Type 0 where
  pub docs : gathered.docs.items ≡ all_live_docs (docs_by_input inputs) lives
  pub from : gathered.from.items ≡ origins 0 lives

-- the segment has the rows that were live when the merge started, input by input in order, all of them live
pub record IsMergedOf (task : MergeTask) (merged : Merged) : Type 0 where
  pub number : merged.files.seg ≡ task.seg
  pub from : merged.from ≡ origins 0 task.live
  pub live : merged.files.live ≡ replicate (length merged.from) true
  pub built : IsNewSegment merged.files.seg merged.files.live merged.files.files (all_live_docs (docs_by_input task.inputs) task.live)
