-- What a merge that starts makes of a primary's parts.
use Rattle.std.specs.Prelude.{ℕ, ◌≡◌, ◌<◌, ◌==◌, true, List, [], ◌∷◌, ◌++◌, length, map, Option, Some, None, Result, Ok, Err}
use Rattle.std.specs.List.{All, AllZip, filter, list_any}
use Rattle.nrt_base.specs.SegNumbers.{segments_of_generation}
use Rattle.nrt_base.specs.declared.numbers.SegNo.{SegNo}
use Rattle.segment_infos.specs.declared.infos.SegRecord.{SegRecord}
use Rattle.segment_infos.specs.Files.{AreFilesOf}
use Rattle.seg_reader.specs.Sound.{IsSound}
use Rattle.merge_choice.specs.Choice.{IsFirstRange, HasNoRange}
use Rattle.seg_merge.specs.declared.task.MergeTask.{MergeTask}
use Rattle.seg_merge.specs.Merging.{HasAsManyRows, all_live_docs, docs_by_input}
use Rattle.segment_steps.specs.declared.starting.MergeStart.{MergeStart}
use Rattle.segment_steps.specs.Starting.{size_by, IsStart}
use Rattle.index_primary.specs.declared.parts.PrimaryParts.{PrimaryParts}
use Rattle.index_primary.specs.declared.parts.PublishFault.{PublishFault}
use Rattle.index_primary.specs.declared.parts.PublishFault.TheVariants.{Memory, NamesSpent, TooManySegments}
use Rattle.index_primary.specs.declared.states.Merging.{Merging}
use Rattle.index_primary.specs.Cut.{infos_drawn}
use Rattle.index_primary.specs.Held.{drawn_to}
use Rattle.index_primary.specs.Merges.{merge_inputs}

-- the records of the segments that have one of these numbers
abbrev pub records_in : List SegNo → List SegRecord → List SegRecord
records_in inputs rs = filter (λ r. list_any (λ seg. seg.0 == r.seg.0) inputs) rs

-- what a merge is made from is fit to be merged: a mark for each row, some row live, and sound inputs
pub record IsFitTask (task : MergeTask) : Type 0 where
  pub rows : AllZip HasAsManyRows task.inputs task.live
  pub some : 0 < length (all_live_docs (docs_by_input task.inputs) task.live)
  pub sound : All IsSound task.inputs

module _ {D : Type 0} where
  -- the sizes of the writer's segments, of which a merge is chosen
  abbrev pub merge_sizes : PrimaryParts D → List (Option ℕ)
  merge_sizes p = map (size_by (merge_inputs p.merges)) p.infos.segs

  -- the merge that was chosen, under the next number
  abbrev pub IsChosen : ℕ → PrimaryParts D → MergeStart → Type 0
  IsChosen factor p start = IsStart (record { 0 = drawn_to p.infos }) factor (merge_inputs p.merges) p.infos.segs p.segs start

  -- A merge that starts: its inputs are the first neighbours that are chosen; its number is drawn, and the files of its inputs are held.
  pub record StartsMerge (factor : ℕ) (old : PrimaryParts D) (task : MergeTask) (new : PrimaryParts D) : Type 0 where
    pub merging : Merging
    pub start : IsChosen factor old (record { task = task; inputs = merging.inputs })
    pub more : old.infos.counter < segments_of_generation
    pub task_is : merging.task ≡ task
    pub unmade : merging.merged ≡ None
    pub names : AreFilesOf (record old.infos { segs = records_in merging.inputs old.infos.segs }) merging.names
    pub next : new ≡ record old { files = new.files; infos = infos_drawn true old.infos; merges = old.merges ++ merging ∷ [] }

  -- What is answered where a merge is asked for: none where no neighbours can be chosen, spent names where some can and the generation has
  -- drawn all numbers, and else a merge starts. Where none starts nothing changes.
  abbrev pub AnswersMerge : ℕ → PrimaryParts D → PrimaryParts D → Result (Option MergeTask) PublishFault → Type 0
  AnswersMerge factor old new (Ok None) = HasNoRange factor (merge_sizes old) × (new ≡ old)
  AnswersMerge factor old new (Ok (Some task)) = StartsMerge factor old task new
  AnswersMerge factor old new (Err Memory) = new ≡ old
  AnswersMerge factor old new (Err NamesSpent) = ((at : ℕ) × IsFirstRange factor (merge_sizes old) at) × (old.infos.counter ≡ segments_of_generation) × (new ≡ old)
  AnswersMerge factor old new (Err TooManySegments) = ⊥
