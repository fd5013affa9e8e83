-- What the entries of inner work show of merges and of their tasks.
use Rattle.std.specs.Prelude.{ℕ, ◌≡◌, ◌<◌, ◌+◌, ◌==◌, ◌&&◌, List, [], ◌∷◌, map, Bool, true, false, Option, Some, None, not, if◌then◌else◌, ⊤}
use Rattle.std.specs.List.{list_any}
use Rattle.nrt_base.specs.SegNumbers.{segments_of_generation}
use Rattle.nrt_base.specs.declared.numbers.At.{At}
use Rattle.nrt_base.specs.declared.numbers.NodeNo.{NodeNo}
use Rattle.nrt_base.specs.declared.numbers.SegNo.{SegNo}
use Rattle.disk_model.specs.Disk.{Name, Content, same}
use Rattle.seg_merge.specs.Given.{Shown}
use Rattle.seg_merge.specs.declared.task.MergeTask.{MergeTask}
use Rattle.history_rules.specs.declared.entry.Event.{Event}
use Rattle.history_rules.specs.declared.entry.Event.TheVariants.{Merging, Drained, Crashed}
use Rattle.history_rules.specs.Nodes.{Past, is_at}
use Rattle.history_rules.specs.Lines.{same_at}
use Rattle.history_rules.specs.Points.{names_drawn}
use Rattle.history_book.specs.Log.{Log}
use Rattle.history_book.specs.declared.inner.Inner.{Inner}
use Rattle.history_book.specs.declared.inner.Inner.TheVariants.{MergeOut, MergeEnd, FileOut, TaskEnd}
use Rattle.history_book.specs.declared.inner.Mark.TheVariants.{Kept}

-- the older of two, where there is one
abbrev pub or_first : {A : Type 0} → (older mine : Option A) → Option A
or_first older None = older
or_first None (Some mine) = Some mine
or_first (Some older) (Some mine) = Some older

-- the inputs of the merge into a segment that an entry hands out
abbrev pub inputs_by : ℕ → Inner → Option (List Shown)
inputs_by seg (MergeOut line s inputs sizes) = if s.0 == seg then Some inputs else None
inputs_by seg i = None

-- the inputs of the merge into a segment, as they were handed out first
abbrev pub inputs_out : ℕ → Log → Option (List Shown)
inputs_out seg [] = None
inputs_out seg (Kept i ∷ log) = or_first (inputs_out seg log) (inputs_by seg i)
inputs_out seg (m ∷ log) = inputs_out seg log

-- what the merge of these inputs is made from: each of their rows that is live
abbrev pub merge_task : SegNo → List Shown → MergeTask
merge_task seg inputs = record { seg = seg; inputs = inputs; live = map (λ s. s.live) inputs }

-- the bytes of a merged file that an entry hands out, to no line
abbrev pub carries_as : Name → Inner → Content
carries_as q (FileOut line n job name source fate None) = if same name q then Some source else None
carries_as q i = None

-- the bytes that were handed out first under the name of a merged file
abbrev pub carried_out : Name → Log → Content
carried_out q [] = None
carried_out q (Kept i ∷ log) = or_first (carried_out q log) (carries_as q i)
carried_out q (m ∷ log) = carried_out q log

-- one where a task has ended that counts
abbrev pub ends_task : Inner → ℕ
ends_task (TaskEnd line seg by step true) = 1
ends_task i = 0

-- how many tasks have ended that count
abbrev pub ended_count : Log → ℕ
ended_count [] = 0
ended_count (Kept i ∷ log) = ends_task i + ended_count log
ended_count (m ∷ log) = ended_count log

-- the event is a drain's reply
abbrev pub is_drained : Event → Bool
is_drained (Drained done most) = true
is_drained e = false

-- one of these lines has its reply as a drain
abbrev pub have_drained : (At → Bool) → Past → Bool
have_drained lines past = list_any (λ e. is_drained e.event && lines e.at) past

-- the event starts a merge into the segment
abbrev pub starts_merge : ℕ → Event → Bool
starts_merge seg (Merging s) = s.0 == seg
starts_merge seg e = false

-- a merge into the segment was started
abbrev pub has_started : ℕ → Past → Bool
has_started seg past = list_any (λ e. starts_merge seg e.event) past

-- each merge that was started drew one of its generation's names
abbrev pub StartWithNames : Past → Type 0
StartWithNames [] = ⊤
StartWithNames (e ∷ past) = elim e.event [ Merging seg ↦ names_drawn past < segments_of_generation | _ ↦ ⊤ ] × StartWithNames past

-- the entry starts no merge, is no drain's reply, and the primary does not crash
abbrev pub leaves_merges : Event → Option NodeNo → Bool
leaves_merges (Merging seg) p = false
leaves_merges (Drained done most) p = false
leaves_merges (Crashed m) p = not (is_at p m.0)
leaves_merges e p = true

-- the entry of inner work hands out no merge and ends none, and ends no task
abbrev pub leaves_tasks : Inner → Bool
leaves_tasks (MergeOut line seg inputs sizes) = false
leaves_tasks (MergeEnd seg cut) = false
leaves_tasks (TaskEnd line seg by step counts) = false
leaves_tasks i = true
