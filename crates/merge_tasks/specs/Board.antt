-- The tasks that are posted and the merges in flight, and what the list of all entries has to do with them.
use Rattle.std.specs.Prelude.{ℕ, suc, ◌≡◌, ◌≢◌, ◌≤◌, ◌+◌, ◌*◌, ◌==◌, ◌&&◌, List, [], ◌∷◌, ◌++◌, map, length, Bool, true, false, not, is_some, Option, Some, None, if◌then◌else◌, ⊤}
use Rattle.std.specs.List.{All, filter, list_any}
use Rattle.std.specs.Option.{option_map}
use Rattle.nrt_base.specs.declared.numbers.At.{At}
use Rattle.nrt_base.specs.declared.numbers.LineNo.{LineNo}
use Rattle.nrt_base.specs.declared.numbers.NodeNo.{NodeNo}
use Rattle.nrt_base.specs.declared.numbers.SegNo.{SegNo}
use Rattle.seg_merge.specs.declared.task.MergeTask.{MergeTask}
use Rattle.history_rules.specs.Lines.{same_at}
use Rattle.history_rules.specs.Tasks.{merge_count, drained_count}
use Rattle.history_book.specs.Log.{Log, printed}
use Rattle.history_book.specs.declared.inner.Step.{Step}
use Rattle.history_book.specs.declared.inner.Step.TheVariants.{Merge as MergeStep, PreCopy as PreCopyStep, Cut as CutStep}
use Rattle.merge_tasks.specs.Merging.{merge_on}
use Rattle.merge_tasks.specs.declared.drains.DrainCount.{DrainCount}
use Rattle.merge_tasks.specs.declared.tasks.TaskKind.{TaskKind}
use Rattle.merge_tasks.specs.declared.tasks.TaskKind.TheVariants.{Merge, PreCopy, Cut}
use Rattle.merge_tasks.specs.declared.tasks.Posted.{Posted}
use Rattle.merge_tasks.specs.declared.tasks.Sent.{Sent}
use Rattle.merge_tasks.specs.declared.tasks.Spread.{Spread}
use Rattle.merge_tasks.specs.declared.tasks.OpenMerge.{OpenMerge}
use Rattle.merge_tasks.specs.TaskLog.{inputs_out, merge_task, ended_count, have_drained, has_started, StartWithNames}
use Rattle.history_book.specs.Told.{counted_by, counted_for}

-- the tasks that are posted, the first in first, the merges in flight, and how many tasks count for drain lines
pub record Board : Type 0 where
  pub posted : List Posted
  pub rows : List OpenMerge
  pub counts : List DrainCount

-- how many tasks count for a line
abbrev pub done_under : At → List DrainCount → ℕ
done_under at [] = 0
done_under at (r ∷ counts) = if same_at r.at at then r.done else done_under at counts

-- one more for this line, where it is the drain line
abbrev pub counts_one : At → Option At → ℕ
counts_one at None = 0
counts_one at (Some by) = if same_at by at then 1 else 0

-- none for a line any more
abbrev pub without_count : At → List DrainCount → List DrainCount
without_count at counts = filter (λ r. not (same_at r.at at)) counts

-- the merge in flight into a segment
abbrev pub open_merge : ℕ → List OpenMerge → Option OpenMerge
open_merge seg [] = None
open_merge seg (r ∷ rows) = if r.seg.0 == seg then Some r else open_merge seg rows

-- its place, or the length
abbrev pub merge_at : ℕ → List OpenMerge → ℕ
merge_at seg [] = 0
merge_at seg (r ∷ rows) = if r.seg.0 == seg then 0 else suc (merge_at seg rows)

-- what was written of it, and to whom it is copied
abbrev pub spread_at : Option OpenMerge → Option Spread
spread_at None = None
spread_at (Some r) = r.spread

-- the merges, with this of the one into a segment
abbrev pub with_spread : ℕ → Option Spread → List OpenMerge → List OpenMerge
with_spread seg spread [] = []
with_spread seg spread (r ∷ rows) = if r.seg.0 == seg then record r { spread = spread } ∷ rows else r ∷ with_spread seg spread rows

-- the merges without the one into a segment
abbrev pub without_merge : ℕ → List OpenMerge → List OpenMerge
without_merge seg rows = filter (λ r. not (r.seg.0 == seg)) rows

-- a merge is in flight of which no file is written
abbrev pub is_unwritten : Option OpenMerge → Bool
is_unwritten None = false
is_unwritten (Some r) = not (is_some r.spread)

-- the copy to a node is among these
abbrev pub is_sent_in : ℕ → ℕ → List Sent → Bool
is_sent_in n job left = list_any (λ s. (s.node.0 == n) && (s.job == job)) left

-- the copy to a node has not ended
abbrev pub is_sent_to : ℕ → ℕ → Option Spread → Bool
is_sent_to n job None = false
is_sent_to n job (Some s) = is_sent_in n job s.left

-- all copies have begun, and the one to a node has not ended: it has a task
abbrev pub has_copy_task : ℕ → ℕ → Option Spread → Bool
has_copy_task n job None = false
has_copy_task n job (Some s) = s.all && is_sent_in n job s.left

-- these copies without the one to a node
abbrev pub without_sent : ℕ → ℕ → List Sent → List Sent
without_sent n job left = filter (λ s. not ((s.node.0 == n) && (s.job == job))) left

-- the copies that have not ended
abbrev pub sent_left : Option Spread → List Sent
sent_left None = []
sent_left (Some s) = s.left

-- none of these copies is left
abbrev pub is_none_left : List Sent → Bool
is_none_left [] = true
is_none_left (s ∷ left) = false

-- files are written, and all their copies have begun and ended
abbrev pub is_copied : Option Spread → Bool
is_copied None = false
is_copied (Some s) = s.all && is_none_left s.left

-- a copy has begun
abbrev pub sent_more : NodeNo → ℕ → Option Spread → Option Spread
sent_more n job None = None
sent_more n job (Some s) = Some (record s { left = s.left ++ record { node = n; job = job } ∷ [] })

-- all have begun
abbrev pub all_sent : Option Spread → Option Spread
all_sent None = None
all_sent (Some s) = Some (record s { all = true })

-- a copy has ended
abbrev pub sent_less : ℕ → ℕ → Option Spread → Option Spread
sent_less n job None = None
sent_less n job (Some s) = Some (record s { left = without_sent n job s.left })

-- the task to build a merged segment
abbrev pub posted_merge : SegNo → LineNo → MergeTask → Posted
posted_merge seg line task = record { seg = seg; line = line; kind = Merge task }

-- a task for each copy
abbrev pub posts_of : SegNo → LineNo → List Sent → List Posted
posts_of seg line left = map (λ s. record { seg = seg; line = line; kind = PreCopy s.node s.job }) left

-- the task to cut over, where no copy is left
abbrev pub post_after : SegNo → LineNo → List Sent → List Posted
post_after seg line [] = record { seg = seg; line = line; kind = Cut } ∷ []
post_after seg line (s ∷ left) = []

-- the step of a merge that a task is
abbrev pub step_of : TaskKind → Step
step_of (Merge task) = MergeStep
step_of (PreCopy n job) = PreCopyStep n job
step_of Cut = CutStep

-- how many tasks of a merge may still come: before its copies have begun one to build it, one for each node and one to cut over
abbrev pub due_of : ℕ → Option Spread → ℕ
due_of size None = size + 1
due_of size (Some s) = if s.all then length s.left + 1 else size + 1

-- the same of all merges in flight
abbrev pub due_all : ℕ → List OpenMerge → ℕ
due_all size [] = 0
due_all size (r ∷ rows) = due_of size r.spread + due_all size rows

-- a task to build a segment is what the entries show that was handed out of its merge
abbrev pub IsToldKind : Log → SegNo → TaskKind → Type 0
IsToldKind log seg (Merge task) = (inputs_out seg.0 log ≡ Some task.inputs) × (task ≡ merge_task seg task.inputs)
IsToldKind log seg (PreCopy n job) = ⊤
IsToldKind log seg Cut = ⊤

-- the same of a task that is posted
abbrev pub IsToldTask : Log → Posted → Type 0
IsToldTask log p = IsToldKind log p.seg p.kind

-- What the entries show of tasks: each merge in flight has its row, of its line; a task to build a segment is what was handed out; what was
-- handed out of a merge was started, under one of its generation's names; no more tasks have ended than merges have; all drains together did no more than have ended; and of a drain
-- line without a reply it is noted how many count for it.
pub record TasksShow (size : ℕ) (log : Log) (b : Board) : Type 0 where
  pub lines : (seg : ℕ) → option_map (λ r. r.line) (open_merge seg b.rows) ≡ option_map (λ at. at.line) (merge_on seg log)
  pub posted : All (IsToldTask log) b.posted
  pub noted : (seg : ℕ) → inputs_out seg log ≢ None → has_started seg (printed log) ≡ true
  pub low : StartWithNames (printed log)
  pub paid : ended_count log + due_all size b.rows ≤ (size + 1) * merge_count (printed log)
  pub drains : (lines : At → Bool) → have_drained lines (printed log) ≡ false → drained_count (printed log) + counted_by lines log ≤ ended_count log
  pub counts : (at : At) → have_drained (λ b. same_at b at) (printed log) ≡ false → done_under at b.counts ≡ counted_for at log
