-- What the calls of merge and drain lines, and of tasks, make of a cluster.
use Rattle.std.specs.Prelude.{ℕ, ◌≡◌, ◌≢◌, ◌<◌, ◌⊎◌, ◌∷◌, [], Bool, true, false, Option, Some, None, IsSome}
use Rattle.nrt_base.specs.SegNumbers.{segments_of_generation}
use Rattle.nrt_base.specs.declared.numbers.At.{At}
use Rattle.nrt_base.specs.declared.numbers.LineNo.{LineNo}
use Rattle.nrt_base.specs.declared.numbers.NodeNo.{NodeNo}
use Rattle.nrt_base.specs.declared.numbers.SegNo.{SegNo}
use Rattle.history_rules.specs.declared.cause.Cause.{Cause}
use Rattle.history_rules.specs.declared.cause.Cause.TheVariants.{NoPrimary, Nothing, NamesSpent}
use Rattle.history_rules.specs.declared.entry.Event.TheVariants.{Drained, Refused}
use Rattle.history_rules.specs.Nodes.{primary_of}
use Rattle.history_rules.specs.Lines.{publish_in_flight}
use Rattle.history_rules.specs.Points.{names_drawn}
use Rattle.merge_choice.specs.Choice.{IsFirstRange, HasNoRange}
use Rattle.link_model.specs.declared.fate.Fate.{Fate}
use Rattle.link_model.specs.declared.fate.Fate.TheVariants.{Whole}
use Rattle.history_book.specs.Log.{printed, shown}
use Rattle.history_book.specs.Jobs.{job_at}
use Rattle.history_book.specs.Told.{counted_for}
use Rattle.merge_tasks.specs.Board.{open_merge, spread_at, has_copy_task, is_copied}
use Rattle.cluster_nodes.specs.declared.tasks.FileTask.{FileTask}
use Rattle.cluster_state.specs.Run.{Run, misses_at}
use Rattle.cluster_merges.specs.MergePaths.{IsBoard, IsAsBefore, BeginsMerge, HandsMergedFile, EndsCopyTask, FailsCopy, MeetsFaults, CutsOver}
use Rattle.cluster_state.specs.declared.turn.Turn.{Turn}
use Rattle.cluster_state.specs.declared.turn.Turn.TheVariants.{Work, Done, Busy}

-- the line was refused for this cause, and nothing else happened
abbrev pub RefusesMerge : At → Cause → Run → Run → Type 0
RefusesMerge at cause old new = IsBoard old new (shown at (Refused cause) ∷ old.log) old.rest.tasks.rows old.rest.tasks.posted

-- A merge starts; or the line is refused: no inputs can be chosen; or some can, and the generation has drawn all its names.
abbrev pub StartsOrRefuses : At → ℕ → Run → Run → Option Cause → Type 0
StartsOrRefuses at factor old new None = BeginsMerge at factor old new
StartsOrRefuses at factor old new (Some Nothing) = RefusesMerge at Nothing old new × HasNoRange factor old.rest.sizes
StartsOrRefuses at factor old new (Some NamesSpent) =
    RefusesMerge at NamesSpent old new × ((from : ℕ) × IsFirstRange factor old.rest.sizes from) × (names_drawn (printed old.log) ≡ segments_of_generation)
StartsOrRefuses at factor old new (Some cause) = ⊥

-- one of these is so
abbrev pub StartsAtPrimary : At → ℕ → Run → Run → Type 0
StartsAtPrimary at factor old new = (cause : Option Cause) × StartsOrRefuses at factor old new cause

-- A merge line: refused where no primary runs; then where no inputs can be chosen; then where they can and no name is left; else a merge starts.
pub record MergeLine (at : At) (factor : ℕ) (old new : Run) : Type 0 where
  pub vacant : primary_of (printed old.log) ≡ None → RefusesMerge at NoPrimary old new
  pub cause : Option Cause
  pub starts : primary_of (printed old.log) ≢ None → StartsOrRefuses at factor old new cause

-- the copy misses no file, or does not run any more, and its task has ended; or it ended as a disk failed; or that had before
abbrev pub EndsCopyOnce : LineNo → SegNo → Option At → NodeNo → ℕ → Run → Run → Bool → Type 0
EndsCopyOnce line seg by n job old new true = (EndsCopyTask line seg by n job old new × (misses_at seg.0 n.0 job old ≡ false)) ⊎ FailsCopy line seg by n job old new
EndsCopyOnce line seg by n job old new false = IsAsBefore old new

-- Work and Busy only where the task has not ended and the copy misses a file: Busy exactly where the job of a point runs at its node besides, and
-- Work, with the next file, where none runs and no disk fails.
abbrev pub PrecopyTurns : LineNo → SegNo → Option At → NodeNo → ℕ → Run → Run → Turn FileTask → Type 0
PrecopyTurns line seg by n job old new (Work file) =
    (has_copy_task n.0 job (spread_at (open_merge seg.0 old.rest.tasks.rows)) ≡ true) × HandsMergedFile line seg n job old new file
    × (misses_at seg.0 n.0 job old ≡ true) × (job_at n.0 old.log ≡ None)
PrecopyTurns line seg by n job old new Busy =
    (has_copy_task n.0 job (spread_at (open_merge seg.0 old.rest.tasks.rows)) ≡ true) × IsSome (job_at n.0 old.log) × IsAsBefore old new
    × (misses_at seg.0 n.0 job old ≡ true)
PrecopyTurns line seg by n job old new Done = EndsCopyOnce line seg by n job old new (has_copy_task n.0 job (spread_at (open_merge seg.0 old.rest.tasks.rows)))

-- a copy has ended, of which not all of a file came, or where all of it came as a disk failed
abbrev pub LosesCopy : Fate → LineNo → SegNo → Option At → NodeNo → ℕ → Run → Run → Type 0
LosesCopy Whole line seg by n job old new = FailsCopy line seg by n job old new
LosesCopy fate line seg by n job old new = EndsCopyTask line seg by n job old new

-- a file of this fate came for a copy whose task has not ended, and ends that; or it had ended before
abbrev pub PartEnds : LineNo → SegNo → Option At → NodeNo → ℕ → Fate → Run → Run → Bool → Type 0
PartEnds line seg by n job fate old new true = LosesCopy fate line seg by n job old new
PartEnds line seg by n job fate old new false = IsAsBefore old new

-- the same, and the task goes on where all of the file came
abbrev pub PartTurns : LineNo → SegNo → Option At → NodeNo → ℕ → Fate → Run → Run → Turn Unit → Type 0
PartTurns line seg by n job fate old new (Work w) =
    MeetsFaults seg old new × (has_copy_task n.0 job (spread_at (open_merge seg.0 old.rest.tasks.rows)) ≡ true) × (fate ≡ Whole)
PartTurns line seg by n job fate old new Done = PartEnds line seg by n job fate old new (has_copy_task n.0 job (spread_at (open_merge seg.0 old.rest.tasks.rows)))
PartTurns line seg by n job fate old new Busy = ⊥

-- no publish was in flight and the merge was cut over, or it was to be cut over no more
abbrev pub CutsOnce : LineNo → SegNo → Option At → Run → Run → Bool → Type 0
CutsOnce line seg by old new true = CutsOver line seg by old new × (publish_in_flight (printed old.log) ≡ None)
CutsOnce line seg by old new false = IsAsBefore old new

-- Busy exactly where the merge is to be cut over and a publish is in flight
abbrev pub CutTurns : LineNo → SegNo → Option At → Run → Run → Turn Unit → Type 0
CutTurns line seg by old new (Work w) = ⊥
CutTurns line seg by old new Busy = IsAsBefore old new × (is_copied (spread_at (open_merge seg.0 old.rest.tasks.rows)) ≡ true) × (publish_in_flight (printed old.log) ≢ None)
CutTurns line seg by old new Done = CutsOnce line seg by old new (is_copied (spread_at (open_merge seg.0 old.rest.tasks.rows)))

-- Busy exactly where fewer tasks than these count for the line and a task is posted; else it says how many do
abbrev pub DrainTurns : At → ℕ → Run → Run → Turn Unit → Type 0
DrainTurns at most old new (Work w) = ⊥
DrainTurns at most old new Busy = IsAsBefore old new × (counted_for at old.log < most) × (old.rest.tasks.posted ≢ [])
DrainTurns at most old new Done =
    IsBoard old new (shown at (Drained (counted_for at old.log) most) ∷ old.log) old.rest.tasks.rows old.rest.tasks.posted
    × ((counted_for at old.log ≡ most) ⊎ (old.rest.tasks.posted ≡ []))
