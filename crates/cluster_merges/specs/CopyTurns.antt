-- What the next step of a copy of a merged segment makes of a cluster.
use Rattle.std.specs.Prelude.{ℕ, ◌≡◌, ◌+◌, ◌∷◌, ◌++◌, ◌⊎◌, Bool, true, false, List, Option, Some, None, IsSome, ⊤}
use Rattle.nrt_base.specs.declared.numbers.At.{At}
use Rattle.nrt_base.specs.declared.numbers.LineNo.{LineNo}
use Rattle.nrt_base.specs.declared.numbers.NodeNo.{NodeNo}
use Rattle.nrt_base.specs.declared.numbers.SegNo.{SegNo}
use Rattle.codec_frame.specs.Checking.{HasFooter}
use Rattle.copy_state.specs.Meta.{IsMetaOf}
use Rattle.history_tables.specs.declared.jobs.Job.{Job}
use Rattle.history_book.specs.Jobs.{job_at}
use Rattle.history_book.specs.Log.{kept}
use Rattle.history_book.specs.declared.inner.Inner.TheVariants.{FileOut, TaskEnd}
use Rattle.history_book.specs.declared.inner.Step.TheVariants.{PreCopy as PreCopyStep}
use Rattle.merge_tasks.specs.Merging.{Sheet}
use Rattle.merge_tasks.specs.Fates.{fate_due}
use Rattle.merge_tasks.specs.TaskLog.{carried_out}
use Rattle.merge_tasks.specs.Board.{Board, open_merge, spread_at, with_spread, sent_left, sent_less, post_after, done_under, counts_one}
use Rattle.cluster_nodes.specs.declared.tasks.FileTask.{FileTask}
use Rattle.cluster_state.specs.DueFaults.{with_due}
use Rattle.cluster_state.specs.Met.{has_risen}
use Rattle.cluster_state.specs.Run.{Run}
use Rattle.cluster_merges.specs.MergePaths.{IsAsBefore, HandsMergedFile, EndsCopyTask, FailsCopy}
use Rattle.cluster_merges.specs.declared.precopies.CopyTurn.{CopyTurn}
use Rattle.cluster_merges.specs.declared.precopies.CopyTurn.TheVariants.{Waits, Hands, Ends, Fails}

-- A copy that misses a file waits where the job of a point runs at its node, and is handed the file where none runs; one that misses none, or
-- does not run, ends; and any ends where a disk fails.
abbrev pub IsTurnWhere : Bool → Option Job → CopyTurn → Type 0
IsTurnWhere misses job Waits = (misses ≡ true) × IsSome job
IsTurnWhere misses job (Hands file) = (misses ≡ true) × (job ≡ None)
IsTurnWhere misses job Ends = misses ≡ false
IsTurnWhere misses job Fails = ⊤

-- ---- over what a path has in hand

-- the task of a copy has ended and counts, the copy is left no more, and the last one posts the task to cut over
pub record EndsCopyOf (line : LineNo) (seg : SegNo) (by : Option At) (n : NodeNo) (job : ℕ) (b now : Sheet) (board after : Board) : Type 0 where
  pub log : now.log ≡ kept (TaskEnd line seg by (PreCopyStep n job) true) ∷ b.log
  pub nodes : now.nodes ≡ b.nodes
  pub cut : now.cut ≡ b.cut
  pub rows : after.rows ≡ with_spread seg.0 (sent_less n.0 job (spread_at (open_merge seg.0 board.rows))) board.rows
  pub posted : after.posted ≡ board.posted ++ post_after seg line (sent_left (sent_less n.0 job (spread_at (open_merge seg.0 board.rows))))
  pub counts : (x : At) → done_under x after.counts ≡ done_under x board.counts + counts_one x by

-- the same, as the disk of this node failed: what every disk had met before, and has met now
pub record FailsCopyOf (line : LineNo) (seg : SegNo) (by : Option At) (failed n : NodeNo) (job : ℕ) (olds news : List (ℕ × ℕ)) (b now : Sheet) (board after : Board) : Type 0 where
  pub ends : EndsCopyOf line seg by n job b now board after
  pub risen : has_risen failed.0 1 olds news ≡ true

-- the faults that were met stand there, and nothing else changed
pub record MeetsOf (b now : Sheet) (board after : Board) : Type 0 where
  pub log : now.log ≡ b.log
  pub nodes : now.nodes ≡ b.nodes
  pub cut : now.cut ≡ b.cut
  pub board_is : after ≡ board

-- a file of the merged segment was handed out, with its metadata and what becomes of it, behind the faults that it meets, which are of this line; it
-- ends in a footer
pub record HandsCopyFile (at : At) (line : LineNo) (n : NodeNo) (job : ℕ) (b now : Sheet) (board after : Board) (file : FileTask) : Type 0 where
  pub log : now.log ≡ kept (FileOut line n job file.name file.source file.fate None) ∷ with_due true at n.0 b.log
  pub fate : file.fate ≡ fate_due n.0 b.log
  pub nodes : now.nodes ≡ b.nodes
  pub board_is : after ≡ board
  pub out : carried_out file.name now.log ≡ Some file.source
  pub meta : IsMetaOf file.source file.meta
  pub footer : HasFooter file.source

-- The copy waits while the job of a point runs at its node; or its next file was handed out; or it missed none, or does not run any more, and its
-- task has ended; or that ended as the disk of the primary or of the node failed. But for the first, the faults that were met stand there before.
abbrev pub StepsCopyTo : At → LineNo → SegNo → Option At → NodeNo → NodeNo → ℕ → List (ℕ × ℕ) → List (ℕ × ℕ) → Sheet → Sheet → Sheet → Board → Board → CopyTurn → Type 0
StepsCopyTo at line seg by p n job olds news b met now board after Waits = (now ≡ b) × (after ≡ board) × IsSome (job_at n.0 b.log)
StepsCopyTo at line seg by p n job olds news b met now board after (Hands file) = HandsCopyFile at line n job met now board after file
StepsCopyTo at line seg by p n job olds news b met now board after Ends = EndsCopyOf line seg by n job met now board after
StepsCopyTo at line seg by p n job olds news b met now board after Fails =
    FailsCopyOf line seg by p n job olds news met now board after ⊎ FailsCopyOf line seg by n n job olds news met now board after

-- ---- as callers see it

-- the same of the next step
abbrev pub TurnsCopy : LineNo → SegNo → Option At → NodeNo → ℕ → Run → Run → CopyTurn → Type 0
TurnsCopy line seg by n job old new Waits = IsAsBefore old new × IsSome (job_at n.0 old.log)
TurnsCopy line seg by n job old new (Hands file) = HandsMergedFile line seg n job old new file
TurnsCopy line seg by n job old new Ends = EndsCopyTask line seg by n job old new
TurnsCopy line seg by n job old new Fails = FailsCopy line seg by n job old new
