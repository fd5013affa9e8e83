-- What the calls of a job that runs rest on, and what they note.
use Rattle.std.specs.Prelude.{ℕ, ◌≡◌, ◌≢◌, ◌≤◌, ◌<◌, ◌+◌, ◌*◌, ◌∷◌, ◌⊎◌, false, true, List, Option, Some, None, length, map}
use Rattle.nrt_base.specs.declared.numbers.At.{At}
use Rattle.nrt_base.specs.declared.numbers.NodeNo.{NodeNo}
use Rattle.codec_frame.specs.Bytes.{AreBytes}
use Rattle.disk_model.specs.Disk.{Name}
use Rattle.disk_model.specs.Faults.{Plans}
use Rattle.copy_state.specs.declared.meta.FileMetaData.{FileMetaData}
use Rattle.link_model.specs.declared.fate.Fate.TheVariants.{Whole}
use Rattle.history_rules.specs.declared.cause.Cause.TheVariants.{DiskFault}
use Rattle.history_rules.specs.declared.entry.Event.TheVariants.{Refused}
use Rattle.history_rules.specs.Nodes.{IsNode, IsReplica, primary_of}
use Rattle.history_rules.specs.Lines.{is_answered, highest_switched}
use Rattle.history_rules.specs.Rules.{IsLineWhole}
use Rattle.history_rules.specs.Legal.{IsLegalPast}
use Rattle.history_tables.specs.declared.jobs.JobRow.{JobRow}
use Rattle.history_tables.specs.Begins.{open_line}
use Rattle.history_book.specs.Log.{Log, printed, shown, kept}
use Rattle.history_book.specs.declared.inner.Inner.TheVariants.{FileOut, JobEnd}
use Rattle.history_book.specs.Jobs.{LaneJobShows}
use Rattle.history_book.specs.Turns.{AreInTurn}
use Rattle.merge_tasks.specs.Fates.{fate_due}
use Rattle.merge_tasks.specs.Merging.{Sheet}
use Rattle.cluster_nodes.specs.declared.nodes.NodePlace.{NodePlace}
use Rattle.cluster_nodes.specs.declared.tasks.FileTask.{FileTask}
use Rattle.cluster_state.specs.Copies.{JobRuns}
use Rattle.cluster_state.specs.DueFaults.{with_due}
use Rattle.cluster_state.specs.Met.{ArePlanned, met_in, with_met, has_risen}

-- A job runs at a replica, and the primary is its source. Its line has no reply, and has switched no node as high.
pub record IsGoing (row : JobRow) (p : NodeNo) (size : ℕ) (log : Log) : Type 0 where
  pub runs : JobRuns log row
  pub line : open_line row.job.at (printed log) ≢ None
  pub unanswered : is_answered row.job.at (printed log) ≡ false
  pub ordered : highest_switched row.job.at (printed log) < row.job.node.0
  pub legal : IsLegalPast size (printed log)
  pub lane : LaneJobShows size (printed log) row
  pub replica : IsReplica (printed log) row.job.node.0
  pub source : IsNode size p.0
  pub primary : primary_of (printed log) ≡ Some p

module _ {D : Type 0} where
  -- there is room for the faults that the disks in these places have met since, and for so many entries more
  pub record HasRoomToTell (more : ℕ) (before : List (ℕ × ℕ)) (places : List (Option (NodePlace D))) (b : Sheet) : Type 0 where
    pub room : 2 * length before + more ≤ b.room
    pub count : length before ≡ b.nodes
    pub nodes : length places ≡ b.nodes
    pub few : length before ≤ 255

  module _ (planned : D → Plans) where
    -- the log with the faults in front that the disks in these places have met since
    abbrev pub met_since : At → List (ℕ × ℕ) → List (Option (NodePlace D)) → Log → Log
    met_since at before places log = with_met false at 1 before (map (met_in planned) places) log

    -- those faults can be told for a line: there is room for them, they are planned, and the line has no reply
    pub record CanTell (at : At) (more : ℕ) (before : List (ℕ × ℕ)) (places : List (Option (NodePlace D))) (b : Sheet) : Type 0 where
      pub room : HasRoomToTell more before places b
      pub met : ArePlanned 1 before (map (met_in planned) places) (printed b.log)
      pub unanswered : is_answered at (printed b.log) ≡ false

    -- behind those faults the line of a job was refused for the disk of this node, which met one of them, and the job has ended
    pub record RefusesForDisk (row : JobRow) (n : NodeNo) (before : List (ℕ × ℕ)) (places : List (Option (NodePlace D))) (old new : Sheet) : Type 0 where
      pub risen : has_risen n.0 1 before (map (met_in planned) places) ≡ true
      pub log : new.log ≡ kept (JobEnd row.job.at.line row.job.node row.job.number) ∷ shown row.job.at (Refused DiskFault) ∷ met_since row.job.at before places old.log
      pub legal : IsLegalPast old.nodes (printed (met_since row.job.at before places old.log))
      pub turns : AreInTurn (printed (met_since row.job.at before places old.log))

    -- behind those faults a file was handed out to a job: what becomes of it is what is due, and where it is not to come whole, its line had met
    -- no fault in a file
    pub record HandsOut (row : JobRow) (file : Name × FileMetaData) (before : List (ℕ × ℕ)) (places : List (Option (NodePlace D))) (old new : Sheet) (task : FileTask) : Type 0 where
      pub task_is : task ≡ record { name = file.0; source = task.source; meta = file.1; fate = task.fate }
      pub bytes : AreBytes task.source
      pub fate : task.fate ≡ fate_due row.job.node.0 (met_since row.job.at before places old.log)
      pub spared : (fate_due row.job.node.0 old.log ≡ Whole) ⊎ IsLineWhole old.nodes (printed old.log) row.job.at
      pub log : new.log ≡ kept (FileOut row.job.at.line row.job.node row.job.number file.0 task.source task.fate (Some row.job.at)) ∷ with_due false row.job.at row.job.node.0 (met_since row.job.at before places old.log)
