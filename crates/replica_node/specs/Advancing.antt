-- A newer point in hand, before it is searched.
use Rattle.std.specs.Prelude.{◌≡◌, ◌+◌, ◌<◌, List, ◌++◌, Contains}
use Rattle.std.specs.List.{flat_map}
use Rattle.disk_model.specs.Disk.{Name, Cells, reads_of}
use Rattle.file_deleter.specs.Holdings.{Holdings, times}
use Rattle.file_deleter.specs.Moves.{MovesCounts}
use Rattle.segment_infos.specs.declared.infos.Infos.{Infos}
use Rattle.segment_infos.specs.Infos.{CanSpell}
use Rattle.segment_infos.specs.Files.{files_of_segment, AreFilesOf}
use Rattle.searcher_switch.specs.Standing.{StandsForSome}
use Rattle.copy_job.specs.Parts.{own_names, written_names}
use Rattle.copy_job.specs.Jobs.{Job, job_names, reads_under}
use Rattle.replica_node.specs.declared.advancing.NewPoint.{NewPoint}
use Rattle.replica_opening.specs.Readers.{AreReaders}
use Rattle.replica_node.specs.Replica.{CanPlace}

-- nothing is missing of the job's point, its parts can be given their own names, and its files, read under the names that they have now, are of some documents
pub record IsJobReady (cells : Cells) (holdings : Holdings) (j : Job) (infos : Infos) : Type 0 where
  pub spelled : CanSpell infos
  pub can_place : CanPlace holdings j
  pub complete : (q : Name) → Contains (flat_map files_of_segment infos.segs) q → 0 < times (own_names j.parts) q + times j.reused q
  pub standing : StandsForSome (reads_under j.parts (reads_of cells)) infos

-- the new point is in hand: its files are counted once more, and have the bytes that the job had of them
pub record TakesInHand (was now : Job) (infos : Infos) (olds dropped : List Name) (point : NewPoint) (old new : Holdings) (before after : Cells) : Type 0 where
  pub names : AreFilesOf infos point.names
  pub readers : AreReaders (reads_of after) infos.segs point.segs
  pub shared : point.readers ≡ point.segs
  pub gone : (q : Name) → times point.gone q ≡ times olds q + times (job_names now) q + times dropped q
  pub moves : MovesCounts (written_names was.parts) (job_names was) (point.names ++ job_names now) old new before after
  pub reads : (q : Name) → Contains (flat_map files_of_segment infos.segs) q → (after q).now ≡ reads_under was.parts (reads_of before) q
