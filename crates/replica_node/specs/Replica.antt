-- What a replica holds, and what is true of it.
use Rattle.std.specs.Prelude.{◌≡◌, ◌+◌, ◌<◌, ◌≤◌, ◌^◌, ℕ, true, false, List, [], ◌++◌, Option, Some, None, IfSome}
use Rattle.std.specs.List.{AllByRecursion}
use Rattle.file_names.specs.Names.{is_commit_name, is_pending_name}
use Rattle.disk_model.specs.Disk.{Name, Content, Cells, is_among, reads_of}
use Rattle.file_deleter.specs.Holdings.{Holdings, times}
use Rattle.segment_infos.specs.declared.infos.Infos.{Infos}
use Rattle.segment_infos.specs.Infos.{CanSpell, IsInfosFile}
use Rattle.segment_infos.specs.Files.{AreFilesOf}
use Rattle.seg_reader.specs.Shown.{Shown}
use Rattle.searcher_switch.specs.Node.{IsWholeNode}
use Rattle.searcher_switch.specs.Standing.{StandsForSome, IsStanding}
use Rattle.searcher_switch.specs.declared.open.SearchPoint.{SearchPoint}
use Rattle.searcher_switch.specs.Searching.{searcher_names}
use Rattle.copy_state.specs.declared.meta.FileMetaData.{FileMetaData}
use Rattle.copy_state.specs.declared.state.CopyState.{CopyState}
use Rattle.copy_state.specs.States.{meta_names, meta_in}
use Rattle.copy_job.specs.declared.part.JobKind.TheVariants.{Merge as MergeKind}
use Rattle.copy_job.specs.Parts.{own_names, written_names, ArePlaceable}
use Rattle.copy_job.specs.Jobs.{Job, IsJob, job_names, present_of, reads_under}
use Rattle.replica_node.specs.declared.job.PointJob.{PointJob}
use Rattle.replica_node.specs.declared.merges.MergeCopies.{MergeCopies}
use Rattle.replica_node.specs.declared.parts.ReplicaParts.{ReplicaParts}
use Rattle.replica_opening.specs.Known.{HasMeta, KnowsHeld}
use Rattle.replica_opening.specs.Readers.{AreReaders}
use Rattle.replica_node.specs.Merges.{copies_names, CopyApart, AreCopiesApart, IsSegmentState, SharesNone}
use Rattle.replica_node.specs.Waiting.{HasNoTemporary, IsWaiting}

-- the names that a job holds, where there is one
abbrev pub names_of_job : Option PointJob → List Name
names_of_job None = []
names_of_job (Some j) = job_names j.copy

-- the names that the copies of a replica hold: the job's, those of merge copies, and the pending files
abbrev pub copying_names : {D : Type 0} → ReplicaParts D → List Name
copying_names p = names_of_job p.job ++ copies_names p.copies

-- the names that hold beside the commits: open tickets and the present point, and the copies
abbrev pub replica_names : {D : Type 0} → ReplicaParts D → List Name
replica_names p = searcher_names p.searchers ++ copying_names p

-- the point that is searched is that of the infos: it has their version, their files and their segments
pub record IsPointOf (reads : Name → Content) (infos : Infos) (point : SearchPoint Shown) : Type 0 where
  pub version : point.version ≡ infos.version
  pub names : AreFilesOf infos point.names
  pub readers : AreReaders reads infos.segs point.readers

-- the state spells these infos, of their version and generation, and its files are those that they name
pub record IsPointState (state : CopyState) (infos : Infos) : Type 0 where
  pub spelled : IsInfosFile infos state.infos
  pub version : infos.version ≡ state.version
  pub generation : infos.generation ≡ state.primary_gen
  pub files : AreFilesOf infos (meta_names state.files)

-- the job copies a point above this version, and has its infos
pub record IsJobAbove (version : ℕ) (j : PointJob) : Type 0 where
  pub copy : IsJob j.copy
  pub state : IsPointState j.copy.want j.infos
  pub above : version < j.infos.version.0

-- the job has each file that it lacks no more, under the name that it has now, with the metadata that the state has of it
pub record HasMetas (reads : Name → Content) (j : Job) : Type 0 where
  pub each : (q : Name) (meta : FileMetaData) → meta_in j.want.files q ≡ Some meta → times j.missing q ≡ 0 → HasMeta (reads_under j.parts reads) q meta

-- A copy of a merged segment that runs: its number was given by the replica, nobody holds what it lacks, and what it has has the metadata that is wanted.
pub record IsMergeCopy (cells : Cells) (holdings : Holdings) (jobs : ℕ) (c : Job) : Type 0 where
  pub kind : c.kind ≡ MergeKind
  pub copy : IsJob c
  pub segment : IsSegmentState c.want
  pub given : c.number ≤ jobs
  pub waits : IsWaiting holdings c
  pub copied : HasMetas (reads_of cells) c

-- Each merge copy that runs is one; they and the job have numbers of their own, and copy no file twice; no temporary file is pending; and no
-- segment is expected, since a copy is expected and comes in one call.
pub record AreMergeCopies (cells : Cells) (holdings : Holdings) (jobs : ℕ) (job : Option PointJob) (c : MergeCopies) : Type 0 where
  pub each : AllByRecursion (IsMergeCopy cells holdings jobs) c.running
  pub apart : AreCopiesApart c.running
  pub beside_job : IfSome job (λ j. AllByRecursion (CopyApart j.copy) c.running)
  pub job_given : IfSome job (λ j. j.copy.number ≤ jobs)
  pub pending : HasNoTemporary (meta_names c.pending.files)
  pub unexpected : c.pending.expected ≡ []

-- The replica's files are whole; the point that is searched is that of its infos, which a file can spell, by the segments at hand, and no temporary
-- file is searched; the metadata of each file that is held is known; its job copies a newer point, has what it copied, and can place its parts; and so do its
-- merge copies.
pub record IsWholeReplica {D : Type 0} (cells : D → Cells) (p : ReplicaParts D) : Type 0 where
  pub node : IsWholeNode (cells p.dir) p.files (replica_names p) p.commits
  pub point : IsPointOf (reads_of (cells p.dir)) p.infos p.searchers.point
  pub spelled : CanSpell p.infos
  pub segs : p.segs ≡ p.searchers.point.readers
  pub known : KnowsHeld (reads_of (cells p.dir)) p.files p.known
  pub lasting : HasNoTemporary (searcher_names p.searchers)
  pub newer : IfSome p.job (IsJobAbove p.searchers.point.version.0)
  pub waits : IfSome p.job (λ j. IsWaiting p.files j.copy)
  pub copied : IfSome p.job (λ j. HasMetas (reads_of (cells p.dir)) j.copy)
  pub few : p.jobs < 2 ^ 63
  pub merges : AreMergeCopies (cells p.dir) p.files p.jobs p.job p.copies

-- the state is of a point above the one that is searched, of the greatest generation seen
pub record IsWanted {D : Type 0} (p : ReplicaParts D) (state : CopyState) : Type 0 where
  pub infos : Infos
  pub is : IsPointState state infos
  pub seen : state.primary_gen ≡ p.seen
  pub above : p.searchers.point.version.0 < state.version.0

-- the state is of a merged segment, of the greatest generation seen; no job, no merge copy and no pending file names one of its files
pub record MayLaunch {D : Type 0} (p : ReplicaParts D) (state : CopyState) : Type 0 where
  pub segment : IsSegmentState state
  pub seen : state.primary_gen ≡ p.seen
  pub job : IfSome p.job (λ j. SharesNone (meta_names j.copy.want.files) (meta_names state.files))
  pub copies : AllByRecursion (λ c. SharesNone (meta_names c.want.files) (meta_names state.files)) p.copies.running
  pub pending : SharesNone (meta_names p.copies.pending.files) (meta_names state.files)

-- the point that is searched is of some documents, and so is each commit
pub record AreStanding {D : Type 0} (cells : D → Cells) (p : ReplicaParts D) : Type 0 where
  pub point : StandsForSome (reads_of (cells p.dir)) p.infos
  pub commits : IsStanding (reads_of (cells p.dir)) p.commits

-- its parts can be given their own names, which are no commit's
pub record CanPlace (holdings : Holdings) (j : Job) : Type 0 where
  pub able : ArePlaceable holdings j.parts
  pub plain : (q : Name) → is_among (written_names j.parts) q ≡ true → (is_commit_name q ≡ false) × (is_pending_name q ≡ false)

-- each file that the job has reads what it read, under the name that it has now
pub record KeepsReads (was now : Job) (before after : Cells) : Type 0 where
  pub each : (q : Name) → 0 < times (own_names was.parts) q + times was.reused q → (after (present_of now.parts q)).now ≡ (before (present_of was.parts q)).now
