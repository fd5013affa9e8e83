-- What the files of a cluster's nodes have to do with each other and with the log: each name of a segment's file means the same
-- bytes at every node, and each running job copies what the log shows of it.
use Rattle.std.specs.Prelude.{ℕ, ◌≡◌, ◌≢◌, ◌≤◌, ◌<◌, ◌+◌, ◌^◌, List, true, false, Option, Some, None, IsSomeAnd, ⊤}
use Rattle.std.specs.List.{All}
use Rattle.nrt_base.specs.declared.numbers.At.{At}
use Rattle.disk_model.specs.Disk.{Name, Content, Cells}
use Rattle.file_names.specs.Names.{live_name_of}
use Rattle.segment_infos.specs.declared.infos.SegRecord.{SegRecord}
use Rattle.segment_steps.specs.Next.{live_base}
use Rattle.index_primary.specs.declared.parts.PrimaryParts.{PrimaryParts}
use Rattle.index_primary.specs.declared.states.Out.{Out}
use Rattle.index_primary.specs.Primary.{loose_of, IsUnwritten}
use Rattle.index_primary.specs.Held.{IsUndrawn}
use Rattle.replica_node.specs.Given.{HasMeta, IsLasting}
use Rattle.replica_node.specs.declared.job.PointJob.{PointJob}
use Rattle.replica_node.specs.declared.parts.ReplicaParts.{ReplicaParts}
use Rattle.replica_node.specs.Sources.{HeldReadAs, IsSourced}
use Rattle.history_rules.specs.Nodes.{Past, IsNode, newest_version, generation_of, version_of}
use Rattle.history_rules.specs.Lines.{start_entry, before_start, copy_in_flight}
use Rattle.history_rules.specs.Commits.{is_passed}
use Rattle.history_rules.specs.Points.{IsDrawnFile}
use Rattle.history_tables.specs.declared.jobs.Job.{Job}
use Rattle.history_book.specs.Log.{Log, printed}
use Rattle.history_book.specs.Jobs.{job_at}
use Rattle.merge_tasks.specs.TaskLog.{carried_out}
use Rattle.cluster_nodes.specs.declared.nodes.Node.{Node}
use Rattle.cluster_nodes.specs.declared.nodes.Node.TheVariants.{Primary, Replica, Down}
use Rattle.cluster_nodes.specs.declared.nodes.NodePlace.{NodePlace}
use Rattle.cluster_nodes.specs.Places.{place_of}
use Rattle.cluster_state.specs.FilesOut.{file_out}
use Rattle.cluster_state.specs.Names.{NamesShow}
use Rattle.cluster_state.specs.Disks.{IsPastPoint, DisksShow}
use Rattle.cluster_nodes.specs.Outs.{states_like, jobs_like}

-- The job of a replica is the one that the log shows to run there, and was not stopped: of its number and version, which no copy to
-- the node passed; the node was behind what its line noted, and is. Its point is one of the history, the files that it wants have their metadata at the
-- source, and each file that was handed out to it is as at the source.
pub record CopyShows (source : Name → Content) (log : Log) (n : ℕ) (job : Job) (j : PointJob) : Type 0 where
  pub runs : j.stopped ≡ false
  pub number : j.copy.number ≡ job.number
  pub version : j.infos.version.0 ≡ job.version.0
  pub point : IsPastPoint source (printed log) j.infos
  pub latest : is_passed n job.version.0 (printed log) ≡ false
  pub begun : start_entry job.at (printed log) ≢ None
  pub behind : version_of n (printed log) < newest_version (before_start job.at (printed log))
  pub metas : All (λ f. HasMeta source f.0 f.1) j.copy.want.files
  pub handed : (q : Name) (bytes : List ℕ) → file_out job.at n job.number q log ≡ Some bytes → source q ≡ Some bytes

-- a job was stopped: the files that it wants have their metadata at the source
pub record StoppedShows (source : Name → Content) (j : PointJob) : Type 0 where
  pub stopped : j.stopped ≡ true
  pub metas : All (λ f. HasMeta source f.0 f.1) j.copy.want.files

-- a replica has the job that the log shows to run there; where none runs it has none, or one that was stopped
abbrev pub JobShows : (Name → Content) → Log → ℕ → Option Job → Option PointJob → Type 0
JobShows source log n None None = ⊤
JobShows source log n None (Some j) = StoppedShows source j
JobShows source log n (Some job) (Some j) = CopyShows source log n job j
JobShows source log n job j = ⊥

-- the job is of this line and for this version
abbrev pub IsJobFor : At → ℕ → Job → Type 0
IsJobFor at v job = (job.at ≡ at) × (job.version.0 ≡ v)

-- Each name of a segment's file that means something is that of a segment which was drawn, and the live generation of a live file that
-- means something is none that a later generation may give.
pub record MeansDrawn (source : Name → Content) (past : Past) : Type 0 where
  pub drawn : (q : Name) (bytes : List ℕ) → IsLasting q → source q ≡ Some bytes → IsDrawnFile past q
  pub live : (r : SegRecord) (live_gen : ℕ) (bytes : List ℕ) → r.seg.0 < 2 ^ 64 → live_gen < 2 ^ 64 → source (live_name_of r.seg.0 live_gen) ≡ Some bytes
      → live_gen < live_base (generation_of past + 1) r

module _ {D : Type 0} where
  -- The replica's files read as at the source, its job is what the log shows, and what it searches is a point of the history; a copy of
  -- the newest version to it that is in flight is its job.
  pub record ReplicaFiles (source : Name → Content) (cells : D → Cells) (log : Log) (n : ℕ) (r : ReplicaParts D) : Type 0 where
    pub sourced : IsSourced source cells r
    pub job : JobShows source log n (job_at n log) r.job
    pub point : IsPastPoint source (printed log) r.infos
    pub flight : (at : At) → copy_in_flight n (newest_version (printed log)) (printed log) ≡ Some at
        → IsSomeAnd (job_at n log) (IsJobFor at (newest_version (printed log)))

  -- The primary's files read as at the source, where nothing stands under a name that is not written yet; its point is one of the history
  -- and of its generation, and of each state as many are out as there are jobs that began with one like it.
  pub record PrimaryFiles (source : Name → Content) (cells : D → Cells) (past : Past) (jobs : Out → ℕ) (p : PrimaryParts D) : Type 0 where
    pub held : HeldReadAs source (cells p.dir) p.files
    pub unwritten : (q : Name) → IsUnwritten p q → source q ≡ None
    pub point : IsPastPoint source past p.point_infos
    pub generation : p.point_infos.generation ≡ p.infos.generation
    pub outs : (s : Out) → jobs s ≤ states_like s p.states

  abbrev pub NodeFiles : (Name → Content) → (D → Cells) → Log → (Out → ℕ) → ℕ → Node D → Type 0
  NodeFiles source cells log jobs n (Primary p) = PrimaryFiles source cells (printed log) jobs p
  NodeFiles source cells log jobs n (Replica r) = ReplicaFiles source cells log n r
  NodeFiles source cells log jobs n (Down d) = ⊤

  -- What each name of a file means, and that all nodes have it so, with their commits, and what crashes left of them; what means
  -- something is drawn, and so is each name that stands at a running node; and what was handed out of a merged file is what its name means.
  pub record FilesShow (cells : D → Cells) (log : Log) (size : ℕ) (places : List (Option (NodePlace D))) : Type 0 where
    pub source : Name → Content
    pub drawn : MeansDrawn source (printed log)
    pub each : (n : ℕ) → IsNode size n
        → IsSomeAnd (place_of places n) (λ place. NodeFiles source cells log (λ s. jobs_like places s size) n place.node)
    pub names : (n : ℕ) → IsNode size n → IsSomeAnd (place_of places n) (λ place. NamesShow cells (printed log) place.node)
    pub disks : DisksShow source cells log size places
    pub carried : (q : Name) (bytes : List ℕ) → carried_out q log ≡ Some bytes → source q ≡ Some bytes
