-- What the beginning and the end of a job make of the primary and of the replica.
use Rattle.std.specs.Prelude.{ℕ, ◌≡◌, ◌≤◌, ◌<◌, ◌+◌, ◌^◌, ◌∷◌, ◌++◌, [], List, filter, not, nat_lt, false, Option, Some, None, IsSome, IsSomeAnd, IfSome, ⊤, ◌⊎◌, true}
use Rattle.std.specs.List.{All}
use Rattle.nrt_base.specs.declared.doc.Doc.{Doc}
use Rattle.disk_model.specs.Disk.{Name, Content, Cells, reads_of, same}
use Rattle.file_deleter.specs.Holdings.{Holdings, count_of, times}
use Rattle.file_names.specs.Names.{temp_name_of}
use Rattle.searcher_switch.specs.Appearing.{NoneAppears, AppearsOnly}
use Rattle.replica_node.specs.declared.job.PointJob.{PointJob}
use Rattle.replica_node.specs.declared.merges.MergeCopies.{MergeCopies}
use Rattle.replica_node.specs.declared.parts.ReplicaParts.{ReplicaParts}
use Rattle.replica_node.specs.Jobs.{IsPointJob, running_point, job_seen}
use Rattle.replica_node.specs.Merges.{copies_seen}
use Rattle.replica_node.specs.Replica.{IsWholeReplica, AreStanding}
use Rattle.replica_node.specs.Sources.{IsSourced, KeepsSource, IsWantedName}
use Rattle.replica_node.specs.Overlapping.{copies_beside}
use Rattle.replica_node.specs.Parting.{pending_after}
use Rattle.seg_reader.specs.Stands.{StandsFor}
use Rattle.segment_infos.specs.Infos.{IsInfosFile}
use Rattle.copy_state.specs.declared.state.CopyState.{CopyState}
use Rattle.copy_state.specs.declared.meta.FileMetaData.{FileMetaData}
use Rattle.copy_state.specs.States.{meta_names, meta_in}
use Rattle.copy_job.specs.declared.copying.Part.{Part}
use Rattle.copy_job.specs.Parts.{own_names, placed_to}
use Rattle.copy_job.specs.Jobs.{Job, reads_under}
use Rattle.index_primary.specs.declared.parts.PrimaryParts.{PrimaryParts}
use Rattle.index_primary.specs.declared.states.Out.{Out}
use Rattle.index_primary.specs.Primary.{IsPrimary}
use Rattle.index_primary.specs.States.{out_of, states_without, IsMetaIn}
use Rattle.cluster_nodes.specs.declared.nodes.NodePlace.{NodePlace}
use Rattle.cluster_nodes.specs.declared.nodes.Node.TheVariants.{Primary, Replica, Down}
use Rattle.cluster_nodes.specs.Outs.{want_of}
use Rattle.cluster_nodes.specs.KeptFiles.{KeepsPrimaryFiles}

-- the states without the one that is given back, where one is
abbrev pub given_back : Option Out → List Out → List Out
given_back None states = states
given_back (Some s) states = states_without s states

-- what is left of the copies of merged segments and of pending files where a job begins on this state: nothing of an older generation, and no copy that
-- copies a file of the state
abbrev pub copies_begun : (seen : ℕ) → CopyState → MergeCopies → MergeCopies
copies_begun seen state c = record (copies_seen seen state.primary_gen.0 c) { running = copies_beside (meta_names state.files) (copies_seen seen state.primary_gen.0 c).running }

-- the next file of a job, the first that is still to come, with the metadata that is wanted of it; none where it lacks none
abbrev pub IsNextToFetch : Job → Option (Name × FileMetaData) → Type 0
IsNextToFetch j None = j.missing ≡ []
IsNextToFetch j (Some file) = (rest : List Name) × (j.missing ≡ file.0 ∷ rest) × (meta_in j.want.files file.0 ≡ Some file.1)

-- the same of a job that copies a point
abbrev pub IsNextFile : PointJob → Option (Name × FileMetaData) → Type 0
IsNextFile j file = IsNextToFetch j.copy file

-- the name is the temporary one of a file that the job lacks
abbrev pub IsTemporaryIn : PointJob → Name → Name → Type 0
IsTemporaryIn j file q = (0 < times j.copy.missing file) × (j.copy.number < 2 ^ 64) × (q ≡ temp_name_of file j.copy.number)

-- the name is that of a file that the job wants, or the temporary one of a file that it lacks
abbrev pub IsLeftName : PointJob → Name → Type 0
IsLeftName j q = IsWantedName (Some j) q ⊎ ((file : Name) × IsTemporaryIn j file q)

-- where a part was to be written, it has the bytes of the source
abbrev pub IsPartAt : (Name → Content) → Option Part → Type 0
IsPartAt source None = ⊤
IsPartAt source (Some part) = source part.name ≡ Some part.bytes

-- a job that lacks a part of this name no more, and is otherwise the same but for its parts: none is gone, and the one that it lacked is one
pub record HasTaken (name : Name) (j k : PointJob) : Type 0 where
  pub number : k.copy.number ≡ j.copy.number
  pub want : k.copy.want ≡ j.copy.want
  pub infos : k.infos ≡ j.infos
  pub stopped : k.stopped ≡ j.stopped
  pub missing : k.copy.missing ≡ filter (λ q. not (same q name)) j.copy.missing
  pub stays : (q : Name) → 0 < times (own_names j.copy.parts) q → 0 < times (own_names k.copy.parts) q
  pub part : 0 < times j.copy.missing name → 0 < times (own_names k.copy.parts) name

module _ {D : Type 0} where
  -- a replica is there, with a job that runs
  abbrev pub HasJob : Option (NodePlace D) → Type 0
  HasJob None = ⊥
  HasJob (Some place) = elim place.node [ Primary p ↦ ⊥ | Replica r ↦ IsSome (running_point r.job) | Down d ↦ ⊥ ]

  -- this is the next file of the job that runs there
  abbrev pub HasNextFile : Option (NodePlace D) → Option (Name × FileMetaData) → Type 0
  HasNextFile None file = ⊥
  HasNextFile (Some place) file = elim place.node [ Primary p ↦ ⊥ | Replica r ↦ IsSomeAnd (running_point r.job) (λ j. IsNextFile j file) | Down d ↦ ⊥ ]

  -- a replica is there
  abbrev pub HasReplica : Option (NodePlace D) → Type 0
  HasReplica None = ⊥
  HasReplica (Some place) = elim place.node [ Primary p ↦ ⊥ | Replica r ↦ ⊤ | Down d ↦ ⊥ ]

  -- the copy state is that of the primary's point
  pub record IsStateOfPoint (cells : D → Cells) (p : PrimaryParts D) (state : CopyState) : Type 0 where
    pub infos : IsInfosFile p.point_infos state.infos
    pub version : state.version ≡ p.point_infos.version
    pub generation : state.primary_gen ≡ p.point_infos.generation
    pub names : meta_names state.files ≡ p.searchers.point.names
    pub metas : All (IsMetaIn (reads_of (cells p.dir))) state.files

  -- the primary is as before, but for its directory, its counts and the copy states that are out
  pub record AltersStates (cells : D → Cells) (old new : PrimaryParts D) : Type 0 where
    pub others : new ≡ record old { dir = new.dir; files = new.files; states = new.states }
    pub whole : IsPrimary cells old → IsPrimary cells new
    pub files : KeepsPrimaryFiles cells old new

  -- the replica is as before, but for its directory, where it wrote no name, its counts, what it has seen, its job and its copies of merged segments
  pub record AltersJob (cells : D → Cells) (old new : ReplicaParts D) : Type 0 where
    pub others : new ≡ record old { dir = new.dir; files = new.files; seen = new.seen; jobs = new.jobs; job = new.job; copies = new.copies }
    pub whole : IsWholeReplica cells old → IsWholeReplica cells new
    pub standing : AreStanding cells old → AreStanding cells new
    pub sourced : KeepsSource cells old new
    pub appears : NoneAppears (cells old.dir) (cells new.dir)

  -- A job of the primary's point began, on a copy state that is out. It took over what it wanted of an older one, of which the state was given
  -- back where it ran; where the generation is a higher one, a stopped job was gone before.
  pub record BeginsAt (cells : D → Cells) (number : ℕ) (p q : PrimaryParts D) (r s : ReplicaParts D) : Type 0 where
    pub primary : AltersStates cells p q
    pub replica : AltersJob cells r s
    pub state : CopyState
    pub of_point : IsStateOfPoint cells p state
    pub job : PointJob
    pub there : s.job ≡ Some job
    pub want : job.copy.want ≡ state
    pub infos : IsInfosFile job.infos state.infos
    pub number_is : job.copy.number ≡ number
    pub next : number ≡ r.jobs + 1
    pub jobs : s.jobs ≡ r.jobs + 1
    pub seen : s.seen ≡ p.point_infos.generation
    pub states : q.states ≡ given_back (want_of r.job) (p.states ++ out_of state ∷ [])
    pub copies : s.copies ≡ copies_begun r.seen.0 state r.copies
    pub holdings : Holdings
    pub begun : IsPointJob number state holdings (job_seen r.seen.0 p.point_infos.generation.0 r.job) job
    pub fewer : (q : Name) → count_of holdings q ≤ count_of r.files q
    pub quiet : nat_lt r.seen.0 p.point_infos.generation.0 ≡ false → holdings ≡ r.files

  -- the replica searches the point of its job, which has ended, and the job's state was given back; what it wrote are names that the
  -- job wanted
  pub record FinishesAt (cells : D → Cells) (j : PointJob) (p q : PrimaryParts D) (r s : ReplicaParts D) : Type 0 where
    pub primary : AltersStates cells p q
    pub states : q.states ≡ states_without (out_of j.copy.want) p.states
    pub others : s ≡ record r { dir = s.dir; files = s.files; searchers = s.searchers; infos = s.infos; segs = s.segs; job = s.job; copies = s.copies; known = s.known }
    pub whole : IsWholeReplica cells s
    pub standing : AreStanding cells r → AreStanding cells s
    pub sourced : KeepsSource cells r s
    pub appears : AppearsOnly (IsWantedName (Some j)) (cells r.dir) (cells s.dir)
    pub infos : s.infos ≡ j.infos
    pub job : s.job ≡ None
    pub tickets : s.searchers.tickets ≡ r.searchers.tickets
    pub copies : s.copies ≡ record r.copies { pending = pending_after (meta_names j.copy.want.files) j.copy.want.completed r.copies.pending }
    pub stands : (docs : List Doc) → StandsFor (reads_under j.copy.parts (reads_of (cells r.dir))) j.infos docs → StandsFor (reads_of (cells s.dir)) s.infos docs

  -- the part is in, or the job did not lack it: the replica is as before, but for its directory, where it wrote the part's temporary
  -- name at most, its counts and its job, which lacks the part no more
  pub record TakesPart (cells : D → Cells) (part : Part) (old new : ReplicaParts D) : Type 0 where
    pub others : new ≡ record old { dir = new.dir; files = new.files; job = new.job }
    pub whole : IsWholeReplica cells old → IsWholeReplica cells new
    pub standing : AreStanding cells old → AreStanding cells new
    pub sourced : (source : Name → Content) → source part.name ≡ Some part.bytes → IsSourced source cells old → IsSourced source cells new
    pub job : IfSome (running_point old.job) (λ j. IsSomeAnd (running_point new.job) (HasTaken part.name j))
    pub appears : IfSome (running_point old.job) (λ j. AppearsOnly (IsTemporaryIn j part.name) (cells old.dir) (cells new.dir))

  -- A job was stopped, at most while this part was written, and its state was given back. It keeps its parts, of which some may have their own
  -- names by now; the replica is as before otherwise, but for its directory and its counts, and for the metadata that it knows.
  pub record StopsAt (cells : D → Cells) (part : Option Part) (j : PointJob) (p q : PrimaryParts D) (r s : ReplicaParts D) : Type 0 where
    pub primary : AltersStates cells p q
    pub states : q.states ≡ states_without (out_of j.copy.want) p.states
    pub others : s ≡ record r { dir = s.dir; files = s.files; job = s.job; known = s.known }
    pub whole : IsWholeReplica cells r → IsWholeReplica cells s
    pub standing : AreStanding cells r → AreStanding cells s
    pub sourced : (source : Name → Content) → IsPartAt source part → IsSourced source cells r → IsSourced source cells s
    pub placed : ℕ
    pub job : s.job ≡ Some (record j { copy = record j.copy { parts = placed_to placed j.copy.parts }; stopped = true })
    pub appears : AppearsOnly (IsLeftName j) (cells r.dir) (cells s.dir)

  -- so it is of the job that runs
  abbrev pub StopsFor : (D → Cells) → Option Part → PrimaryParts D → PrimaryParts D → ReplicaParts D → ReplicaParts D → Type 0
  StopsFor cells part p q r s = IfSome (running_point r.job) (λ j. StopsAt cells part j p q r s)

  -- the primary's disk failed: nothing began, and the primary is as before, but for its directory and its counts
  pub record BeginsNot (cells : D → Cells) (p q : PrimaryParts D) (r s : ReplicaParts D) : Type 0 where
    pub primary : AltersStates cells p q
    pub states : q.states ≡ p.states
    pub replica : s ≡ r

  -- a file was read at the primary, which is as before, but for its directory and its counts
  pub record ReadsFor (cells : D → Cells) (name : Name) (bytes : List ℕ) (p q : PrimaryParts D) (r s : ReplicaParts D) : Type 0 where
    pub primary : AltersStates cells p q
    pub states : q.states ≡ p.states
    pub there : (cells p.dir name).now ≡ Some bytes
    pub replica : s ≡ r
