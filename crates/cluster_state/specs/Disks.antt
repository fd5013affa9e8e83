-- What the disks of a cluster's nodes have to do with its log: which versions their commits are of, and what a crash left.
use Rattle.std.specs.Prelude.{ℕ, ◌≡◌, ◌≤◌, ◌<◌, List, [], length, Option, Some, None, IfSome, IsSomeAnd, is_some, true, false, Contains, ⊤}
use Rattle.std.specs.List.{All, flat_map}
use Rattle.nrt_base.specs.declared.numbers.At.{At}
use Rattle.nrt_base.specs.declared.numbers.NodeNo.{NodeNo}
use Rattle.nrt_base.specs.declared.numbers.Version.{Version}
use Rattle.disk_model.specs.Disk.{Name, Content, Cells, reads_of}
use Rattle.segment_infos.specs.declared.infos.Infos.{Infos}
use Rattle.segment_infos.specs.Files.{files_of_segment}
use Rattle.seg_reader.specs.Stands.{StandsFor}
use Rattle.script_serving.specs.Refusals.{put_publishes}
use Rattle.index_primary.specs.Held.{AreNumbered}
use Rattle.commit_steps.specs.Book.{commit_of}
use Rattle.commit_steps.specs.declared.states.Commit.{Commit}
use Rattle.commit_steps.specs.declared.stage.Stage.{Stage}
use Rattle.commit_steps.specs.declared.stage.CommitBook.{CommitBook}
use Rattle.replica_node.specs.Given.{FindsPoint, IsSettledOn}
use Rattle.history_rules.specs.declared.entry.Event.TheVariants.{Committing}
use Rattle.history_rules.specs.Nodes.{Past, IsNode, generation_of, newest_version}
use Rattle.history_rules.specs.Lines.{start_entry, commit_in_flight}
use Rattle.history_rules.specs.Points.{documents_at}
use Rattle.history_rules.specs.Commits.{has_committed, is_stuck}
use Rattle.history_rules.specs.Tasks.{merge_count}
use Rattle.history_book.specs.Laws.{may_find}
use Rattle.history_book.specs.Log.{Log, printed}
use Rattle.cluster_nodes.specs.declared.nodes.NodePlace.{NodePlace}
use Rattle.cluster_nodes.specs.Places.{Disk, place_of, disk_at}

-- what a writer needs of a point to go on from it: no more segments than publishes had puts, each with a live row where no merge was
-- started, and numbers that are drawn
pub record IsWritable (past : Past) (infos : Infos) : Type 0 where
  pub few : length infos.segs ≤ put_publishes past
  pub live : merge_count past ≡ 0 → All (λ r. 0 < r.live) infos.segs
  pub numbered : AreNumbered infos []

-- a point of the history: no newer than the newest, of no later generation, of the documents of its version, and one that a writer may
-- go on from
pub record IsPastPoint (source : Name → Content) (past : Past) (infos : Infos) : Type 0 where
  pub known : infos.version.0 ≤ newest_version past
  pub generation : infos.generation.0 ≤ generation_of past
  pub stands : StandsFor source infos (documents_at past infos.version.0)
  pub writable : IsWritable past infos

-- such a point, of a version that a reopening of the node may find
pub record MayFindPoint (source : Name → Content) (past : Past) (n : ℕ) (infos : Infos) : Type 0 where
  pub point : IsPastPoint source past infos
  pub found : may_find n infos.version.0 past ≡ true

-- the last commit is such a point, or else the opening point is
abbrev pub LastShows : (Name → Content) → Past → ℕ → Option Commit → Type 0
LastShows source past n None = may_find n 1 past ≡ true
LastShows source past n (Some c) = MayFindPoint source past n c.infos

-- the commit of the line is such a point, of the version of its start where the node is not stuck
pub record CommitsPoint (source : Name → Content) (past : Past) (n : ℕ) (at : At) (c : Commit) : Type 0 where
  pub point : MayFindPoint source past n c.infos
  pub started : is_stuck n past ≡ false → (m : NodeNo) (v : Version) → start_entry at past ≡ Some (Committing m v) → c.infos.version.0 ≡ v.0

-- a commit that no line has in flight is such a point, and a fault of a disk refused a commit of the node
pub record StopsPoint (source : Name → Content) (past : Past) (n : ℕ) (c : Commit) : Type 0 where
  pub point : MayFindPoint source past n c.infos
  pub stuck : is_stuck n past ≡ true

-- The commit in flight at the node is that of the line which the history shows. Or it was stopped: no line has it in flight, or the
-- line's own is still to begin.
abbrev pub StageShows : (Name → Content) → Past → ℕ → Option At → Option Stage → Type 0
StageShows source past n None None = ⊤
StageShows source past n None (Some stage) = StopsPoint source past n (commit_of stage)
StageShows source past n (Some at) (Some stage) = CommitsPoint source past n at (commit_of stage)
StageShows source past n (Some at) None = is_stuck n past ≡ true

-- the commits of a running node
pub record BookShows (source : Name → Content) (past : Past) (n : ℕ) (book : CommitBook) : Type 0 where
  pub last : LastShows source past n book.last
  pub has : has_committed n past ≡ true → is_some book.last ≡ true
  pub flight : StageShows source past n (commit_in_flight n past) book.stage

-- what stands there reads as at the source
abbrev pub IsThereAs : (Name → Content) → (Name → Content) → Name → Type 0
IsThereAs source reads q = (reads q ≡ source q) × (is_some (reads q) ≡ true)

module _ {D : Type 0} where
  -- The directory of a node that is down: each of its images shows what it shows, and that is a point which a reopening may find, whose
  -- files read as at the source.
  pub record DirShows (source : Name → Content) (cells : D → Cells) (past : Past) (n : ℕ) (dir : D) : Type 0 where
    pub settled : IsSettledOn (cells dir)
    pub number : Option ℕ
    pub infos : Infos
    pub finds : FindsPoint (reads_of (cells dir)) number infos
    pub point : MayFindPoint source past n infos
    pub sourced : (q : Name) → Contains (flat_map files_of_segment infos.segs) q → IsThereAs source (reads_of (cells dir)) q
    pub has : has_committed n past ≡ true → is_some number ≡ true

  -- what stands of a node's commits, where it runs or is down
  pub record DiskShows (source : Name → Content) (cells : D → Cells) (past : Past) (n : ℕ) (disk : Disk D) : Type 0 where
    pub book : IfSome disk.book (BookShows source past n)
    pub dir : IfSome disk.dir (DirShows source cells past n)

  -- the same of all nodes
  abbrev pub DisksShow : (Name → Content) → (D → Cells) → Log → ℕ → List (Option (NodePlace D)) → Type 0
  DisksShow source cells log size places = (n : ℕ) → IsNode size n → IsSomeAnd (disk_at (place_of places n)) (DiskShows source cells (printed log) n)

-- what points rest on: versions, generations, publishes with puts and merges become no less, and the documents of a version are what they
-- were
pub record PointsStay (past now : Past) : Type 0 where
  pub newest : newest_version past ≤ newest_version now
  pub generation : generation_of past ≤ generation_of now
  pub puts : put_publishes past ≤ put_publishes now
  pub merges : merge_count past ≤ merge_count now
  pub documents : (v : ℕ) → v ≤ newest_version past → documents_at now v ≡ documents_at past v

-- what the commits of a node rest on: points are what they were, versions that a reopening may find are more, the commit in flight
-- is the one that was, and a stuck node stays so
pub record CommitsStay (past now : Past) (n : ℕ) : Type 0 where
  pub points : PointsStay past now
  pub found : (v : ℕ) → may_find n v past ≡ true → may_find n v now ≡ true
  pub committed : has_committed n now ≡ has_committed n past
  pub flight : commit_in_flight n now ≡ commit_in_flight n past
  pub start : (at : At) → commit_in_flight n past ≡ Some at → start_entry at now ≡ start_entry at past
  pub stuck : is_stuck n past ≡ true → is_stuck n now ≡ true
