-- What commits make of a node in its place.
use Rattle.std.specs.Prelude.{ℕ, ◌≡◌, Bool, List, Option, Some, None, IsSomeAnd}
use Rattle.std.specs.Option.{option_map}
use Rattle.nrt_base.specs.declared.numbers.Version.{Version}
use Rattle.disk_model.specs.Disk.{Cells}
use Rattle.segment_infos.specs.declared.infos.Infos.{Infos}
use Rattle.commit_steps.specs.declared.stage.Stage.{Stage}
use Rattle.commit_steps.specs.declared.stage.CommitBook.{CommitBook}
use Rattle.commit_steps.specs.Book.{commit_of, book_after, is_last_step}
use Rattle.searcher_switch.specs.Node.{HoldsNoMore}
use Rattle.searcher_switch.specs.Appearing.{AppearsOnly, IsNameInFlight}
use Rattle.replica_node.specs.declared.parts.ReplicaParts.{ReplicaParts}
use Rattle.replica_node.specs.Replica.{IsWholeReplica, AreStanding}
use Rattle.replica_node.specs.Sources.{KeepsSource}
use Rattle.index_primary.specs.declared.parts.PrimaryParts.{PrimaryParts}
use Rattle.index_primary.specs.Primary.{IsPrimary, KeepsHeldBytes}
use Rattle.cluster_nodes.specs.declared.nodes.Node.{Node}
use Rattle.cluster_nodes.specs.declared.nodes.Node.TheVariants.{Primary, Replica, Down}
use Rattle.cluster_nodes.specs.declared.nodes.NodePlace.{NodePlace}
use Rattle.cluster_nodes.specs.Places.{place_of, disk_of}
use Rattle.cluster_nodes.specs.JobPlaces.{MovesOne}

-- the commit in flight at a node that runs
abbrev pub HasStage : (Option Stage → Type 0) → Option CommitBook → Type 0
HasStage P book = IsSomeAnd book (λ b. P b.stage)

-- the version of the commit in flight at a node that runs
abbrev pub committing : Option CommitBook → Option Version
committing None = None
committing (Some book) = option_map (λ stage. (commit_of stage).infos.version) book.stage

-- the book is as before: the disk failed
abbrev pub KeepsBook : Infos → CommitBook → CommitBook → Type 0
KeepsBook infos was now = now ≡ was

-- the next call of the directory was made for the commit in flight, the last one or not
pub record StepsBook (done : Bool) (infos : Infos) (was now : CommitBook) : Type 0 where
  pub after : now ≡ book_after was
  pub ends : done ≡ is_last_step was.stage

module _ {D : Type 0} where
  -- The primary, but for its directory, its counts and its commits: it holds no file of a segment that nobody held, and what came to stand has
  -- a name of the commit in flight.
  pub record AltersPrimaryCommits (cells : D → Cells) (old new : PrimaryParts D) : Type 0 where
    pub others : new ≡ record old { dir = new.dir; files = new.files; commits = new.commits }
    pub whole : IsPrimary cells new
    pub stays : KeepsHeldBytes cells old new
    pub no_more : IsPrimary cells old → HoldsNoMore old.files new.files
    pub appears : AppearsOnly (IsNameInFlight old.commits.stage) (cells old.dir) (cells new.dir)

  -- the same of a replica
  pub record AltersReplicaCommits (cells : D → Cells) (old new : ReplicaParts D) : Type 0 where
    pub others : new ≡ record old { dir = new.dir; files = new.files; commits = new.commits }
    pub whole : IsWholeReplica cells new
    pub standing : AreStanding cells old → AreStanding cells new
    pub sourced : KeepsSource cells old new
    pub appears : AppearsOnly (IsNameInFlight old.commits.stage) (cells old.dir) (cells new.dir)

  -- a running node of which only the commits moved, and those so, with the infos of its point
  abbrev pub AltersCommits : (Infos → CommitBook → CommitBook → Type 0) → (D → Cells) → Node D → Node D → Type 0
  AltersCommits Step cells (Primary p) (Primary q) = AltersPrimaryCommits cells p q × Step p.point_infos p.commits q.commits
  AltersCommits Step cells (Replica r) (Replica s) = AltersReplicaCommits cells r s × Step r.infos r.commits s.commits
  AltersCommits Step cells old new = ⊥

  -- the same of the node in a place
  pub record CommitsIn (Step : Infos → CommitBook → CommitBook → Type 0) (cells : D → Cells) (n : ℕ) (old new : List (Option (NodePlace D))) : Type 0 where
    pub place : NodePlace D
    pub there : place_of old n ≡ Some place
    pub node : Node D
    pub moves : MovesOne n (record { node = node; held = place.held }) old new
    pub alters : AltersCommits Step cells place.node node

  -- a commit of the node in a place is so
  abbrev pub HasStageAt : (Option Stage → Type 0) → Option (NodePlace D) → Type 0
  HasStageAt P place = IsSomeAnd place (λ z. HasStage P (disk_of z.node).book)

  -- the version of the commit in flight of the node in a place
  abbrev pub committing_there : Option (NodePlace D) → Option Version
  committing_there None = None
  committing_there (Some place) = committing (disk_of place.node).book
