-- What the nodes of a cluster are that has just started.
use Rattle.std.specs.Prelude.{ℕ, ◌≡◌, List, [], None, Some}
use Rattle.copy_job.specs.Jobs.{Job}
use Rattle.cluster_nodes.specs.declared.nodes.Node.{Node}
use Rattle.cluster_nodes.specs.declared.nodes.Node.TheVariants.{Primary, Replica, Down}
use Rattle.disk_model.specs.Disk.{Name, Cells, Image, IsImage, reads_of}
use Rattle.seg_reader.specs.Stands.{StandsFor, AreSegmentsOf}
use Rattle.commit_steps.specs.declared.stage.CommitBook.{CommitBook}
use Rattle.replica_node.specs.Given.{opening_infos}
use Rattle.replica_node.specs.declared.parts.ReplicaParts.{ReplicaParts}
use Rattle.replica_node.specs.Replica.{IsWholeReplica, AreStanding}
use Rattle.replica_node.specs.Sources.{IsSourced}
use Rattle.cluster_nodes.specs.declared.nodes.NodePlace.{NodePlace}
use Rattle.cluster_state.specs.State.{PlaceShows}
use Rattle.cluster_state.specs.Names.{NamesShow}
use Rattle.cluster_state.specs.Files.{NodeFiles}
use Rattle.cluster_state.specs.Disks.{DiskShows}
use Rattle.cluster_nodes.specs.Places.{disk_of}
use Rattle.cluster_nodes.specs.Outs.{want_at}

-- nothing stands in the directory, and a crash leaves nothing there
pub record IsEmptyDir (cells : Cells) : Type 0 where
  pub now : (q : Name) → (cells q).now ≡ None
  pub images : (image : Image) → IsImage cells image → (q : Name) → image q ≡ None

-- nothing was committed, and nothing is in flight
pub record IsUncommitted (book : CommitBook) : Type 0 where
  pub last : book.last ≡ None
  pub stage : book.stage ≡ None

-- a replica on an empty directory: it stands at the opening point, which has no documents, and nothing was done with it
pub record IsOpening {D : Type 0} (cells : D → Cells) (r : ReplicaParts D) : Type 0 where
  pub whole : IsWholeReplica cells r
  pub standing : AreStanding cells r
  pub infos : r.infos ≡ opening_infos
  pub searched : AreSegmentsOf [] r.searchers.point.readers
  pub stands : StandsFor (reads_of (cells r.dir)) r.infos []
  pub empty : (q : Name) → (cells r.dir q).now ≡ None
  pub tickets : r.searchers.tickets ≡ []
  pub commits : IsUncommitted r.commits
  pub seen : r.seen ≡ r.infos.generation
  pub sourced : IsSourced (λ q. None) cells r
  pub job : r.job ≡ None
  pub jobs : r.jobs ≡ 0
  pub copies : r.copies.running ≡ []

-- the copies of merged segments that run at a node
abbrev pub copies_at : {D : Type 0} → Node D → List Job
copies_at (Primary p) = []
copies_at (Replica r) = r.copies.running
copies_at (Down d) = []

-- a node that has just started: it is what the empty log shows, it has its files as at a source where nothing stands, no name stands
-- there, and it has no commit, no job and no copy of a merged segment
pub record OpensPlace {D : Type 0} (cells : D → Cells) (n : ℕ) (place : NodePlace D) : Type 0 where
  pub shows : PlaceShows cells [] n place
  pub files : NodeFiles (λ q. None) cells [] (λ s. 0) n place.node
  pub named : NamesShow cells [] place.node
  pub disk : DiskShows (λ q. None) cells [] n (disk_of place.node)
  pub idle : want_at (Some place) ≡ None
  pub uncopied : copies_at place.node ≡ []
