-- What a copy of the newest point to a node takes.
use Rattle.std.specs.Prelude.{ℕ, ◌≡◌, List, Option, Some, is_none, filter}
use Rattle.nrt_base.specs.declared.numbers.NodeNo.{NodeNo}
use Rattle.disk_model.specs.Disk.{Name, Cells, reads_of}
use Rattle.copy_state.specs.declared.state.CopyState.{CopyState}
use Rattle.copy_state.specs.States.{meta_names, IsCopyState}
use Rattle.index_primary.specs.declared.parts.PrimaryParts.{PrimaryParts}
use Rattle.index_primary.specs.Cut.{last_number}
use Rattle.index_primary.specs.States.{IsStateOf}
use Rattle.history_rules.specs.Nodes.{Past, IsReplica, primary_of, newest_version}
use Rattle.history_book.specs.Log.{printed}
use Rattle.cluster_nodes.specs.declared.nodes.NodePlace.{NodePlace}
use Rattle.cluster_nodes.specs.JobPlaces.{AreBoth}
use Rattle.cluster_state.specs.Met.{ClusterStands}
use Rattle.cluster_state.specs.Run.{Run, names_at}

-- the node is no replica of a running primary: none runs, or the node is down or is the primary
abbrev pub HasNoSource : Past → ℕ → Type 0
HasNoSource past n = (p : NodeNo) → primary_of past ≡ Some p → IsReplica past n → ⊥

module _ {D : Type 0} (cells : D → Cells) where
  -- the copy state of the point that the primary searches, with the number of its last commit and the files of the merges that were cut over
  abbrev pub IsStateNow : PrimaryParts D → CopyState → Type 0
  IsStateNow p state = IsStateOf (reads_of (cells p.dir)) p.point_infos p.searchers.point.names (last_number p.commits) p.completed state

  -- What a copy of a primary's point to a node takes: the copy state, and the names of the point's files that this directory of the node
  -- does not have. The other directory is the primary's.
  pub record Takes (p : PrimaryParts D) (theirs : D) (state : CopyState) (lacking : List Name) (dir : D) : Type 0 where
    pub state_is : IsStateNow p state
    pub copy : IsCopyState state
    pub lacking_are : lacking ≡ filter (λ q. is_none (reads_of (cells theirs) q)) (meta_names state.files)
    pub dir_is : cells dir ≡ cells p.dir

  -- the primary and the directory of a replica, as a cluster that runs has them in these places and tells the names of their files
  pub record AreOfCluster (names : D → List Name) (r : Run) (p n : ℕ) (primary : PrimaryParts D) (theirs : D) : Type 0 where
    pub places : List (Option (NodePlace D))
    pub stands : ClusterStands cells r.nodes places r.rest.cut r.rest.tasks r.log
    pub both : AreBoth places p n
    pub primary_is : primary ≡ both.primary.parts
    pub theirs_is : theirs ≡ both.replica.parts.dir
    pub ours_told : names_at p r ≡ names primary.dir
    pub theirs_told : names_at n r ≡ names theirs
    pub newest : primary.point_infos.version.0 ≡ newest_version (printed r.log)

  -- what a copy of the newest point to the node takes, as the cluster stands
  pub record IsSend (names : D → List Name) (r : Run) (n : ℕ) (state : CopyState) (lacking : List Name) (dir : D) : Type 0 where
    pub p : NodeNo
    pub source : primary_of (printed r.log) ≡ Some p
    pub replica : IsReplica (printed r.log) n
    pub primary : PrimaryParts D
    pub theirs : D
    pub are : AreOfCluster names r p.0 n primary theirs
    pub takes : Takes primary theirs state lacking dir
