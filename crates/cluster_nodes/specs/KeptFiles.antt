-- What calls leave of the files of a node.
use Rattle.std.specs.Prelude.{◌≡◌, ◌<◌}
use Rattle.std.specs.List.{Contains, flat_map}
use Rattle.disk_model.specs.Disk.{Name, Cells}
use Rattle.file_deleter.specs.Holdings.{count_of}
use Rattle.segment_infos.specs.Files.{files_of_segment}
use Rattle.index_primary.specs.declared.parts.PrimaryParts.{PrimaryParts}
use Rattle.searcher_switch.specs.Appearing.{NoneAppears, AppearsOnly}
use Rattle.replica_node.specs.declared.parts.ReplicaParts.{ReplicaParts}
use Rattle.replica_node.specs.Sources.{KeepsSource}
use Rattle.index_primary.specs.Held.{IsOwnFile}
use Rattle.index_primary.specs.Primary.{KeepsHeldBytes, loose_of}
use Rattle.index_primary.specs.Calls.{FillsUndrawn, DrawsOnly, HoldsNoNew}
use Rattle.cluster_nodes.specs.declared.nodes.Node.{Node}
use Rattle.cluster_nodes.specs.declared.nodes.Node.TheVariants.{Primary, Replica, Down}

module _ {D : Type 0} where
  -- the primary holds no new file, wrote no name, and reads, numbers and searches as before
  pub record KeepsPrimaryFiles (cells : D → Cells) (old new : PrimaryParts D) : Type 0 where
    pub stays : KeepsHeldBytes cells old new
    pub no_new : HoldsNoNew old new
    pub drawn : DrawsOnly old new
    pub appears : NoneAppears (cells old.dir) (cells new.dir)
    pub commits : new.commits ≡ old.commits
    pub point : new.point_infos ≡ old.point_infos
    pub generation : new.infos.generation ≡ old.infos.generation

  -- the primary's files are those from before and such as were not written yet, which its point names; what it wrote has names of its own
  -- segments
  pub record FillsPrimaryFiles (cells : D → Cells) (old new : PrimaryParts D) : Type 0 where
    pub stays : KeepsHeldBytes cells old new
    pub fresh : FillsUndrawn old new
    pub drawn : DrawsOnly old new
    pub appears : AppearsOnly (IsOwnFile old.infos (loose_of old)) (cells old.dir) (cells new.dir)
    pub commits : new.commits ≡ old.commits
    pub named : (name : Name) → count_of old.files name ≡ 0 → 0 < count_of new.files name → Contains (flat_map files_of_segment new.infos.segs) name
    pub point : new.point_infos ≡ new.infos
    pub states : new.states ≡ old.states

  -- the replica wrote no name, its files read as at the source where they did, and its jobs, the copies of merged segments and its point's
  -- version are those from before
  pub record KeepsReplicaFiles (cells : D → Cells) (old new : ReplicaParts D) : Type 0 where
    pub sourced : KeepsSource cells old new
    pub appears : NoneAppears (cells old.dir) (cells new.dir)
    pub commits : new.commits ≡ old.commits
    pub infos : new.infos ≡ old.infos
    pub job : new.job ≡ old.job
    pub jobs : new.jobs ≡ old.jobs
    pub copies : new.copies ≡ old.copies
    pub version : new.searchers.point.version ≡ old.searchers.point.version

  -- a call of a node left its files and its job as they were
  abbrev pub KeepsNodeFiles : (D → Cells) → Node D → Node D → Type 0
  KeepsNodeFiles cells (Primary p) (Primary q) = KeepsPrimaryFiles cells p q × (q.states ≡ p.states)
  KeepsNodeFiles cells (Replica r) (Replica s) = KeepsReplicaFiles cells r s
  KeepsNodeFiles cells (Down d) (Down e) = e ≡ d
  KeepsNodeFiles cells old new = ⊥
