-- The directory of a node, as callers see the cluster.
use Rattle.std.proofs.Common.{◌≡◌, ℕ, false, List, Option, sym, subst}
use Rattle.std.specs.Prelude.{IsSomeAnd}
use Rattle.disk_model.specs.Disk.{Name, Cells, reads_of}
use Rattle.searcher_switch.proofs.Standing.{stands_along}
use Rattle.history_rules.specs.Nodes.{IsNode, is_running}
use Rattle.history_rules.specs.Points.{documents_at}
use Rattle.history_book.specs.Log.{printed}
use Rattle.cluster_nodes.specs.declared.nodes.NodePlace.{NodePlace}
use Rattle.cluster_nodes.specs.Places.{disk_of, disk_at}
use Rattle.cluster_state.specs.Run.{Run}
use Rattle.cluster_state.specs.Files.{FilesShow}
use Rattle.cluster_state.specs.Disks.{DirShows, DiskShows}
use Rattle.cluster_state.specs.NodeDirs.{IsNodeDir, FindsVersion}
use Rattle.cluster_state.proofs.Frames.{place_shows}
use Rattle.cluster_recovery.proofs.Reopening.{down_dir}

-- where the node is down, a reopening may find the version that its directory shows
pub down_finds : {D : Type 0} (cells : D → Cells) (names : D → List Name) (r : Run) (n : ℕ) (dir : D) → IsNode r.nodes n → IsNodeDir cells names r n dir → is_running n (printed r.log) ≡ false
    → FindsVersion (printed r.log) n (reads_of (cells dir))
down_finds {D} cells names r n dir node d down = record {
  number = shows.number;
  infos = shows.infos;
  finds = shows.finds;
  found = shows.point.found;
  stands = stands_along files.source (reads_of (cells dir)) shows.infos (documents_at (printed r.log) shows.infos.version.0) (λ q named. (shows.sourced q named).0) shows.point.point.stands;
}
  where
    files : FilesShow cells r.log r.nodes d.places
    files = d.stands.1

    disk : DiskShows files.source cells (printed r.log) n (disk_of d.place.node)
    disk = subst (λ (o : Option (NodePlace D)). IsSomeAnd (disk_at o) (DiskShows files.source cells (printed r.log) n)) d.there (files.disks n node)

    shows : DirShows files.source cells (printed r.log) n dir
    shows = subst (DirShows files.source cells (printed r.log) n) (sym d.is)
        (down_dir cells files.source r.log n d.place.node down (place_shows cells r.log r.nodes n d.places d.place node d.there d.stands.0).node_shows disk)
