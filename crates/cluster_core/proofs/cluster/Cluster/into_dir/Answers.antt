use Rattle.std.proofs.Common.{◌≡◌, false, subst}
use Rattle.disk_model.specs.Disk.{reads_of}
use Rattle.history_rules.specs.Nodes.{is_running}
use Rattle.history_book.specs.Log.{printed}
use Rattle.cluster_state.specs.Run.{Run}
use Rattle.cluster_state.specs.NodeDirs.{FindsVersion}
use Rattle.cluster_core.proofs.cluster.Cluster.into_dir.Goals as goal

pub returns-clause-down : goal.returns-clause-down
returns-clause-down g c =
    subst (λ (r : Run). is_running c.args.n.0 (printed r.log) ≡ false → FindsVersion (printed r.log) c.args.n.0 (reads_of (g.D.Dir.cells c.into_dir.result))) c.self.view_is c.into_dir.ensures.down
