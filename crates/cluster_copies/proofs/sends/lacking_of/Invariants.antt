use Rattle.std.proofs.Common.{◌≡◌, take}
use Rattle.std.specs.Prelude.{is_none, filter}
use Rattle.disk_model.specs.Disk.{reads_of}
use Rattle.copy_state.specs.States.{meta_names}
use Rattle.cluster_copies.proofs.sends.lacking_of.Given as goal

abbrev pub invariant-loop-name : goal.invariant-loop-name
invariant-loop-name g l = l.names.items ≡ filter (λ q. is_none (reads_of (g.D.Dir.cells l.dir) q)) (meta_names (take l.name-index l.state.files))
