use Rattle.std.proofs.Common.{◌≡◌, length}
use Rattle.std.specs.List.{All}
use Rattle.disk_memory.specs.Memory.{cells_in}
use Rattle.cluster_state.specs.Starting.{IsEmptyDir}
use Rattle.cluster_run.proofs.script.empty_dirs.Given as goal

abbrev pub invariant-loop : goal.invariant-loop
invariant-loop l = (length l.dirs.items ≡ l.counter) × All (λ dir. IsEmptyDir (cells_in dir)) l.dirs.items
