use Rattle.std.proofs.Common.{sym, subst}
use Rattle.disk_model.specs.Disk.{Cells}
use Rattle.replica_opening.specs.Opened.{IsSettledOn}
use Rattle.replica_opening.proofs.Settled.{restarted_settled}
use Rattle.node_tests.proofs.files.crashed.Goals as goal

pub returns-in-Ok : goal.returns-in-Ok
returns-in-Ok g c = let h = c.in-Ok.ensures.image in subst (λ (x : Cells). IsSettledOn x) (sym h.2) (restarted_settled h.0)
