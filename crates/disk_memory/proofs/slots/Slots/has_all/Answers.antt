use Rattle.std.proofs.Common.{List, All, subst}
use Rattle.std.specs.Bool.{OnTrue}
use Rattle.disk_model.specs.Disk.{Name}
use Rattle.disk_memory.specs.Held.{Held}
use Rattle.disk_memory.specs.Table.{HasFile}
use Rattle.disk_memory.proofs.slots.Slots.has_all.Goals as goal

pub returns-clause-yes : goal.returns-clause-yes
returns-clause-yes c = subst (λ (entries : List (Name × Held)). OnTrue c.has_all.result (All (λ q. HasFile entries q) c.args.names.now)) c.self.view_is c.has_all.ensures.yes
