use Rattle.std.proofs.Common.{ap, ◌∙◌}
use Rattle.disk_memory.specs.Held.{Held, cell}
use Rattle.disk_memory.specs.Memory.{entries_of, image_in}
use Rattle.disk_memory.proofs.CrashLemmas.{picks_image, started_cell}
use Rattle.disk_memory.proofs.memory.MemDirFaultDir.crash.Goals as goal

pub returns-clause-picked : goal.returns-clause-picked
returns-clause-picked c = λ i q. (ap (λ (h : Held). cell h) (c.crash_all.ensures q) ∙ started_cell (image_in c.args.self.now c.args.pick q)) i

pub returns-clause-image : goal.returns-clause-image
returns-clause-image c =
    (image_in c.args.self.now c.args.pick, picks_image c.args.pick (entries_of c.args.self.now), returns-clause-picked c)
