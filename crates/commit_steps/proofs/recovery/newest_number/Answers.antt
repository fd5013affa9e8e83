use Rattle.std.proofs.Common.{List, ap, ◌∙◌}
use Rattle.disk_model.specs.Disk.{Name, is_among}
use Rattle.commit_steps.proofs.Recovering.{newest_answer}
use Rattle.commit_steps.proofs.recovery.newest_number.Goals as goal

pub returns-in-Ok-clause-found : goal.returns-in-Ok-clause-found
returns-in-Ok-clause-found g c =
    newest_answer (g.D.Dir.cells c.args.dir.now) c.as_slice.result.now (λ q. ap (λ (ns : List Name). is_among ns q) c.as_slice.ensures.value ∙ c.in-Ok.ensures.names q) c.last_commit.result c.last_commit.ensures.greatest
