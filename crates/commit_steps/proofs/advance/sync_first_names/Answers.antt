use Rattle.commit_steps.proofs.Advancing.{pending_goes}
use Rattle.commit_steps.proofs.advance.sync_first_names.Goals as goal

pub returns-in-Ok-clause-advances : goal.returns-in-Ok-clause-advances
returns-in-Ok-clause-advances g c holdings st =
    pending_goes (g.D.Dir.cells c.args.dir.now) (g.D.Dir.cells c.sync_names.new.dir) holdings c.args.state st c.in-Ok.named c.in-Ok.ensures.ok c.in-Ok.ensures.cells
