use Rattle.commit_steps.proofs.Advancing.{written_goes}
use Rattle.commit_steps.proofs.advance.sync_pending.Goals as goal

pub returns-in-Ok-clause-advances : goal.returns-in-Ok-clause-advances
returns-in-Ok-clause-advances g c holdings st =
    written_goes (g.D.Dir.cells c.args.dir.now) (g.D.Dir.cells c.sync_pending.new.dir) holdings c.args.state st c.in-Ok.pending c.in-Ok.ensures.ok c.in-Ok.ensures.cells
