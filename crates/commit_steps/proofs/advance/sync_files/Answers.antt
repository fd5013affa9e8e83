use Rattle.commit_steps.proofs.Advancing.{begun_goes}
use Rattle.commit_steps.proofs.advance.sync_files.Goals as goal

pub returns-in-Ok-clause-advances : goal.returns-in-Ok-clause-advances
returns-in-Ok-clause-advances g c holdings st =
    begun_goes (g.D.Dir.cells c.args.dir.now) (g.D.Dir.cells c.sync_files.new.dir) holdings c.args.state st c.in-Ok.synced c.in-Ok.ensures.ok c.in-Ok.ensures.cells
