use Rattle.commit_steps.proofs.Advancing.{renamed_goes}
use Rattle.commit_steps.proofs.advance.sync_last_names.Goals as goal

pub returns-in-Ok-clause-advances : goal.returns-in-Ok-clause-advances
returns-in-Ok-clause-advances g c holdings st =
    renamed_goes (g.D.Dir.cells c.args.dir.now) (g.D.Dir.cells c.sync_names.new.dir) holdings c.args.state st c.in-Ok.done c.in-Ok.ensures.ok c.in-Ok.ensures.cells
