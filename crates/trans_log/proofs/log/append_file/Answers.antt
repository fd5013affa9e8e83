use Rattle.trans_log.proofs.Appending.{appends_after}
use Rattle.trans_log.proofs.log.append_file.Goals as goal

pub returns-clause-appends : goal.returns-clause-appends
returns-clause-appends g c =
    appends_after (g.D.Dir.cells c.args.dir.now) (g.D.Dir.cells c.write_pending.new.dir) (g.D.Dir.cells c.publish.new.dir) c.args.number c.args.entry.now c.publish.result
    c.write_pending.ensures.others (c.publish.ensures.appends c.args.entry.now c.in_ok-write_pending.ensures.ok)
