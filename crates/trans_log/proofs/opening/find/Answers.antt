use Rattle.trans_log.proofs.LogFound.{never_gap}
use Rattle.trans_log.proofs.opening.find.Goals as goal

pub returns-in-Some-clause-whole : goal.returns-in-Some-clause-whole
returns-in-Some-clause-whole g c rs reads = never_gap c.args.names.now (g.D.Dir.cells c.args.dir.now) c.requires c.last_number-last.result c.last_number-last.ensures rs c.in-Some.number reads c.in-Some.ensures
