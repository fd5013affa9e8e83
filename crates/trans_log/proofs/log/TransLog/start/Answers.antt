use Rattle.trans_log.proofs.LogFound.{open_start, safe_start, ok_no_gap, gap_told, one_log}
use Rattle.trans_log.proofs.log.TransLog.start.Goals as goal

pub returns-in-Ok-clause-log : goal.returns-in-Ok-clause-log
returns-in-Ok-clause-log g c = open_start (g.D.Dir.cells c.args.dir) (g.D.Dir.cells c.read_log.new.dir) c.in-Ok.records.items c.in-Ok.ensures.ok c.read_log.ensures.others c.in-Ok.ensures.clear

pub returns-in-Ok-clause-safe : goal.returns-in-Ok-clause-safe
returns-in-Ok-clause-safe g c same_logs = safe_start (g.D.Dir.cells c.args.dir) (g.D.Dir.cells c.read_log.new.dir) c.in-Ok.records.items c.in-Ok.ensures.few c.in-Ok.ensures.ok c.read_log.ensures.others same_logs

pub returns-in-Ok-clause-whole : goal.returns-in-Ok-clause-whole
returns-in-Ok-clause-whole g c rs few reads = one_log _ c.in-Ok.records.items rs c.in-Ok.ensures.few few c.in-Ok.ensures.ok reads

pub returns-in-Ok-clause-gap : goal.returns-in-Ok-clause-gap
returns-in-Ok-clause-gap g c n gap = ok_no_gap _ c.in-Ok.records.items n _ c.in-Ok.ensures.ok gap

pub returns-in-Err-clause-gap : goal.returns-in-Err-clause-gap
returns-in-Err-clause-gap g c n gap = gap_told _ n c.in-Err.fault gap c.in-Err.ensures.err
