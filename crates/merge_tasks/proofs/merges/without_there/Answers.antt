use Rattle.merge_tasks.proofs.MergeRowLemmas.{fewer}
use Rattle.merge_tasks.proofs.merges.without_there.Goals as goal

pub returns-clause-fewer : goal.returns-clause-fewer
returns-clause-fewer c = fewer c.args.rows.now.items c.without.new.rows.items c.args.seg.0 c.without.ensures.rows c.requires
