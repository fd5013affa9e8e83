use Rattle.trans_log.proofs.LogFound.{last_more}
use Rattle.trans_log.proofs.opening.last_number.Goals as goal

pub loop-name-preserved : goal.loop-name-preserved
loop-name-preserved c =
    last_more c.args.names.now c.loop-name.name-index c.name-item.result c.loop-name.last c.greater-last.result c.loop-name-test.true c.name-item.is c.greater-last.ensures.one c.greater-last.ensures.most c.greater-last.ensures.more c.loop-name.invariant
