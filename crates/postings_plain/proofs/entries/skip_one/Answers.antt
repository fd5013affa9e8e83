use Rattle.postings_plain.proofs.PlaceLaws.{one_position}
use Rattle.postings_plain.proofs.entries.skip_one.Goals as goal

pub returns-in-len2-up-clause-position : goal.returns-in-len2-up-clause-position
returns-in-len2-up-clause-position c = one_position c.args.bytes.now c.in-len2-up.len_at_least c.if-count-eq1.true c.if-position-lt128.true
