use Rattle.history_rules.proofs.PlainLaws.{plainly_legal}
use Rattle.history_rules.proofs.plain_laws.is_plainly_legal.Goals as goal

pub returns : goal.returns
returns c = plainly_legal c.args.h.now c.requires
