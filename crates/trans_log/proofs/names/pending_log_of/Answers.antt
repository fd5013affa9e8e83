use Rattle.std.proofs.Common.{◌∙◌}
use Rattle.trans_log.proofs.names.pending_log_of.Goals as goal

pub returns-clause-all : goal.returns-clause-all
returns-clause-all c = λ n is. c.number_behind.ensures.all n is.0 (c.as_slice.ensures.bytes ∙ is.1)
