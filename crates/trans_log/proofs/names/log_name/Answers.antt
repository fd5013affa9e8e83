use Rattle.std.proofs.Common.{arith}
use Rattle.trans_log.proofs.LogNames.{log_name_is}
use Rattle.trans_log.proofs.names.log_name.Goals as goal

pub numbered-requires-clause-name : goal.numbered-requires-clause-name
numbered-requires-clause-name c = log_name_is c.args.number (omega arith)
