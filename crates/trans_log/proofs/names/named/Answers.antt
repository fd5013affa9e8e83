use Rattle.trans_log.proofs.LogNames.{not_refused}
use Rattle.trans_log.proofs.names.named.Goals as goal

pub unreachable-requires : goal.unreachable-requires
unreachable-requires c = not_refused c.args.bytes.now c.file_name.result c.in-Err.field-0 c.requires c.in-Err.is c.file_name.ensures.empty c.file_name.ensures.long c.file_name.ensures.byte
