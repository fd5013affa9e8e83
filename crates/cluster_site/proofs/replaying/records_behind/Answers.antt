use Rattle.std.proofs.Common.{◌∙◌, ap, arith, drop, ℕ}
use Rattle.cluster_site.proofs.Accepts.{memory_is}
use Rattle.cluster_site.proofs.Replays.{dropped}
use Rattle.cluster_site.proofs.replaying.records_behind.Goals as goal

pub suffix-requires-clause-within : goal.suffix-requires-clause-within
suffix-requires-clause-within g c = omega (arith, c.at_most-from.ensures.within, c.len.ensures)

pub returns-in-Ok-clause-records : goal.returns-in-Ok-clause-records
returns-in-Ok-clause-records g c =
    c.in-Ok.ensures.records
    ∙ (dropped c.operation_count-count.result c.len.result c.at_most-from.result c.args.log.now.records.items c.len.ensures c.at_most-from.ensures.count ∙ ap (λ (k : ℕ). drop k c.args.log.now.records.items) c.operation_count-count.ensures.count)

pub memory_alone-requires : goal.memory_alone-requires
memory_alone-requires g c = memory_is c.suffix.result c.in-Err.fault c.in-Err.is c.suffix.ensures.only
