use Rattle.segment_infos.proofs.RecordLaws.{HasTaken}
use Rattle.segment_infos.proofs.reading.take_records.Given as goal

abbrev pub invariant-loop : goal.invariant-loop
invariant-loop l = HasTaken l.count l.bytes l.counter l.records.items l.rest
