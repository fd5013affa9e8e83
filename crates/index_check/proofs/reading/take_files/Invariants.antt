use Rattle.index_check.proofs.Taking.{HasTaken}
use Rattle.index_check.proofs.reading.take_files.Given as goal

abbrev pub invariant-loop : goal.invariant-loop
invariant-loop l = HasTaken l.count l.bytes l.counter l.before l.files.items l.rest
