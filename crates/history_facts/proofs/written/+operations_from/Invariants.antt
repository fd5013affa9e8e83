use Rattle.history_facts.specs.Origins.{size_of}
use Rattle.history_facts.proofs.written.+operations_from.Given as goal

abbrev pub decreases-operations_from : goal.decreases-operations_from
decreases-operations_from l = size_of l.origin
