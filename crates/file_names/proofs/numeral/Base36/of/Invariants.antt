use Rattle.file_names.proofs.SpellingLemmas.{Spelled}
use Rattle.file_names.proofs.numeral.Base36.of.Given as goal

abbrev pub invariant-loop-rest : goal.invariant-loop-rest
invariant-loop-rest l = Spelled l.n l.bytes l.start l.rest

abbrev pub decreases-loop-rest : goal.decreases-loop-rest
decreases-loop-rest l = l.rest
