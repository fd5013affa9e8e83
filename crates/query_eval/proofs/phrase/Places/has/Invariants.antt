use Rattle.std.proofs.Common.{length}
use Rattle.query_eval.specs.Places.{all_left}
use Rattle.query_eval.proofs.ReaderLemmas.{IsReading}
use Rattle.query_eval.proofs.phrase.Places.has.Given as goal

abbrev pub invariant-loop-self : goal.invariant-loop-self
invariant-loop-self l = IsReading l.place (all_left l.self-inside.next l.self-inside.rest) l.fn.self

abbrev pub decreases-loop-self : goal.decreases-loop-self
decreases-loop-self l = length (all_left l.self-inside.next l.self-inside.rest)
