use Rattle.std.proofs.Common.{◌-◌, ◌^◌}
use Rattle.query_eval.proofs.PhraseLemmas.{IsAligning}
use Rattle.query_eval.proofs.phrase.align.Given as goal

abbrev pub invariant-loop-found : goal.invariant-loop-found
invariant-loop-found l = IsAligning l.fn.words l.words l.fn.row l.least

abbrev pub decreases-loop-found : goal.decreases-loop-found
decreases-loop-found l = 2 ^ 32 - l.least
