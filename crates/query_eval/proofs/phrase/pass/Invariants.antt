use Rattle.query_eval.proofs.PassLemmas.{IsPassing}
use Rattle.query_eval.proofs.phrase.pass.Given as goal

abbrev pub invariant-loop-word : goal.invariant-loop-word
invariant-loop-word l = IsPassing l.word-index l.fn.words l.words l.fn.row l.at
