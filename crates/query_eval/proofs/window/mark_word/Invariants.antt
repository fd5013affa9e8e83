use Rattle.std.proofs.Common.{length}
use Rattle.query_eval.proofs.WordRowLemmas.{IsMarkingWord}
use Rattle.query_eval.proofs.window.mark_word.Given as goal

abbrev pub invariant-rows : goal.invariant-rows
invariant-rows l = IsMarkingWord l.start l.fn.word l.word l.fn.times l.times l.marks

abbrev pub decreases-rows : goal.decreases-rows
decreases-rows l = length l.word
