use Rattle.std.proofs.Common.{length}
use Rattle.query_eval.specs.Best.{IsBar}
use Rattle.query_eval.proofs.WordLemmas.{IsSearchingWord}
use Rattle.query_eval.proofs.search.search_word.Given as goal

abbrev pub invariant-loop-row : goal.invariant-loop-row
invariant-loop-row l = IsSearchingWord l.word l.seg l.initial.best l.hits l.best × IsBar l.seg.docs l.places l.bar l.best.hits

abbrev pub decreases-loop-row : goal.decreases-loop-row
decreases-loop-row l = length l.hits
