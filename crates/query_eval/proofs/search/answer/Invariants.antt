use Rattle.std.proofs.Common.{take, drop}
use Rattle.query_eval.proofs.AnswerLemmas.{AreCounted}
use Rattle.query_eval.proofs.search.answer.Given as goal

abbrev pub invariant-loop-seg : goal.invariant-loop-seg
invariant-loop-seg l = AreCounted l.query (take l.seg-index l.segs) (drop l.seg-index l.segs) l.best
