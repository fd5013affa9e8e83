use Rattle.std.proofs.Common.{take}
use Rattle.query_eval.proofs.PlaceLemmas.{ArePlaced}
use Rattle.query_eval.proofs.building.phrase_cursor.Given as goal

abbrev pub invariant-loop-word : goal.invariant-loop-word
invariant-loop-word l = ArePlaced l.seg.docs l.words.items (take l.word-index l.word-items)
