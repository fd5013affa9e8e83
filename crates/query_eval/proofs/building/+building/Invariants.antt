use Rattle.std.proofs.Common.{drop}
use Rattle.query_eval.specs.Cursor.{all_answer, any_answers, rank_of_any}
use Rattle.query_eval.proofs.BuildLemmas.{AllSoFar, AnySoFar, RanksSoFar}
use Rattle.query_eval.proofs.building.+building.Given as goal

abbrev pub invariant-cursor_of_all-loop-part : goal.invariant-cursor_of_all-loop-part
invariant-cursor_of_all-loop-part l = record {
  answers : AllSoFar l.seg.docs l.parts (drop l.part-index l.part-items) (all_answer l.all);
  ranks : RanksSoFar l.seg.docs l.parts (drop l.part-index l.part-items) (rank_of_any l.all);
}

abbrev pub invariant-cursor_of_any-loop-part : goal.invariant-cursor_of_any-loop-part
invariant-cursor_of_any-loop-part l = record {
  answers : AnySoFar l.seg.docs l.parts (drop l.part-index l.part-items) (any_answers l.any);
  ranks : RanksSoFar l.seg.docs l.parts (drop l.part-index l.part-items) (rank_of_any l.any);
}
