use Rattle.std.proofs.Common.{◌≡◌, ◌+◌, ◌<◌, ◌^◌, drop}
use Rattle.std.specs.Prelude.{sum_by}
use Rattle.documents.specs.Ranking.{rank_of}
use Rattle.documents.proofs.ranking.+ranking.Given as goal

abbrev pub invariant-sum_of_ranks-loop-part : goal.invariant-sum_of_ranks-loop-part
invariant-sum_of_ranks-loop-part l = record {
  told : l.sum + sum_by (λ part. rank_of part l.words) (drop l.part-index l.part-items) ≡ sum_by (λ part. rank_of part l.words) l.parts;
  small : l.sum < 2 ^ 32;
}
