use Rattle.std.proofs.Common.{◌≡◌, ◌++◌}
use Rattle.postings_plain.proofs.hits.TermHits.push_hit.Given as goal

abbrev pub invariant-loop-position : goal.invariant-loop-position
invariant-loop-position l = record {
  row : l.hit.0 ≡ l.row;
  places : l.hit.1 ++ l.position-iterator ≡ l.fn.positions;
}
