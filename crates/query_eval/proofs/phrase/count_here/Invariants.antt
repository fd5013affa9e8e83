use Rattle.std.proofs.Common.{◌≡◌, ◌+◌, map}
use Rattle.std.specs.Prelude.{count_by}
use Rattle.postings_plain.specs.Rows.{first_positions}
use Rattle.query_eval.specs.Phrases.{follow, times_together}
use Rattle.query_eval.proofs.phrase.count_here.Given as goal

abbrev pub invariant-loop-place : goal.invariant-loop-place
invariant-loop-place l = record {
  same : l.words ≡ l.fn.words;
  counted : l.times + count_by (λ p. follow p (map first_positions l.fn.words)) l.place-iterator ≡ times_together (map first_positions l.fn.words);
}
