use Rattle.std.proofs.Common.{◌≡◌, ◌+◌, drop, map}
use Rattle.postings_plain.specs.Rows.{first_positions}
use Rattle.query_eval.specs.Phrases.{follow}
use Rattle.query_eval.proofs.phrase.follow.Given as goal

abbrev pub invariant-loop-i : goal.invariant-loop-i
invariant-loop-i l = record {
  same : l.words ≡ l.fn.words;
  follows : follow (l.place + l.i) (map first_positions (drop l.i l.fn.words)) ≡ follow l.place (map first_positions l.fn.words);
}
