use Rattle.std.proofs.Common.{◌≡◌, ◌+◌, ◌≤◌, drop}
use Rattle.documents.specs.Ranking.{times_of_phrase}
use Rattle.documents.proofs.ranking.times_of_phrase.Given as goal

abbrev pub invariant-loop-i : goal.invariant-loop-i
invariant-loop-i l = record {
  told : l.times + times_of_phrase l.phrase (drop l.i l.words) ≡ times_of_phrase l.phrase l.words;
  few : l.times ≤ l.i;
}
