use Rattle.std.proofs.Common.{take, length, ◌<◌, ◌^◌}
use Rattle.std.specs.List.{All}
use Rattle.postings_plain.specs.Gathering.{Gathers}
use Rattle.postings_plain.proofs.inverting.inverted.Given as goal

abbrev pub invariant-loop-number : goal.invariant-loop-number
invariant-loop-number l = record {
  gathers : Gathers l.found.entries (take l.number l.rows);
  few : All (λ row. length row.words < 2 ^ 32) (take l.number l.rows);
}
