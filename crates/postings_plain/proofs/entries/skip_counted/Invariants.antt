use Rattle.std.proofs.Common.{◌≤◌, ◌^◌}
use Rattle.postings_plain.proofs.CountedHits.{HasPassed}
use Rattle.postings_plain.proofs.entries.skip_counted.Given as goal

abbrev pub invariant-loop : goal.invariant-loop
invariant-loop l = record {
  below : l.end ≤ 2 ^ 32;
  passed : HasPassed l.field l.count l.least l.counter l.end l.rest l.bytes;
}
