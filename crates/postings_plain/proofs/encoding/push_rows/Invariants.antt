use Rattle.std.proofs.Common.{◌≡◌, ◌≤◌, ◌^◌, drop}
use Rattle.postings_plain.specs.Postings.{hit, HitFits, above_hit}
use Rattle.postings_plain.specs.Reading.{end_after}
use Rattle.postings_plain.proofs.ChainWriting.{IsWritten}
use Rattle.postings_plain.proofs.encoding.push_rows.Given as goal

abbrev pub invariant-loop-row : goal.invariant-loop-row
invariant-loop-row l = record {
  written : IsWritten (hit l.field) (HitFits l.field) above_hit l.least l.initial.out.items l.rows l.row-index l.end l.out.items;
  ends : end_after l.end (drop l.row-index l.rows) ≡ end_after l.least l.rows;
  below : l.end ≤ 2 ^ 32;
}
