use Rattle.std.proofs.Common.{◌≤◌, ◌^◌}
use Rattle.body_forms.proofs.Loops.{IsAt}
use Rattle.postings_plain.specs.Postings.{above_block}
use Rattle.postings_plain.specs.Reading.{skip_at, skips_at}
use Rattle.postings_plain.proofs.blocks.skip_skips.Given as goal

abbrev pub invariant-loop : goal.invariant-loop
invariant-loop l = record {
  below : l.least ≤ 2 ^ 32;
  at : IsAt skip_at above_block l.count l.counter l.least l.rest (skips_at l.count 0 l.bytes);
}
