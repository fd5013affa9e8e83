use Rattle.std.proofs.Common.{arith}
use Rattle.postings_plain.proofs.PlaceLaws.{counts_positions, skips_one}
use Rattle.postings_plain.proofs.entries.count_positions.Goals as goal

pub returns : goal.returns
returns c =
    let s = c.in_ok-rest.ensures in
    counts_positions c.args.field c.args.bytes.now s.0 c.in_ok-rest.rest.now c.in_ok-count.count c.in_ok-count.field-0-1.now (omega arith) s.1 c.in_ok-count.ensures

pub returns-in-Some : goal.returns-in-Some
returns-in-Some c = skips_one c.args.field c.args.bytes.now _ (omega arith) c.in-Some.ensures.position
