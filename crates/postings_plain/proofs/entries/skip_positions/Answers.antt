use Rattle.std.proofs.Common.{arith}
use Rattle.postings_plain.proofs.PlaceLaws.{skips_one}
use Rattle.postings_plain.proofs.entries.skip_positions.Goals as goal

pub returns-in-Some : goal.returns-in-Some
returns-in-Some c = let one = skips_one c.args.field c.args.bytes.now c.in-Some.rest.now (omega arith) c.in-Some.ensures.position in (one.0, one.1)
