use Rattle.std.proofs.Common.{arith}
use Rattle.stream_commands.proofs.Numbers.{pair_of, asked_pair}
use Rattle.stream_commands.proofs.asking.number_asked.Goals as goal

pub returns-then-is_same : goal.returns-then-is_same
returns-then-is_same c =
    asked_pair c.args.name.now c.args.most c.args.words.now c.first-item.result c.as_slice.result.now c.second-item.result c.as_slice-then-is_same.result.now c.number_u32.result (omega (arith, c.ranges.most.fits))
    (pair_of c.args.words.now c.first-item.result c.second-item.result c.in-len2.len_at_least c.in-len2.len_below c.first-item.is c.second-item.is)
    c.as_slice.ensures c.as_slice-then-is_same.ensures (c.is_same.ensures.0 c.if-is_same.true) c.number_u32.ensures
