use Rattle.std.proofs.Common.{ap, arith, sym}
use Rattle.postings_plain.specs.Reading.{numbers_or_none}
use Rattle.body_forms.proofs.NumberLaws.{positive_format}
use Rattle.postings_plain.proofs.PlaceLaws.{counted_places, count_is_there, are_read, length-numbers, counted_ascend}
use Rattle.postings_plain.proofs.positions.Positions.counted.Goals as goal

pub unreachable-requires : goal.unreachable-requires
unreachable-requires c = let e = c.in-None.ensures in count_is_there c.args.bytes.now c.requires.0 c.requires.1 c.requires.2 e

pub invariant_of-result : goal.invariant_of-result
invariant_of-result c =
    let e = c.in-Some.ensures in
    (omega arith, are_read _ _ _ (counted_places c.args.bytes.now c.requires.0 c.requires.1 c.in-Some.count c.in-Some.rest.now c.requires.2 e))

pub returns : goal.returns
returns c =
    let e = c.in-Some.ensures in
    record {
      value = λ xs tail r. ap numbers_or_none (counted_places c.args.bytes.now xs tail c.in-Some.count c.in-Some.rest.now r e);
      few = omega (arith, length-numbers c.in-Some.count 0 c.in-Some.rest.now, (positive_format.takes c.args.bytes.now c.in-Some.count c.in-Some.rest.now (λ i. omega (arith, c.type_inv.bytes i)) (sym e)).1.1);
      ascend = counted_ascend c.args.bytes.now c.requires.0 c.requires.1 c.in-Some.count c.in-Some.rest.now (λ i. omega (arith, c.type_inv.bytes i)) c.requires.2 e;
    }
