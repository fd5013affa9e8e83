use Rattle.std.proofs.Common.{arith}
use Rattle.postings_plain.proofs.JoiningLaws.{joined_more, joined_all}
use Rattle.postings_plain.proofs.joining.Joined.add.Goals as goal

pub loop-place-preserved : goal.loop-place-preserved
loop-place-preserved c =
    joined_more c.args.self.now c.loop-place.self-inside.found c.add_entry.new.found c.args.post.now.entries c.loop-place.place c.args.numbers.now (omega (arith, c.loop-place-test.true, c.terms-place-end.ensures.count)) c.loop-place.invariant
    c.in_ok-add_entry.ensures

pub returns : goal.returns
returns c =
    joined_all c.args.self.now c.loop-place.self-inside.found c.args.post.now.entries c.loop-place.place c.args.numbers.now (omega (arith, c.loop-place-test.false, c.terms-place-end.ensures.count)) c.terms-place-end.ensures.ascend
    c.loop-place.invariant
