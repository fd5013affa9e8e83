use Rattle.std.proofs.Common.{◌∙◌, sym}
use Rattle.codec_frame.proofs.Steps.{taken_in-drop, taken_in-end}
use Rattle.codec_frame.proofs.crc.take_in_rest.Goals as goal

pub loop-b-preserved : goal.loop-b-preserved
loop-b-preserved c =
    rw c.take_in_byte-after.ensures (sym (taken_in-drop c.loop-b.after c.loop-b.b-index c.args.bytes.now c.loop-b-test.true) ∙ c.loop-b.invariant)

pub returns : goal.returns
returns c = sym (taken_in-end c.loop-b.after c.loop-b.b-index c.args.bytes.now c.loop-b-test.false) ∙ c.loop-b.invariant
