use Rattle.std.proofs.Common.{◌≡◌, drop}
use Rattle.codec_frame.specs.Register.{taken_in}
use Rattle.codec_frame.proofs.crc.take_in_rest.Given as goal

abbrev pub invariant-loop-b : goal.invariant-loop-b
invariant-loop-b l = taken_in l.after (drop l.b-index l.bytes) ≡ taken_in l.register l.bytes
