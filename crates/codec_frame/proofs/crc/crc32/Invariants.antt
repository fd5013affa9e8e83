use Rattle.std.proofs.Common.{◌≡◌, length}
use Rattle.codec_frame.specs.Register.{taken_in}
use Rattle.codec_frame.proofs.crc.crc32.Given as goal

abbrev pub invariant-words : goal.invariant-words
invariant-words l = taken_in l.register l.left ≡ taken_in 0xffffffff l.bytes

abbrev pub decreases-words : goal.decreases-words
decreases-words l = length l.left
