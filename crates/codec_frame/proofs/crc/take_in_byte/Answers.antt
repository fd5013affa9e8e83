use Rattle.std.proofs.Common.{◌≡◌, ◌/◌, ◌^◌, ap, sym, ◌∙◌, arith, bit_xor}
use Rattle.std.specs.Int.Bits.{xor_zero_r}
use Rattle.std.proofs.lemmas.Nat.{xor_shr}
use Rattle.codec_frame.proofs.Steps.{steps-none}
use Rattle.codec_frame.proofs.Slicing.{steps-byte}
use Rattle.codec_frame.proofs.crc.take_in_byte.Goals as goal

pub returns : goal.returns
returns c =
    let w = bit_xor c.args.register c.args.byte in
    let none : c.args.byte / 2 ^ 8 ≡ 0 = omega arith in
    let high : w / 256 ≡ c.args.register / 256 = xor_shr c.args.register c.args.byte 8 ∙ ap (bit_xor (c.args.register / 256)) none ∙ xor_zero_r (c.args.register / 256) in
    rw c.entry.ensures (ap (bit_xor _) (sym (steps-none (w / 256) ∙ high)) ∙ sym (steps-byte 0 w))
