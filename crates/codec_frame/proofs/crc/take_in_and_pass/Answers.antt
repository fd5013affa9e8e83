use Rattle.std.proofs.Common.{◌∙◌, ap, sym, arith, bit_xor}
use Rattle.codec_frame.specs.Register.{steps}
use Rattle.codec_frame.proofs.Steps.{steps-add}
use Rattle.codec_frame.proofs.Slicing.{taken_in-read}
use Rattle.codec_frame.proofs.crc.take_in_and_pass.Goals as goal

pub returns : goal.returns
returns c =
    c.sixteen_before.ensures
    ∙ steps-add 64 128 (bit_xor c.read_u64.result c.args.register)
    ∙ ap (steps 128) (sym (taken_in-read c.args.register c.read_u64.result c.args.word.now (λ i. omega (arith, c.type_inv.word i)) c.requires c.read_u64.ensures))
