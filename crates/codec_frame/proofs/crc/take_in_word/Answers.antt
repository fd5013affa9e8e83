use Rattle.std.proofs.Common.{◌∙◌, sym, arith}
use Rattle.codec_frame.proofs.Slicing.{taken_in-read}
use Rattle.codec_frame.proofs.crc.take_in_word.Goals as goal

pub returns : goal.returns
returns c =
    c.eight_last.ensures ∙ sym (taken_in-read c.args.register c.read_u64.result c.args.word.now (λ i. omega (arith, c.type_inv.word i)) c.requires c.read_u64.ensures)
