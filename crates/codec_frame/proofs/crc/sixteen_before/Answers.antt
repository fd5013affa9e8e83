use Rattle.std.proofs.Common.{sym, arith}
use Rattle.codec_frame.proofs.Slicing.{steps-word_at}
use Rattle.codec_frame.proofs.crc.sixteen_before.Goals as goal

pub returns : goal.returns
returns c =
    rw (c.passed.ensures, c.passed-2.ensures, c.passed-3.ensures, c.passed-4.ensures, c.passed-5.ensures, c.passed-6.ensures, c.passed-7.ensures, c.passed-8.ensures) (sym (steps-word_at 16 c.args.word (omega arith)))
