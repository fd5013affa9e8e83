use Rattle.std.proofs.Common.{◌%◌, arith}
use Rattle.std.proofs.lemmas.Nat.{and_mask}
use Rattle.codec_frame.proofs.Slicing.{last_entry}
use Rattle.codec_frame.proofs.crc.entry.Goals as goal

pub returns : goal.returns
returns c = rw (and_mask c.args.word 8) (last_entry c.args.k (c.args.word % 256) c.requires (omega arith))
