use Rattle.codec_frame.proofs.Altered.{not_both_framed}
use Rattle.codec_frame.proofs.laws.altered_byte_shows.Goals as goal

pub returns : goal.returns
returns c = not_both_framed
