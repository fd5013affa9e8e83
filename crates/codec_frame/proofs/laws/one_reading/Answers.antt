use Rattle.codec_frame.proofs.CheckLaws.{one_reading_lem}
use Rattle.codec_frame.proofs.laws.one_reading.Goals as goal

pub returns : goal.returns
returns c = one_reading_lem
