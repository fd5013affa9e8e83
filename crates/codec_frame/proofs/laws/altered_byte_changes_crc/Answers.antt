use Rattle.codec_frame.proofs.Altered.{other_crc}
use Rattle.codec_frame.proofs.laws.altered_byte_changes_crc.Goals as goal

pub returns : goal.returns
returns c = other_crc
