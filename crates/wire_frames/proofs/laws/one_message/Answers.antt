use Rattle.wire_frames.proofs.FrameLaws.{one_message}
use Rattle.wire_frames.proofs.laws.one_message.Goals as goal

pub returns : goal.returns
returns c = one_message
