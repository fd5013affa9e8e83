use Rattle.wire_frames.proofs.StreamLaws.{one_reading}
use Rattle.wire_frames.proofs.laws.one_reading.Goals as goal

pub returns : goal.returns
returns c = one_reading
