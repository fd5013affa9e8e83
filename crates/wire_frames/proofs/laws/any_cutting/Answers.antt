use Rattle.wire_frames.proofs.StreamLaws.{begins_then}
use Rattle.wire_frames.proofs.laws.any_cutting.Goals as goal

pub returns : goal.returns
returns c = begins_then
