use Rattle.wire_frames.proofs.StreamLaws.{one_fault, never_faulty}
use Rattle.wire_frames.proofs.laws.one_fault.Goals as goal

pub returns : goal.returns
returns c = record { one = one_fault; none = never_faulty }
