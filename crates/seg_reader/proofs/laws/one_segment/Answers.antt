use Rattle.seg_reader.proofs.StandingLaws.{one_segment}
use Rattle.seg_reader.proofs.laws.one_segment.Goals as goal

pub returns : goal.returns
returns c = one_segment
