use Rattle.replica_opening.proofs.Segments.{zip_at, zip_within}
use Rattle.replica_opening.proofs.sharing.reader_of.Goals as goal

pub share_at-requires : goal.share_at-requires
share_at-requires g c = zip_within _ _ _ _ _ c.requires.readers c.in-Some.ensures.found

pub returns-in-Ok-clause-segment : goal.returns-in-Ok-clause-segment
returns-in-Ok-clause-segment g c = zip_at _ _ _ _ _ _ c.requires.readers c.in-Some.ensures.found c.in-Ok.ensures

pub returns-in-Err-read_segment-clause-fault : goal.returns-in-Err-read_segment-clause-fault
returns-in-Err-read_segment-clause-fault g c = c.in-Err-read_segment.ensures.shown c.requires.stands.0 c.requires.stands.1
