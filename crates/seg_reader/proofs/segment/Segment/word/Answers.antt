use Rattle.seg_reader.proofs.segment.Segment.word.Goals as goal

pub returns-clause-found : goal.returns-clause-found
returns-clause-found c = rw (← c.self.view_is) c.find.ensures.found
