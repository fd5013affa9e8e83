use Rattle.seg_reader.proofs.segment.Segment.rows_of_key.Goals as goal

pub returns-clause-found : goal.returns-clause-found
returns-clause-found c = rw (← c.self.view_is) c.find.ensures.found
