use Rattle.wire_frames.proofs.StateLaws.{told_clauses}
use Rattle.wire_frames.proofs.states.state_of.Goals as goal

pub returns : goal.returns
returns c = let t = told_clauses c.args.messages.now c.state_told.result c.state_told.ensures in record { state = t.0; given = t.1.0; order = t.1.1 }
