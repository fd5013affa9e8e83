use Rattle.std.proofs.Common.{◌∙◌, sym}
use Rattle.cluster_copies.proofs.met.note_disk_failed.Goals as goal

pub must_have_risen-requires : goal.must_have_risen-requires
must_have_risen-requires g c = c.requires.tells.room.nodes ∙ sym c.requires.tells.room.count

pub note_refused-requires-clause-rule : goal.note_refused-requires-clause-rule
note_refused-requires-clause-rule g c = c.requires.rule c.in_ok-must_have_risen.ensures

pub returns-clause-ok : goal.returns-clause-ok
returns-clause-ok g c = record { risen = c.in_ok-must_have_risen.ensures; log = c.note_refused.ensures.log; legal = c.note_refused.ensures.legal; turns = c.note_refused.ensures.turns }
