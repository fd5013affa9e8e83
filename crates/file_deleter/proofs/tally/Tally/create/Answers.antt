use Rattle.file_deleter.proofs.Sounding.{apart_counts}
use Rattle.file_deleter.proofs.Writing.{creates_err}
use Rattle.file_deleter.proofs.tally.Tally.create.Goals as goal

pub returns-in-Err-clause-creates : goal.returns-in-Err-clause-creates
returns-in-Err-clause-creates g c = rw (← c.in_ok-reserve.ensures.holdings)
    (creates_err _ _ _ _ _ _ _ c.in_ok-retry.ensures.retried (apart_counts _ _ c.in_ok-reserve.ensures.sound.order) (apart_counts _ _ c.in_ok-retry.ensures.sound.order) c.in-Err.fault c.in-Err.ensures.cells)

pub add-requires-clause-room : goal.add-requires-clause-room
add-requires-clause-room g c = c.in_ok-retry.ensures.room _ c.in_ok-reserve.ensures.room
