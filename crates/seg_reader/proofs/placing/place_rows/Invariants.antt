use Rattle.std.proofs.Common.{◌≡◌, ◌-◌, ◌^◌, length}
use Rattle.seg_reader.specs.Placing.{GivesPlace}
use Rattle.seg_reader.proofs.placing.place_rows.Given as goal

abbrev pub invariant-loop-row : goal.invariant-loop-row
invariant-loop-row l = (length l.places ≡ length l.docs) × GivesPlace l.docs l.term l.place l.initial.places l.places

abbrev pub decreases-loop-row : goal.decreases-loop-row
decreases-loop-row l = 2 ^ 32 - l.least
