use Rattle.std.proofs.Common.{◌≡◌, drop}
use Rattle.std.specs.Prelude.{reverse}
use Rattle.report_judge.specs.Places.{earlier_places}
use Rattle.report_judge.proofs.lines.earlier_answered.Given as goal

abbrev pub invariant-loop-place : goal.invariant-loop-place
invariant-loop-place l = earlier_places (drop l.place-index l.places) l.at (reverse l.entries) ≡ earlier_places l.places l.at (reverse l.entries)
