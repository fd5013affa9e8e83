use Rattle.std.proofs.Common.{◌≡◌, drop}
use Rattle.std.specs.Prelude.{reverse}
use Rattle.report_judge.specs.Places.{unanswered_place}
use Rattle.report_judge.proofs.lines.first_unanswered.Given as goal

abbrev pub invariant-loop-place : goal.invariant-loop-place
invariant-loop-place l = unanswered_place (drop l.place-index l.places) (reverse l.entries) ≡ unanswered_place l.places (reverse l.entries)
