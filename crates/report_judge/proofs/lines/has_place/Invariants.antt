use Rattle.std.proofs.Common.{◌≡◌, drop}
use Rattle.std.specs.List.{list_any}
use Rattle.history_rules.specs.Lines.{same_at}
use Rattle.report_judge.proofs.lines.has_place.Given as goal

abbrev pub invariant-loop-place : goal.invariant-loop-place
invariant-loop-place l = list_any (λ place. same_at place l.at) (drop l.place-index l.places) ≡ list_any (λ place. same_at place l.at) l.places
