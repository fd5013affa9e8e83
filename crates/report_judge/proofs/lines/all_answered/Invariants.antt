use Rattle.std.proofs.Common.{◌≡◌, drop}
use Rattle.std.specs.Prelude.{reverse}
use Rattle.std.specs.List.{list_all}
use Rattle.history_rules.specs.Lines.{is_answered}
use Rattle.report_judge.proofs.lines.all_answered.Given as goal

abbrev pub invariant-loop-place : goal.invariant-loop-place
invariant-loop-place l = list_all (λ place. is_answered place (reverse l.entries)) (drop l.place-index l.places) ≡ list_all (λ place. is_answered place (reverse l.entries)) l.places
