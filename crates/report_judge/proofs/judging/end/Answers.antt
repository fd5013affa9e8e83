use Rattle.std.proofs.Common.{refl, ◌∙◌, reverse}
use Rattle.report_judge.specs.Replaying.{left_to_replay}
use Rattle.report_judge.proofs.WalkLaws.{line_missing, replay_missing, served_whole}
use Rattle.report_judge.proofs.judging.end.Goals as goal

pub returns-in-Some : goal.returns-in-Some
returns-in-Some c =
    (refl, line_missing c.args.script.now (reverse c.args.entries.now) c.as_slice.result.now c.in-Some.at (c.as_slice.ensures.value ∙ c.in_ok-places.ensures) c.in-Some.ensures)

pub returns-then-is_done : goal.returns-then-is_done
returns-then-is_done c = (
  refl,
  served_whole c.args.script.now (reverse c.args.entries.now) c.as_slice.result.now (left_to_replay c.args.shown.now.replay) c.requires.lanes c.requires.phases
      (c.as_slice.ensures.value ∙ c.in_ok-places.ensures) c.in_default.ensures c.requires.shown.replay.due (c.if-is_done.ensures.0 refl),
)

pub returns-in-Some-newest_line : goal.returns-in-Some-newest_line
returns-in-Some-newest_line c = (
  refl,
  replay_missing c.args.script.now (reverse c.args.entries.now) c.as_slice.result.now (left_to_replay c.args.shown.now.replay) c.in-Some-newest_line.at
      (c.as_slice.ensures.value ∙ c.in_ok-places.ensures) c.in_default.ensures c.requires.shown.replay.due
      (λ none. let h = c.if-is_done.ensures.1 none in cc) c.in-Some-newest_line.ensures,
)
