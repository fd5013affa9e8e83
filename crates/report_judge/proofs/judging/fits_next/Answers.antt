use Rattle.std.proofs.Common.{refl, sym, ◌∙◌, reverse}
use Rattle.std.proofs.lemmas.Bool.{false≢true}
use Rattle.script_serving.specs.Lines.{lines_of_lane}
use Rattle.report_judge.specs.Replaying.{left_to_replay}
use Rattle.report_judge.proofs.ServingLaws.{stands_told, told_there, none_fits, phase_of, replay_next, turn_next}
use Rattle.report_judge.proofs.judging.fits_next.Goals as goal

pub returns-in_default : goal.returns-in_default
returns-in_default c =
    (λ h. absurd (false≢true h), λ fits. absurd (none_fits c.args.script.now (reverse c.args.entries.now) c.args.entry.now c.requires.form (sym c.in_default.ensures) fits))

pub returns-then-not-branch : goal.returns-then-not-branch
returns-then-not-branch c = (
  λ h. absurd (false≢true h),
  λ fits.
      let here = stands_told c.args.script.now (left_to_replay c.args.shown.now.replay) c.args.entry.now c.in-Some.line.now c.requires.form c.requires.told (sym c.in-Some.ensures) in
      let phase = phase_of c.args.script.now (reverse c.args.entries.now) c.args.entry.now c.in-Some.line.now.command here fits in
      let k = c.if-not-branch.true in
      let h = c.in_ok-is_in_phase.ensures in
      absurd cc,
)

pub returns-then-not-is_done : goal.returns-then-not-is_done
returns-then-not-is_done c =
    let here = stands_told c.args.script.now (left_to_replay c.args.shown.now.replay) c.args.entry.now c.in-Some.line.now c.requires.form c.requires.told (sym c.in-Some.ensures) in
    let told = told_there c.args.script.now (left_to_replay c.args.shown.now.replay) c.args.entry.now c.in-Some.line.now c.requires.told (sym c.in-Some.ensures) in
    replay_next c.args.script.now (reverse c.args.entries.now) c.args.entry.now c.in-Some.line.now.command here (left_to_replay c.args.shown.now.replay) c.requires.shown.replay.due
    (λ none. let h = c.if-not-is_done.ensures.1 none in cc) told (sym c.in_ok-is_in_phase.ensures ∙ c.if-not-branch.false) c.fits_replay.result c.fits_replay.ensures

pub returns : goal.returns
returns c =
    let here = stands_told c.args.script.now (left_to_replay c.args.shown.now.replay) c.args.entry.now c.in-Some.line.now c.requires.form c.requires.told (sym c.in-Some.ensures) in
    let lines = lines_of_lane c.args.entry.now.at.lane.0 c.args.script.now in
    turn_next c.args.script.now (reverse c.args.entries.now) c.args.entry.now c.in-Some.line.now.command here (left_to_replay c.args.shown.now.replay) c.requires.shown.replay.due
    (c.if-not-is_done.ensures.0 refl) (sym c.in_ok-is_in_phase.ensures ∙ c.if-not-branch.false) c.fits_turn.result (c.fits_turn.ensures lines c.in_ok-is_turn.ensures)
