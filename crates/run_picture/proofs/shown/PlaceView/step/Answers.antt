use Rattle.run_picture.proofs.ViewLemmas.{shown_next}
use Rattle.run_picture.proofs.shown.PlaceView.step.Goals as goal

pub returns : goal.returns
returns c = λ size past shows. shown_next size past c.args.entry.now c.args.self.now _ shows c.after-self.ensures c.step_views.ensures
