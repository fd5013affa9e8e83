use Rattle.run_drawing.proofs.SceneLemmas.{drawn}
use Rattle.run_drawing.proofs.pages.push_entry.Goals as goal

pub returns : goal.returns
returns c = λ size past long shows.
    drawn c.args.page size past c.args.entry.now c.args.place c.args.scene.now c.begin.new.self _ _ _ long shows c.in_ok-begin.ensures c.in_ok-push_marks.ensures c.step.ensures
