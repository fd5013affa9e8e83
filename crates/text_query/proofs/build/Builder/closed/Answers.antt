use Rattle.text_query.proofs.LevelLemmas.{closed_depth}
use Rattle.text_query.proofs.build.Builder.closed.Goals as goal

pub returns-in_default-2 : goal.returns-in_default-2
returns-in_default-2 c =
    closed_depth c.args.self.inner c.args.self.outer.items c.pop.new.self.items c.in-Some.around c.in-Some.ensures.items
    (rw c.in_default-2.is at c.in_ok-part.ensures)
