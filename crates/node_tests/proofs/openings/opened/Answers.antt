use Rattle.node_tests.proofs.openings.opened.Goals as goal

pub returns-in-Ok : goal.returns-in-Ok
returns-in-Ok g c = c.in-Ok.ensures.opened.fresh
