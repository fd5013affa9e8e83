use Rattle.std.proofs.lemmas.Result.{on_ok_weaker}
use Rattle.history_points.proofs.WalkLemmas.{on_both, shows_accept, shows_promote}
use Rattle.history_points.proofs.published.Walk.pass.Goals as goal

pub returns-in-Accepted : goal.returns-in-Accepted
returns-in-Accepted c =
    on_both c.change.result _ _ _
    (λ after ordered. λ past shows started. shows_accept past c.args.entry.now c.in-Accepted.seq c.in-Accepted.op c.args.self.now c.change.new.texts c.in-Accepted.is shows ordered after)
    c.change.ensures.after c.change.ensures.ordered

pub returns-in-Promoted : goal.returns-in-Promoted
returns-in-Promoted c =
    on_ok_weaker c.promote.result
    (λ done. λ past shows started. shows_promote past c.args.entry.now c.in-Promoted.n c.in-Promoted.generation c.in-Promoted.forced c.in-Promoted.v c.args.self.now c.promote.new.self c.in-Promoted.is shows done)
    c.promote.ensures
