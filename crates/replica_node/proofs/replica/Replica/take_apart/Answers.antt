use Rattle.std.proofs.Common.{ap, arith, ◌∙◌}
use Rattle.replica_node.proofs.Apart.{node_apart, segs_stand, bytes_apart}
use Rattle.replica_node.proofs.replica.Replica.take_apart.Goals as goal

pub returns-clause-node : goal.returns-clause-node
returns-clause-node g c = node_apart g.D.Dir.cells c.end_copies.new.parts c.end_copies.ensures.back.whole (ap (λ p. p.job) c.end_copies.ensures.others ∙ c.end_job.ensures.job) c.end_copies.ensures.copies

pub returns-clause-standing : goal.returns-clause-standing
returns-clause-standing g c = rw (← c.self.view_is)
    (λ h.
    (c.end_copies.ensures.back.standing (c.end_job.ensures.back.standing h)).commits)

pub returns-clause-stands : goal.returns-clause-stands
returns-clause-stands g c = rw (← c.self.view_is)
    (segs_stand g.D.Dir.cells c.self.inside.parts c.end_copies.new.parts c.self.invariant c.end_copies.ensures.back.whole (ap (λ p. p.infos) c.end_copies.ensures.others ∙ ap (λ p. p.infos) c.end_job.ensures.others)
    (bytes_apart c.self.inside.parts.files c.end_job.new.parts.files c.end_copies.new.parts.files _ _ _ c.end_job.ensures.back.stays c.end_copies.ensures.back.stays c.end_copies.ensures.back.fewer))

pub returns-clause-same : goal.returns-clause-same
returns-clause-same g c = rw (← c.self.view_is)
    (record {
      searchers = ap (λ p. p.searchers) c.end_copies.ensures.others ∙ ap (λ p. p.searchers) c.end_job.ensures.others;
      commits = ap (λ p. p.commits) c.end_copies.ensures.others ∙ ap (λ p. p.commits) c.end_job.ensures.others;
      infos = ap (λ p. p.infos) c.end_copies.ensures.others ∙ ap (λ p. p.infos) c.end_job.ensures.others;
      segs = ap (λ p. p.segs) c.end_copies.ensures.others ∙ ap (λ p. p.segs) c.end_job.ensures.others;
    })

pub returns-clause-sourced : goal.returns-clause-sourced
returns-clause-sourced g c = rw (← c.self.view_is)
    (λ source h.
    (c.end_copies.ensures.back.sourced source (c.end_job.ensures.back.sourced source h)).held)

pub returns-clause-fewer : goal.returns-clause-fewer
returns-clause-fewer g c = rw (← c.self.view_is)
    (λ q.
    omega (arith, c.end_job.ensures.back.fewer q, c.end_copies.ensures.back.fewer q))

pub returns-clause-stays : goal.returns-clause-stays
returns-clause-stays g c = rw (← c.self.view_is)
    (bytes_apart c.self.inside.parts.files c.end_job.new.parts.files c.end_copies.new.parts.files _ _ _ c.end_job.ensures.back.stays c.end_copies.ensures.back.stays c.end_copies.ensures.back.fewer)

pub returns-clause-appears : goal.returns-clause-appears
returns-clause-appears g c = rw (← c.self.view_is)
    (record { each = λ q none. c.end_copies.ensures.back.appears.each q (c.end_job.ensures.back.appears.each q none) })
