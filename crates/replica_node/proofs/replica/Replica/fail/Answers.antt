use Rattle.std.proofs.Common.{◌∙◌, sym, true≢false}
use Rattle.replica_node.specs.Merges.{copy_at}
use Rattle.replica_node.proofs.Numbered.{copy_some, point_kept, point_gone, copy_gone}
use Rattle.replica_node.proofs.replica.Replica.fail.Goals as goal

pub end_copy-requires-clause-runs : goal.end_copy-requires-clause-runs
end_copy-requires-clause-runs g c = copy_some c.args.job c.self.inside.parts.job (copy_at c.args.job c.self.inside.parts.copies.running) (sym c.copies_point.ensures ∙ c.if-copies_point.false) (rw (← c.self.view_is) at c.requires)

pub returns-then-copies_point-clause-gone : goal.returns-then-copies_point-clause-gone
returns-then-copies_point-clause-gone g c = rw (← c.self.view_is)
    (point_gone c.args.job c.self.inside.parts c.stop_job.new.parts (sym c.copies_point.ensures ∙ c.if-copies_point.true) c.stop_job.ensures.stopped)

pub returns-else-copies_point-clause-gone : goal.returns-else-copies_point-clause-gone
returns-else-copies_point-clause-gone g c = rw (← c.self.view_is)
    (copy_gone c.args.job c.self.inside.parts c.end_copy.new.parts (sym c.copies_point.ensures ∙ c.if-copies_point.false) c.end_copy.ensures.others c.end_copy.ensures.copies)

pub returns-then-copies_point-clause-kept : goal.returns-then-copies_point-clause-kept
returns-then-copies_point-clause-kept g c = rw (← c.self.view_is)
    (λ e.
    point_kept c.args.job c.self.inside.parts c.stop_job.new.parts e c.stop_job.ensures.stopped)

pub returns-else-copies_point-clause-kept : goal.returns-else-copies_point-clause-kept
returns-else-copies_point-clause-kept g c = rw (← c.self.view_is)
    (λ e.
    absurd (true≢false (sym e ∙ sym c.copies_point.ensures ∙ c.if-copies_point.false)))
