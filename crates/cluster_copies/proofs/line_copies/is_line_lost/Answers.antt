use Rattle.std.proofs.Common.{◌∙◌, ap, if◌then◌else◌}
use Rattle.history_book.specs.Log.{printed}
use Rattle.cluster_state.specs.Copies.{is_copy_start}
use Rattle.cluster_copies.proofs.CopyRows.{lost_here, lost_there}
use Rattle.cluster_copies.proofs.line_copies.is_line_lost.Goals as goal

pub returns-then-starts_as_copy : goal.returns-then-starts_as_copy
returns-then-starts_as_copy c = λ begun is.
    lost_here c.args.row.job.at (printed c.args.book.now.log) _ _ begun c.starts_as_copy.result c.node_survives.result c.source_survives.result is c.if-starts_as_copy.true (c.starts_as_copy.ensures ∙ ap is_copy_start is) c.job_shows.ensures.started
    c.if-source_survives.true c.source_survives.ensures c.node_survives.ensures

pub returns-else-starts_as_copy : goal.returns-else-starts_as_copy
returns-else-starts_as_copy c = λ begun is.
    lost_there c.args.row.job.at (printed c.args.book.now.log) _ _ begun c.starts_as_copy.result c.source_survives.result is c.if-starts_as_copy.false (c.starts_as_copy.ensures ∙ ap is_copy_start is) c.job_shows.ensures.started
    c.if-source_survives.true c.source_survives.ensures
