use Rattle.cluster_state.proofs.LifeRows.{job_line}
use Rattle.cluster_copies.proofs.line_copies.refuse_job.Goals as goal

pub has_no_commit-requires : goal.has_no_commit-requires
has_no_commit-requires g c = record { line = job_line _ _ c.args.row.job.at _ _ c.book.ensures.log c.job_shows.ensures.started }
