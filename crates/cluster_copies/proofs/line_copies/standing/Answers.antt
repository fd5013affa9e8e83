use Rattle.std.proofs.Common.{refl}
use Rattle.cluster_copies.proofs.CopyRows.{lost_job, cancelled_job, job_source, job_node, lost_rests}
use Rattle.history_book.proofs.ToldLaws.{so_cancelled}
use Rattle.cluster_copies.proofs.line_copies.standing.Goals as goal

pub returns-then-is_line_lost-clause-rule : goal.returns-then-is_line_lost-clause-rule
returns-then-is_line_lost-clause-rule c =
    lost_job _ _ c.args.row.job.at _ _ c.is_line_lost.result _ refl c.is_legal.ensures.legal c.job_shows.ensures.started c.requires.copies.is_open c.requires.copies.ordered c.is_line_lost.ensures c.if-is_line_lost.true

pub returns-in-None-clause-runs : goal.returns-in-None-clause-runs
returns-in-None-clause-runs c = λ runs. record {
  last = c.requires.copies.last;
  unended = c.requires.copies.unended;
  alone = c.in-None.is;
  survives = job_node _ c.args.row.job.at _ c.node_survives.result c.if-not-node_survives.false c.node_survives.ensures;
  source = job_source _ c.args.row.job.at _ _ c.is_line_lost.result _ refl c.job_shows.ensures.started c.is_line_lost.ensures c.if-is_line_lost.false;
}

pub returns-in-Some-clause-rule : goal.returns-in-Some-clause-rule
returns-in-Some-clause-rule c =
    cancelled_job _ _ c.args.row.job.at _ _ c.is_line_lost.result c.node_survives.result c.in-Some.v _ refl c.is_legal.ensures.legal c.job_shows.ensures.started c.requires.copies.is_open c.requires.copies.ordered
    c.is_line_lost.ensures c.if-is_line_lost.false c.if-not-node_survives.false c.node_survives.ensures (c.job_shows.ensures.later c.in-Some.v c.in-Some.is)

pub returns-then-is_line_lost-clause-going : goal.returns-then-is_line_lost-clause-going
returns-then-is_line_lost-clause-going c = λ runs. absurd
    (lost_rests _ c.args.row.job.at _ _ c.is_line_lost.result c.job_shows.ensures.started c.is_line_lost.ensures c.if-is_line_lost.true runs.survives runs.source)

pub returns-in-Some-clause-told : goal.returns-in-Some-clause-told
returns-in-Some-clause-told c = so_cancelled _ c.args.row c.in-Some.v c.requires.copies.last c.in-Some.is
