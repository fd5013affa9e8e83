use Rattle.std.proofs.Common.{◌∙◌, ap, sym, subst, ◌≡◌, ◌≢◌, Some, None, Option}
use Rattle.std.specs.Prelude.{IfSome}
use Rattle.nrt_base.specs.declared.numbers.NodeNo.{NodeNo}
use Rattle.history_rules.specs.Nodes.{IsNode, IsReplica}
use Rattle.history_rules.specs.Lines.{is_answered, NodeSurvives, SourceSurvives}
use Rattle.history_rules.specs.Legal.{IsLegalPast}
use Rattle.history_tables.specs.Begins.{open_line}
use Rattle.history_book.specs.Log.{Log, printed}
use Rattle.history_book.specs.Jobs.{job_of, LaneJobShows}
use Rattle.cluster_state.specs.Run.{Run}
use Rattle.cluster_state.proofs.Ledgers.{lane_of, legal_of, replica_of, asked_of}
use Rattle.cluster_copies.proofs.JobEnds.{source_ends}
use Rattle.cluster_copies.proofs.transfers.source_of.Goals as goal

pub unreachable-requires : goal.unreachable-requires
unreachable-requires g c = source_ends c.args.cluster.now _ c.cluster.inside.ledger c.args.row c.cluster.view_is (legal_of c.book-book.ensures.nodes c.book-book.ensures.log c.is_legal.ensures.legal) (lane_of c.book-book.ensures.nodes c.book-book.ensures.log c.job_shows.ensures) c.requires.runs.source (sym c.primary.ensures.is ∙ c.in-None.is)

pub is_unanswered-requires : goal.is_unanswered-requires
is_unanswered-requires g c = asked_of (λ (l : Log). open_line c.args.row.job.at (printed l) ≢ None) c.cluster.view_is c.book-book.ensures.log c.requires.line

pub job_shows-requires : goal.job_shows-requires
job_shows-requires g c = asked_of (λ (l : Log). job_of c.args.row.job.at.lane.0 l ≡ Some c.args.row) c.cluster.view_is c.book-book.ensures.log c.requires.runs.last

pub job_replica-requires-clause-job : goal.job_replica-requires-clause-job
job_replica-requires-clause-job g c = asked_of (λ (l : Log). job_of c.args.row.job.at.lane.0 l ≡ Some c.args.row) c.cluster.view_is c.book-book.ensures.log c.requires.runs.last

pub job_replica-requires-clause-node : goal.job_replica-requires-clause-node
job_replica-requires-clause-node g c = asked_of (λ (l : Log). NodeSurvives (printed l) c.args.row.job.at c.args.row.job.node.0) c.cluster.view_is c.book-book.ensures.log c.requires.runs.survives

pub job_replica-requires-clause-source : goal.job_replica-requires-clause-source
job_replica-requires-clause-source g c = asked_of (λ (l : Log). SourceSurvives (printed l) c.args.row.job.at) c.cluster.view_is c.book-book.ensures.log c.requires.runs.source

pub returns : goal.returns
returns g c = record {
  runs = c.requires.runs;
  line = c.requires.line;
  unanswered = ap (λ (l : Log). is_answered c.args.row.job.at (printed l)) (sym (c.book-book.ensures.log ∙ ap (λ (x : Run). x.log) c.cluster.view_is)) ∙ c.is_unanswered.ensures;
  ordered = c.requires.ordered;
  legal = subst (λ (x : Run). IsLegalPast x.nodes (printed x.log)) c.cluster.view_is (legal_of c.book-book.ensures.nodes c.book-book.ensures.log c.is_legal.ensures.legal);
  lane = subst (λ (x : Run). LaneJobShows x.nodes (printed x.log) c.args.row) c.cluster.view_is (lane_of c.book-book.ensures.nodes c.book-book.ensures.log c.job_shows.ensures);
  replica = subst (λ (x : Run). IsReplica (printed x.log) c.args.row.job.node.0) c.cluster.view_is (replica_of c.book-book.ensures.log c.job_replica.ensures);
  source = subst (λ (o : Option NodeNo). IfSome o (λ p. IsNode c.args.cluster.now.nodes p.0)) c.in-Some.is c.primary.ensures.node;
  primary = sym c.primary.ensures.is ∙ c.in-Some.is;
}
