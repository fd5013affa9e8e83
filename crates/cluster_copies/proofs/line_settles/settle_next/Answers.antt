use Rattle.std.proofs.Common.{◌≡◌, ◌==◌, ◌∙◌, inr, ap, sym, subst}
use Rattle.std.specs.Prelude.{not}
use Rattle.history_rules.specs.Nodes.{primary_crashes}
use Rattle.history_rules.specs.Lines.{before_start}
use Rattle.history_book.specs.Log.{Log, printed}
use Rattle.cluster_nodes.specs.declared.tasks.CopyTask.{CopyTask}
use Rattle.cluster_nodes.specs.declared.went.Went.{Went}
use Rattle.cluster_nodes.specs.Went.{ByWent}
use Rattle.cluster_state.specs.Copies.{BeginsJob, BeginsNoJob}
use Rattle.cluster_state.specs.CopyCalls.{IsNotBeingCopied}
use Rattle.cluster_state.specs.FileChanges.{is_commit_line}
use Rattle.cluster_state.specs.GivesUp.{met_log}
use Rattle.cluster_copies.proofs.CopyRows.{settle_source}
use Rattle.cluster_copies.proofs.MetLines.{settle_works}
use Rattle.cluster_state.specs.Run.{KeepsRest}
use Rattle.cluster_state.specs.Keeping.{KeepsButJob}
use Rattle.nrt_base.specs.declared.numbers.NodeNo.{NodeNo}
use Rattle.cluster_copies.proofs.line_settles.settle_next.Goals as goal

pub has_no_commit-requires : goal.has_no_commit-requires
has_no_commit-requires g c = record { line = ap is_commit_line c.requires.settling.started }

pub unreachable-requires : goal.unreachable-requires
unreachable-requires g c =
    settle_source _ _ c.args.at _ _ _ _ c.source_survives.result _ c.book.ensures.nodes c.book.ensures.log c.book-2.ensures.log c.is_legal.ensures.legal c.requires.settling.started c.if-not-source_survives.false c.source_survives.ensures
    c.primary.ensures.is c.in-None.is

pub returns-in-Done-clause-ok : goal.returns-in-Done-clause-ok
returns-in-Done-clause-ok g c =
    settle_works c.args.at c.in-Some.n c.args.state.now c.begin_settling.new.cluster c.in-Done.job c.next_left.new.task (subst (λ (x : Went CopyTask). ByWent (BeginsJob c.args.at c.in-Some.n c.args.state.now c.begin_settling.new.cluster (met_log c.args.at c.args.state.now c.begin_settling.new.cluster)) (BeginsNoJob c.args.at c.in-Some.n c.args.state.now c.begin_settling.new.cluster (met_log c.args.at c.args.state.now c.begin_settling.new.cluster)) x) c.in-Done.is c.in_ok-job-in-Some-primary.ensures.ok) c.next_left.ensures.settling
    (record {
      unlost = ap not (sym (subst (λ (l : Log). c.source_survives.result ≡ (primary_crashes (printed l) == primary_crashes (before_start c.args.at (printed l)))) c.book-2.ensures.log c.source_survives.ensures) ∙ c.if-not-source_survives.false);
      waits = c.in-Some.ensures.waits;
      first = c.in-Some.ensures.first;
    }) (subst (λ (l : Log). IsNotBeingCopied l c.in-Some.n.0) c.book-3.ensures.log (c.is_being_copied.ensures.none c.if-is_being_copied.false))

pub returns-in-Done-clause-rest : goal.returns-in-Done-clause-rest
returns-in-Done-clause-rest g c =
    subst (λ (m : NodeNo). KeepsButJob m.0 c.args.state.now c.begin_settling.new.cluster)
    (sym (subst (λ (x : Went CopyTask). ByWent (BeginsJob c.args.at c.in-Some.n c.args.state.now c.begin_settling.new.cluster (met_log c.args.at c.args.state.now c.begin_settling.new.cluster)) (BeginsNoJob c.args.at c.in-Some.n c.args.state.now c.begin_settling.new.cluster (met_log c.args.at c.args.state.now c.begin_settling.new.cluster)) x) c.in-Done.is c.in_ok-job-in-Some-primary.ensures.ok).node)
    (subst (λ (x : Went CopyTask). ByWent (λ task. KeepsButJob c.in-Some.n.0 c.args.state.now c.begin_settling.new.cluster) (KeepsRest c.args.state.now c.begin_settling.new.cluster) x) c.in-Done.is c.in_ok-job-in-Some-primary.ensures.rest)

pub returns-in-Failed-clause-ok : goal.returns-in-Failed-clause-ok
returns-in-Failed-clause-ok g c = inr (record {
  n = c.in-Some.n;
  begins = (subst (λ (x : Went CopyTask). ByWent (BeginsJob c.args.at c.in-Some.n c.args.state.now c.begin_settling.new.cluster (met_log c.args.at c.args.state.now c.begin_settling.new.cluster)) (BeginsNoJob c.args.at c.in-Some.n c.args.state.now c.begin_settling.new.cluster (met_log c.args.at c.args.state.now c.begin_settling.new.cluster)) x) c.in-Failed.is c.in_ok-job-in-Some-primary.ensures.ok);
  waits = (record {
    unlost = ap not (sym (subst (λ (l : Log). c.source_survives.result ≡ (primary_crashes (printed l) == primary_crashes (before_start c.args.at (printed l)))) c.book-2.ensures.log c.source_survives.ensures) ∙ c.if-not-source_survives.false);
    waits = c.in-Some.ensures.waits;
    first = c.in-Some.ensures.first;
  });
  free = (subst (λ (l : Log). IsNotBeingCopied l c.in-Some.n.0) c.book-3.ensures.log (c.is_being_copied.ensures.none c.if-is_being_copied.false));
})

pub returns-in-Failed-clause-rest : goal.returns-in-Failed-clause-rest
returns-in-Failed-clause-rest g c =
    subst (λ (x : Went CopyTask). ByWent (λ task. KeepsButJob c.in-Some.n.0 c.args.state.now c.begin_settling.new.cluster) (KeepsRest c.args.state.now c.begin_settling.new.cluster) x) c.in-Failed.is c.in_ok-job-in-Some-primary.ensures.rest
