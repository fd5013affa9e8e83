use Rattle.std.proofs.Common.{◌<◌, subst, sym}
use Rattle.std.proofs.lemmas.Result.{IfOk-weaker}
use Rattle.history_rules.specs.Nodes.{version_of, newest_version}
use Rattle.history_book.specs.Log.{Log, printed}
use Rattle.cluster_nodes.specs.declared.tasks.CopyTask.{CopyTask}
use Rattle.cluster_nodes.specs.declared.went.Went.{Went}
use Rattle.cluster_nodes.specs.Went.{ByWent}
use Rattle.cluster_state.specs.Copies.{BeginsJob, BeginsNoJob}
use Rattle.cluster_state.specs.CopyCalls.{IsNotBeingCopied, copying_log}
use Rattle.cluster_copies.proofs.CopyRows.{refused_starts, refused_when, failed_starts}
use Rattle.cluster_copies.proofs.KeptJobs.{refused_kept}
use Rattle.cluster_state.specs.Run.{KeepsRest}
use Rattle.cluster_state.specs.Keeping.{KeepsButJob}
use Rattle.nrt_base.specs.declared.numbers.NodeNo.{NodeNo}
use Rattle.cluster_copies.proofs.line_copies.copy_start.Goals as goal

pub returns-in-Err-clause-ok : goal.returns-in-Err-clause-ok
returns-in-Err-clause-ok g c = IfOk-weaker c.refuse_turn.result _ _
    (λ turn refused. refused_starts c.args.at c.args.n c.in-Err.cause c.args.state.now c.refuse_turn.new.state turn (c.in-Err.ensures.cause c.args.at.lane.0) refused) c.refuse_turn.ensures.ok

pub returns-in-Err-clause-exact : goal.returns-in-Err-clause-exact
returns-in-Err-clause-exact g c = IfOk-weaker c.refuse_turn.result _ _
    (λ turn refused. refused_when c.args.at c.args.n c.in-Err.cause c.args.state.now c.refuse_turn.new.state turn (c.in-Err.ensures.cause c.args.at.lane.0) refused) c.refuse_turn.ensures.ok

pub returns-in-Err-clause-rest : goal.returns-in-Err-clause-rest
returns-in-Err-clause-rest g c =
    refused_kept c.refuse_turn.result c.args.at c.in-Err.cause c.args.state.now c.refuse_turn.new.state c.refuse_turn.ensures.ok c.refuse_turn.ensures.rest

pub returns-in-Done-clause-ok : goal.returns-in-Done-clause-ok
returns-in-Done-clause-ok g c = subst (λ (x : Went CopyTask). ByWent (BeginsJob c.args.at c.args.n c.args.state.now c.begin_copy.new.cluster (copying_log c.args.at c.args.n c.args.state.now c.begin_copy.new.cluster))
    (BeginsNoJob c.args.at c.args.n c.args.state.now c.begin_copy.new.cluster (copying_log c.args.at c.args.n c.args.state.now c.begin_copy.new.cluster)) x) c.in-Done.is c.in_ok-task.ensures.ok

pub returns-in-Done-clause-exact : goal.returns-in-Done-clause-exact
returns-in-Done-clause-exact g c = (
  record {
    unrefused = c.in-Ok.ensures.source.unrefused c.args.at.lane.0;
    behind = subst (λ (l : Log). version_of c.args.n.0 (printed l) < newest_version (printed l)) c.book.ensures.log (c.is_behind.ensures.behind c.if-not-is_behind.false);
  },
  subst (λ (l : Log). IsNotBeingCopied l c.args.n.0) c.book-2.ensures.log (c.is_being_copied.ensures.none c.if-is_being_copied.false),
)

pub returns-in-Done-clause-rest : goal.returns-in-Done-clause-rest
returns-in-Done-clause-rest g c =
    subst (λ (m : NodeNo). KeepsButJob m.0 c.args.state.now c.begin_copy.new.cluster)
    (sym (subst (λ (x : Went CopyTask). ByWent (BeginsJob c.args.at c.args.n c.args.state.now c.begin_copy.new.cluster (copying_log c.args.at c.args.n c.args.state.now c.begin_copy.new.cluster)) (BeginsNoJob c.args.at c.args.n c.args.state.now c.begin_copy.new.cluster (copying_log c.args.at c.args.n c.args.state.now c.begin_copy.new.cluster)) x) c.in-Done.is c.in_ok-task.ensures.ok).node)
    (subst (λ (x : Went CopyTask). ByWent (λ task. KeepsButJob c.args.n.0 c.args.state.now c.begin_copy.new.cluster) (KeepsRest c.args.state.now c.begin_copy.new.cluster) x) c.in-Done.is c.in_ok-task.ensures.rest)

pub returns-in-Failed-clause-ok : goal.returns-in-Failed-clause-ok
returns-in-Failed-clause-ok g c = failed_starts c.args.at c.args.n c.args.state.now c.begin_copy.new.cluster (c.in-Ok.ensures.source.unrefused c.args.at.lane.0)
    (subst (λ (l : Log). version_of c.args.n.0 (printed l) < newest_version (printed l)) c.book.ensures.log (c.is_behind.ensures.behind c.if-not-is_behind.false))
    (subst (λ (x : Went CopyTask). ByWent (BeginsJob c.args.at c.args.n c.args.state.now c.begin_copy.new.cluster (copying_log c.args.at c.args.n c.args.state.now c.begin_copy.new.cluster))
    (BeginsNoJob c.args.at c.args.n c.args.state.now c.begin_copy.new.cluster (copying_log c.args.at c.args.n c.args.state.now c.begin_copy.new.cluster)) x) c.in-Failed.is c.in_ok-task.ensures.ok)

pub returns-in-Failed-clause-exact : goal.returns-in-Failed-clause-exact
returns-in-Failed-clause-exact g c = λ b. subst (λ (l : Log). IsNotBeingCopied l c.args.n.0) c.book-2.ensures.log (c.is_being_copied.ensures.none c.if-is_being_copied.false)

pub returns-in-Failed-clause-rest : goal.returns-in-Failed-clause-rest
returns-in-Failed-clause-rest g c =
    subst (λ (x : Went CopyTask). ByWent (λ task. KeepsButJob c.args.n.0 c.args.state.now c.begin_copy.new.cluster) (KeepsRest c.args.state.now c.begin_copy.new.cluster) x) c.in-Failed.is c.in_ok-task.ensures.rest
