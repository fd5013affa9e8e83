use Rattle.std.proofs.Common.{inl, inr, Option, subst}
use Rattle.history_rules.specs.declared.cause.Cause.TheVariants.{DiskFault}
use Rattle.cluster_nodes.specs.declared.tasks.FileTask.{FileTask}
use Rattle.cluster_nodes.specs.declared.went.Went.{Went}
use Rattle.cluster_nodes.specs.Went.{ByWent}
use Rattle.cluster_state.specs.Copies.{GoesOn, JobRefused}
use Rattle.cluster_state.specs.declared.turn.Turn.TheVariants.{Work, Done}
use Rattle.cluster_copies.proofs.CopyRows.{runs_goes, runs_steps}
use Rattle.cluster_copies.proofs.KeptJobs.{none_moved, came_after}
use Rattle.cluster_state.specs.Run.{KeepsRest}
use Rattle.cluster_state.specs.Keeping.{KeepsButFiles}
use Rattle.cluster_copies.proofs.line_copies.copy_next.Goals as goal

pub returns-in-Done-Some-clause-ok : goal.returns-in-Done-Some-clause-ok
returns-in-Done-Some-clause-ok g c = λ begun is.
    runs_steps c.args.row c.args.state.now c.is_stopped.new.state c.go_on.new.cluster (c.in_ok-is_stopped.ensures.same c.if-branch.false) _ c.in_ok-is_stopped.field-0 (Work c.in-Done-Some.file) c.if-branch.false (c.in_ok-is_stopped.ensures.ok begun is)
    (subst (GoesOn c.args.row.job c.is_stopped.new.state c.go_on.new.cluster) c.in-Done-Some.field-0-is (subst (λ (x : Went (Option FileTask)). ByWent (GoesOn c.args.row.job c.is_stopped.new.state c.go_on.new.cluster) (JobRefused c.args.row.job DiskFault c.is_stopped.new.state c.go_on.new.cluster) x) c.in-Done-Some.is c.in_ok-file.ensures.ok))

pub returns-in-Done-Some-clause-goes : goal.returns-in-Done-Some-clause-goes
returns-in-Done-Some-clause-goes g c = λ runs.
    runs_goes c.args.row c.args.state.now c.is_stopped.new.state c.go_on.new.cluster (c.in_ok-is_stopped.ensures.same c.if-branch.false) (Work c.in-Done-Some.file)
    (subst (GoesOn c.args.row.job c.is_stopped.new.state c.go_on.new.cluster) c.in-Done-Some.field-0-is (subst (λ (x : Went (Option FileTask)). ByWent (GoesOn c.args.row.job c.is_stopped.new.state c.go_on.new.cluster) (JobRefused c.args.row.job DiskFault c.is_stopped.new.state c.go_on.new.cluster) x) c.in-Done-Some.is c.in_ok-file.ensures.ok))

pub returns-in-Done-Some-clause-rest : goal.returns-in-Done-Some-clause-rest
returns-in-Done-Some-clause-rest g c =
    came_after c.args.row.job.node.0 c.args.state.now c.is_stopped.new.state c.go_on.new.cluster (c.in_ok-is_stopped.ensures.same c.if-branch.false) (subst (λ (x : Went (Option FileTask)). ByWent (λ file. KeepsButFiles c.args.row.job.node.0 c.is_stopped.new.state c.go_on.new.cluster) (KeepsRest c.is_stopped.new.state c.go_on.new.cluster) x) c.in-Done-Some.is c.in_ok-file.ensures.rest)

pub returns-in-Done-None-clause-ok : goal.returns-in-Done-None-clause-ok
returns-in-Done-None-clause-ok g c = λ begun is.
    runs_steps c.args.row c.args.state.now c.is_stopped.new.state c.go_on.new.cluster (c.in_ok-is_stopped.ensures.same c.if-branch.false) _ c.in_ok-is_stopped.field-0 Done c.if-branch.false (c.in_ok-is_stopped.ensures.ok begun is)
    (inl (subst (GoesOn c.args.row.job c.is_stopped.new.state c.go_on.new.cluster) c.in-Done-None.field-0-is (subst (λ (x : Went (Option FileTask)). ByWent (GoesOn c.args.row.job c.is_stopped.new.state c.go_on.new.cluster) (JobRefused c.args.row.job DiskFault c.is_stopped.new.state c.go_on.new.cluster) x) c.in-Done-None.is c.in_ok-file.ensures.ok)))

pub returns-in-Done-None-clause-goes : goal.returns-in-Done-None-clause-goes
returns-in-Done-None-clause-goes g c = λ runs.
    runs_goes c.args.row c.args.state.now c.is_stopped.new.state c.go_on.new.cluster (c.in_ok-is_stopped.ensures.same c.if-branch.false) Done
    (inl (subst (GoesOn c.args.row.job c.is_stopped.new.state c.go_on.new.cluster) c.in-Done-None.field-0-is (subst (λ (x : Went (Option FileTask)). ByWent (GoesOn c.args.row.job c.is_stopped.new.state c.go_on.new.cluster) (JobRefused c.args.row.job DiskFault c.is_stopped.new.state c.go_on.new.cluster) x) c.in-Done-None.is c.in_ok-file.ensures.ok)))

pub returns-in-Done-None-clause-rest : goal.returns-in-Done-None-clause-rest
returns-in-Done-None-clause-rest g c =
    came_after c.args.row.job.node.0 c.args.state.now c.is_stopped.new.state c.go_on.new.cluster (c.in_ok-is_stopped.ensures.same c.if-branch.false) (subst (λ (x : Went (Option FileTask)). ByWent (λ file. KeepsButFiles c.args.row.job.node.0 c.is_stopped.new.state c.go_on.new.cluster) (KeepsRest c.is_stopped.new.state c.go_on.new.cluster) x) c.in-Done-None.is c.in_ok-file.ensures.rest)

pub returns-in-Failed-clause-ok : goal.returns-in-Failed-clause-ok
returns-in-Failed-clause-ok g c = λ begun is.
    runs_steps c.args.row c.args.state.now c.is_stopped.new.state c.go_on.new.cluster (c.in_ok-is_stopped.ensures.same c.if-branch.false) _ c.in_ok-is_stopped.field-0 Done c.if-branch.false (c.in_ok-is_stopped.ensures.ok begun is)
    (inr (subst (λ (x : Went (Option FileTask)). ByWent (GoesOn c.args.row.job c.is_stopped.new.state c.go_on.new.cluster) (JobRefused c.args.row.job DiskFault c.is_stopped.new.state c.go_on.new.cluster) x) c.in-Failed.is c.in_ok-file.ensures.ok))

pub returns-in-Failed-clause-goes : goal.returns-in-Failed-clause-goes
returns-in-Failed-clause-goes g c = λ runs.
    runs_goes c.args.row c.args.state.now c.is_stopped.new.state c.go_on.new.cluster (c.in_ok-is_stopped.ensures.same c.if-branch.false) Done
    (inr (subst (λ (x : Went (Option FileTask)). ByWent (GoesOn c.args.row.job c.is_stopped.new.state c.go_on.new.cluster) (JobRefused c.args.row.job DiskFault c.is_stopped.new.state c.go_on.new.cluster) x) c.in-Failed.is c.in_ok-file.ensures.ok))

pub returns-in-Failed-clause-rest : goal.returns-in-Failed-clause-rest
returns-in-Failed-clause-rest g c =
    came_after c.args.row.job.node.0 c.args.state.now c.is_stopped.new.state c.go_on.new.cluster (c.in_ok-is_stopped.ensures.same c.if-branch.false) (none_moved c.args.row.job.node.0 c.is_stopped.new.state c.go_on.new.cluster (subst (λ (x : Went (Option FileTask)). ByWent (λ file. KeepsButFiles c.args.row.job.node.0 c.is_stopped.new.state c.go_on.new.cluster) (KeepsRest c.is_stopped.new.state c.go_on.new.cluster) x) c.in-Failed.is c.in_ok-file.ensures.rest))

pub returns-then-branch-clause-rest : goal.returns-then-branch-clause-rest
returns-then-branch-clause-rest g c =
    none_moved c.args.row.job.node.0 c.args.state.now c.is_stopped.new.state c.in_ok-is_stopped.ensures.rest
