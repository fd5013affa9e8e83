use Rattle.std.proofs.Common.{Some, subst, ◌≡◌}
use Rattle.std.specs.Prelude.{IfOk, OnErr, OnOk}
use Rattle.history_book.specs.Jobs.{job_of}
use Rattle.history_book.specs.Log.{Log, printed}
use Rattle.history_rules.specs.Lines.{start_entry}
use Rattle.history_rules.specs.declared.entry.Event.{Event}
use Rattle.history_tables.specs.declared.jobs.JobRow.{JobRow}
use Rattle.cluster_state.specs.Copies.{JobRuns}
use Rattle.cluster_state.specs.CopyCalls.{AreFrom, JobGoesOn, SettlesOn, StopsTurn, stopped_log}
use Rattle.cluster_state.specs.Given.{SettleTask}
use Rattle.cluster_state.specs.Run.{IsEnded}
use Rattle.cluster_state.specs.Settles.{IsSettling}
use Rattle.cluster_site.proofs.Asked.{copies_quiet, copies_in}
use Rattle.cluster_site.proofs.Stands.{call_stands, call_does}
use Rattle.cluster_site.specs.Sites.{SiteRun}
use Rattle.cluster_state.specs.Keeping.{KeepsButFiles}
use Rattle.cluster_site.proofs.site.Site.copy_next.Goals as goal

pub invariant_of-self : goal.invariant_of-self
invariant_of-self g c =
    let asked = c.asked_to_copy.ensures in
    call_stands g.D.Dir.cells g.D.Dir.plans c.self.inside.cluster c.copy_next.new.self c.self.inside.log c.args.self.now c.self.view_is c.requires.running c.self.invariant asked.0 c.args.at (copies_quiet asked.0 _ asked.1) c.copy_next.result (c.copy_next.ensures.does asked.0 asked.1) c.copy_next.ensures.err

pub returns-clause-does : goal.returns-clause-does
returns-clause-does g c = λ command copies. call_does g.D.Dir.cells g.D.Dir.plans c.self.inside.cluster c.copy_next.new.self c.self.inside.log c.args.self.now c.self.view_is c.requires.running c.self.invariant command c.args.at (copies_quiet command _ copies) c.copy_next.result
    (c.copy_next.ensures.does command (copies_in command c.args.at c.self.inside.cluster c.self.inside.log c.args.self.now c.self.view_is copies))

-- ---- as the cluster says

pub returns-clause-ok : goal.returns-clause-ok
returns-clause-ok g c =
    subst (λ (s : SiteRun). IfOk c.copy_next.result (λ turn. (row : JobRow) → JobRuns s.run.log row → row.job.at ≡ c.args.at → JobGoesOn row.job s.run c.copy_next.new.self turn)) c.self.view_is c.copy_next.ensures.ok

pub returns-clause-rest : goal.returns-clause-rest
returns-clause-rest g c =
    subst (λ (s : SiteRun). OnOk c.copy_next.result (KeepsButFiles c.args.task.now.node.0 s.run c.copy_next.new.self)) c.self.view_is c.copy_next.ensures.rest

pub returns-clause-stops : goal.returns-clause-stops
returns-clause-stops g c =
    subst (λ (s : SiteRun). IfOk c.copy_next.result (λ turn. (row : JobRow) (begun : Event) (log : Log) → job_of c.args.at.lane.0 s.run.log ≡ Some row → start_entry c.args.at (printed s.run.log) ≡ Some begun → stopped_log begun row s.run.log ≡ Some log → StopsTurn log s.run c.copy_next.new.self turn)) c.self.view_is c.copy_next.ensures.stops

pub returns-clause-err : goal.returns-clause-err
returns-clause-err g c =
    subst (λ (s : SiteRun). OnErr c.copy_next.result (IsEnded s.run c.copy_next.new.self)) c.self.view_is c.copy_next.ensures.err

pub returns-clause-settling : goal.returns-clause-settling
returns-clause-settling g c =
    subst (λ (s : SiteRun). (left : SettleTask) → IsSettling s.run.nodes (printed s.run.log) c.args.at left → AreFrom c.args.task.now.node left.left.items → OnOk c.copy_next.result (SettlesOn c.args.at left c.copy_next.new.self)) c.self.view_is c.copy_next.ensures.settling
