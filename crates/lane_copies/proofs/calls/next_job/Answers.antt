use Rattle.std.proofs.Common.{subst}
use Rattle.history_book.specs.Log.{printed}
use Rattle.cluster_nodes.specs.declared.tasks.CopyTask.{CopyTask}
use Rattle.cluster_state.specs.declared.turn.Turn.{Turn}
use Rattle.cluster_state.specs.declared.turn.Turn.TheVariants.{Work, Done, Busy}
use Rattle.cluster_state.specs.CopyCalls.{SettleGoesOn}
use Rattle.cluster_site.specs.Given.{IsRepliedAtDone}
use Rattle.lane_copies.proofs.JobCalls.{settle_copied, begins_shows, waits_shows, settle_held, closed_settle}
use Rattle.lane_copies.proofs.calls.next_job.Goals as goal

pub settle_next-requires-clause-settling : goal.settle_next-requires-clause-settling
settle_next-requires-clause-settling g c =
    settle_copied c.args.site.now.run.nodes (printed c.args.site.now.run.log) c.args.at c.args.left.now c.in_ok-next.next c.in_ok-next.ensures.version c.in_ok-next.ensures.nodes
    (c.requires.settling (c.is_open.ensures.0 c.if-not-is_open.false))

pub returns-then-not-is_open-clause-ok : goal.returns-then-not-is_open-clause-ok
returns-then-not-is_open-clause-ok g c = closed_settle c.args.at c.args.site.now.run c.args.left.now c.is_open.result c.is_open.ensures c.if-not-is_open.true c.requires.started

pub returns-in-Busy-clause-ok : goal.returns-in-Busy-clause-ok
returns-in-Busy-clause-ok g c =
    let goes : SettleGoesOn c.args.at c.args.site.now.run c.settle_next.new.self.run c.settle_next.new.task Busy =
    subst (λ (turn : Turn CopyTask). SettleGoesOn c.args.at c.args.site.now.run c.settle_next.new.self.run c.settle_next.new.task turn) c.in-Busy.is c.in_ok-settle_next.ensures.ok in
    waits_shows c.args.at c.args.site.now.run c.settle_next.new.self.run c.args.left.now c.settle_next.new.task (c.requires.settling (c.is_open.ensures.0 c.if-not-is_open.false)) goes

pub returns-in-Done-clause-ok : goal.returns-in-Done-clause-ok
returns-in-Done-clause-ok g c = subst (λ (turn : Turn CopyTask). IsRepliedAtDone c.args.at c.settle_next.new.self.run turn) c.in-Done.is c.in_ok-settle_next.ensures.replied

pub returns-in-Work-clause-ok : goal.returns-in-Work-clause-ok
returns-in-Work-clause-ok g c =
    let goes : SettleGoesOn c.args.at c.args.site.now.run c.settle_next.new.self.run c.settle_next.new.task (Work c.in-Work.task) =
    subst (λ (turn : Turn CopyTask). SettleGoesOn c.args.at c.args.site.now.run c.settle_next.new.self.run c.settle_next.new.task turn) c.in-Work.is c.in_ok-settle_next.ensures.ok in
    begins_shows c.args.at c.args.site.now.run c.settle_next.new.self.run c.settle_next.new.task c.in-Work.task goes

pub returns-in-Busy-clause-waits : goal.returns-in-Busy-clause-waits
returns-in-Busy-clause-waits g c =
    let goes : SettleGoesOn c.args.at c.args.site.now.run c.settle_next.new.self.run c.settle_next.new.task Busy =
    subst (λ (turn : Turn CopyTask). SettleGoesOn c.args.at c.args.site.now.run c.settle_next.new.self.run c.settle_next.new.task turn) c.in-Busy.is c.in_ok-settle_next.ensures.ok in
    settle_held c.args.at c.args.site.now.run c.settle_next.new.self.run c.settle_next.new.task goes

pub returns-then-not-is_open-clause-waits : goal.returns-then-not-is_open-clause-waits
returns-then-not-is_open-clause-waits g c = tt

pub returns-in-Done-clause-waits : goal.returns-in-Done-clause-waits
returns-in-Done-clause-waits g c = tt

pub returns-in-Work-clause-waits : goal.returns-in-Work-clause-waits
returns-in-Work-clause-waits g c = tt
