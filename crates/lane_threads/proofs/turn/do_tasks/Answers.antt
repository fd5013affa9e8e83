use Rattle.lane_threads.proofs.Heard.{heard_first, heard_then}
use Rattle.lane_threads.proofs.turn.do_tasks.Goals as goal

pub loop-init : goal.loop-init
loop-init g c = heard_first (g.Q.RunsLines.set_up c.args.runner.now).log c.args.lock.now c.args.lane.now c.requires

pub loop-preserved-then-branch : goal.loop-preserved-then-branch
loop-preserved-then-branch g c = heard_then (g.Q.RunsLines.set_up c.args.runner.now).log c.args.lock.now c.args.lane.now c.loop.lane c.do_task.new.lane c.loop.invariant c.in_ok-do_task.ensures.heard

pub returns-then-is_over-clause-heard : goal.returns-then-is_over-clause-heard
returns-then-is_over-clause-heard g c = heard_then (g.Q.RunsLines.set_up c.args.runner.now).log c.args.lock.now c.args.lane.now c.loop.lane c.do_task.new.lane c.loop.invariant c.in_ok-do_task.ensures.heard

pub loop-preserved : goal.loop-preserved
loop-preserved g c = heard_then (g.Q.RunsLines.set_up c.args.runner.now).log c.args.lock.now c.args.lane.now c.loop.lane c.do_task.new.lane c.loop.invariant c.in_ok-do_task.ensures.heard
