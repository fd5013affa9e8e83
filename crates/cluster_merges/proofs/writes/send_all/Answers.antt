use Rattle.std.proofs.Common.{get_or, refl, arith}
use Rattle.merge_tasks.specs.Board.{open_merge, spread_at}
use Rattle.cluster_merges.specs.Sending.{spread_to}
use Rattle.cluster_merges.proofs.SendLoop.{is_spread, none_yet, row_there, may_next, sent_next, sent_last}
use Rattle.cluster_merges.proofs.writes.send_all.Goals as goal

pub loop-n-init : goal.loop-n-init
loop-n-init g c = none_yet g.D.Dir.cells c.args.seg.0 c.args.state.now c.args.nodes.now c.args.tasks.now c.args.places.now.items c.requires.may c.requires.written c.new-sent.result.items c.new-sent.ensures.items

pub send_one-requires-clause-may : goal.send_one-requires-clause-may
send_one-requires-clause-may g c = may_next g.D.Dir.cells c.args.seg.0 c.args.state.now c.args.nodes.now c.args.tasks.now c.args.places.now.items c.requires.may c.requires.written
    c.loop-n.n-index c.loop-n.sent.items c.loop-n.tasks c.loop-n.places.items c.loop-n.invariant (get_or c.args.nodes.now c.loop-n.n-index (record { 0 = 0 })) (record { 0 = 0 }) c.loop-n-test.true refl

pub send_one-requires-clause-written : goal.send_one-requires-clause-written
send_one-requires-clause-written g c = is_spread (spread_at (open_merge c.args.seg.0 c.loop-n.tasks.rows)) (spread_to c.args.state.now c.loop-n.sent.items)
    (row_there g.D.Dir.cells c.args.seg.0 c.args.state.now c.args.nodes.now c.args.tasks.now c.args.places.now.items c.requires.may c.requires.written c.loop-n.n-index c.loop-n.sent.items c.loop-n.tasks c.loop-n.places.items c.loop-n.invariant)

pub loop-n-preserved : goal.loop-n-preserved
loop-n-preserved g c = sent_next g.D.Dir.cells c.args.seg.0 c.args.state.now c.args.nodes.now c.args.tasks.now c.args.places.now.items c.requires.may c.requires.written
    c.loop-n.n-index c.loop-n.sent.items c.loop-n.tasks c.loop-n.places.items c.loop-n.invariant _ _ c.in_ok-one.one c.push.new.self.items c.send_one.new.tasks c.send_one.new.places.items
    c.loop-n-test.true refl c.in_ok-one.ensures c.in_ok-push.ensures.items

pub returns : goal.returns
returns g c = sent_last g.D.Dir.cells c.args.seg.0 c.args.state.now c.args.nodes.now c.args.tasks.now c.args.places.now.items c.requires.may c.requires.written
    c.loop-n.n-index c.loop-n.sent.items c.loop-n.tasks c.loop-n.places.items c.loop-n.invariant (omega arith)
