use Rattle.std.proofs.Common.{Err, ap}
use Rattle.node_tests.proofs.Unmade.{not_ready, fit_split, made_for, seen_readied, seen_ended}
use Rattle.node_tests.proofs.calls.merge_ready.Goals as goal

pub merge-requires-clause-sound : goal.merge-requires-clause-sound
merge-requires-clause-sound g c = (fit_split c.args.seen.now.merges c.remove-task.result c.requires.fit c.remove-task.ensures.item).0.sound

pub merge_ready-requires : goal.merge_ready-requires
merge_ready-requires g c =
    let none = not_ready c.args.seen.now.ready c.is_some.result c.is_some.ensures c.if-is_some.false in
    made_for c.args.primary.now c.args.primary.now c.args.seen.now c.requires c.remove-task.result c.in_ok-merged.merged none c.remove-task.ensures.item c.in_ok-merged.ensures

pub returns-in-Ok : goal.returns-in-Ok
returns-in-Ok g c =
    let none = not_ready c.args.seen.now.ready c.is_some.result c.is_some.ensures c.if-is_some.false in
    seen_readied c.args.primary.now c.merge_ready.new.self c.args.seen.now c.requires c.remove-task.result c.in_ok-merged.merged c.remove-task.new.self none c.remove-task.ensures.item
    c.remove-task.ensures.rest c.in_ok-merged.ensures c.in-Ok.ensures.others c.in-Ok.ensures.merges

pub returns-in-Err-Failed : goal.returns-in-Err-Failed
returns-in-Err-Failed g c =
    let none = not_ready c.args.seen.now.ready c.is_some.result c.is_some.ensures c.if-is_some.false in
    seen_ended c.args.primary.now c.merge_ready.new.self c.args.seen.now c.requires c.remove-task.result c.in_ok-merged.merged c.remove-task.new.self none c.remove-task.ensures.item c.remove-task.ensures.rest
    c.in_ok-merged.ensures c.in-Err-Failed.ensures.others (c.in-Err-Failed.ensures.ended (ap Err c.in-Err-Failed.field-0-is))
