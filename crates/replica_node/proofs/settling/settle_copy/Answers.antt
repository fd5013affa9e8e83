use Rattle.replica_node.proofs.Settled.{settles_whole, settles_sourced}
use Rattle.replica_node.proofs.settling.settle_copy.Goals as goal

pub returns-in-Ok-clause-whole : goal.returns-in-Ok-clause-whole
returns-in-Ok-clause-whole g c = settles_whole g.D.Dir.cells c.args.parts.now c.requires.whole c.args.job c.requires.runs c.requires.complete c.requires.own c.args.files.items c.requires.files c.args.seg c.expect.new.self c.done.new.self c.in_ok-expect.ensures.ok c.in-Ok.ensures.ok c.take.new.self c.take.ensures.rest

pub returns-in-Ok-clause-sourced : goal.returns-in-Ok-clause-sourced
returns-in-Ok-clause-sourced g c = settles_sourced g.D.Dir.cells c.args.parts.now c.requires.whole c.args.job c.requires.runs c.requires.complete c.requires.own c.args.files.items c.requires.files c.args.seg c.expect.new.self c.done.new.self c.in_ok-expect.ensures.ok c.in-Ok.ensures.ok c.take.new.self c.take.ensures.rest
