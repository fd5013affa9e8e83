use Rattle.cluster_recovery.proofs.DownFirst.{nothing_ends, primary_falls, replica_falls}
use Rattle.cluster_recovery.proofs.falls.end_all.Goals as goal

pub returns-in_default : goal.returns-in_default
returns-in_default g c = nothing_ends g.D.Dir.cells c.args.primary c.args.n.0 c.args.tasks.now c.args.places.now.items c.in_default.not-Some

pub returns-then-p-n : goal.returns-then-p-n
returns-then-p-n g c =
    replica_falls g.D.Dir.cells c.take_back.result c.args.primary c.in-Some.p c.args.n c.args.tasks.now c.args.places.now.items c.take_back.new.places.items c.in-Some.is c.if-p-n.true c.take_back.ensures
