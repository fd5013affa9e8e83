use Rattle.std.proofs.Common.{false, map}
use Rattle.cluster_state.specs.Met.{met_in}
use Rattle.cluster_state.proofs.Faulted.{faulted}
use Rattle.cluster_state.proofs.met.stands_behind.Goals as goal

pub returns : goal.returns
returns g c = λ log was. faulted g.D.Dir.cells c.args.ledger.now.nodes c.args.places.now.items c.args.ledger.now.cut c.args.tasks.now false c.args.at 1 c.args.before.now (map (met_in g.D.FaultDir.planned) c.args.places.now.items) log was
