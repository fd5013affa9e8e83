use Rattle.cluster_nodes.proofs.TicketNodes.{closed_node}
use Rattle.cluster_nodes.proofs.tickets.release.Goals as goal

pub returns-in-Primary-clause-files : goal.returns-in-Primary-clause-files
returns-in-Primary-clause-files g c =
    closed_node g.D.Dir.cells c.args.node.now c.in-Primary.primary c.release.new.self c.in-Primary.is c.release.ensures.others c.release.ensures.stays c.release.ensures.no_new c.release.ensures.appears
