use Rattle.cluster_nodes.proofs.TicketNodes.{node_alone}
use Rattle.cluster_nodes.proofs.tickets.give_ticket_back.Goals as goal

pub returns-in_default-clause-files : goal.returns-in_default-clause-files
returns-in_default-clause-files g c = node_alone g.D.Dir.cells c.args.place.now.node
