use Rattle.std.proofs.Common.{◌∙◌, sym, ap}
use Rattle.index_primary.specs.declared.parts.PrimaryParts.{PrimaryParts}
use Rattle.replica_node.specs.declared.parts.ReplicaParts.{ReplicaParts}
use Rattle.cluster_nodes.specs.declared.nodes.Node.{Node}
use Rattle.cluster_nodes.specs.Places.{dir_of}
use Rattle.cluster_nodes.proofs.TicketNodes.{opened_node, opened_replica}
use Rattle.cluster_nodes.proofs.tickets.acquire.Goals as goal

pub returns-in_ok-number-in-Primary-clause-files : goal.returns-in_ok-number-in-Primary-clause-files
returns-in_ok-number-in-Primary-clause-files g c =
    opened_node g.D.Dir.cells c.args.node.now c.in-Primary.primary c.acquire.new.self c.in-Primary.is c.acquire.ensures.others c.acquire.ensures.stays c.acquire.ensures.no_new

pub returns-in_ok-number-in-Replica-clause-files : goal.returns-in_ok-number-in-Replica-clause-files
returns-in_ok-number-in-Replica-clause-files g c =
    opened_replica g.D.Dir.cells c.args.node.now c.in-Replica.replica c.acquire-in-Replica.new.self c.in-Replica.is c.acquire-in-Replica.ensures.others c.acquire-in-Replica.ensures.point c.acquire-in-Replica.ensures.sourced

pub returns-in_ok-number-in-Primary-clause-dir : goal.returns-in_ok-number-in-Primary-clause-dir
returns-in_ok-number-in-Primary-clause-dir g c = ap (λ (p : PrimaryParts _). p.dir) c.acquire.ensures.others ∙ sym (ap (λ (x : Node _). dir_of x) c.in-Primary.is)

pub returns-in_ok-number-in-Replica-clause-dir : goal.returns-in_ok-number-in-Replica-clause-dir
returns-in_ok-number-in-Replica-clause-dir g c = ap (λ (r : ReplicaParts _). r.dir) c.acquire-in-Replica.ensures.others ∙ sym (ap (λ (x : Node _). dir_of x) c.in-Replica.is)
