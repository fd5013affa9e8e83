use Rattle.std.proofs.Common.{ap, ◌∙◌, List}
use Rattle.cluster_nodes.specs.declared.held.HeldTicket.{HeldTicket}
use Rattle.cluster_nodes.specs.Held.{held_number}
use Rattle.cluster_nodes.proofs.HeldRows.{held_without}
use Rattle.cluster_nodes.proofs.held.let_go.Goals as goal

pub returns : goal.returns
returns c = λ k. ap (λ (rows : List HeldTicket). held_number rows k) c.without.ensures ∙ held_without c.args.held.now.items c.args.key k
