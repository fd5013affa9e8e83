use Rattle.std.proofs.Common.{List, ap, ◌∙◌}
use Rattle.cluster_nodes.specs.declared.held.HeldTicket.{HeldTicket}
use Rattle.cluster_nodes.specs.Held.{held_number}
use Rattle.cluster_nodes.proofs.HeldRows.{held_more}
use Rattle.cluster_nodes.proofs.held.hold.Goals as goal

pub returns : goal.returns
returns c = λ k. ap (λ (rows : List HeldTicket). held_number rows k) c.in_ok-push.ensures.items ∙ held_more c.args.held.now.items (record { key = c.args.key; number = c.args.number }) k
