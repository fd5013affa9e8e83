use Rattle.std.proofs.Common.{rules}
use Rattle.std.specs.Prelude.{not}
use Rattle.std.proofs.lemmas.Fn.{filter_same}
use Rattle.cluster_nodes.specs.Held.{same_key}
use Rattle.cluster_nodes.specs.declared.held.HeldTicket.{HeldTicket}
use Rattle.cluster_nodes.proofs.held.without.Goals as goal

pub returns : goal.returns
returns c = filter_same _ (λ (h : HeldTicket). not (same_key h.key c.args.key)) _ (λ x b g h. search rules) _ _ c.retain.ensures.filtered
