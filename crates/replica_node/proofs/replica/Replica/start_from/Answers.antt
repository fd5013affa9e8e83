use Rattle.std.proofs.Common.{sym, subst, ◌≤◌}
use Rattle.replica_node.proofs.replica.Replica.start_from.Goals as goal

pub of_opened-requires-clause-opened : goal.of_opened-requires-clause-opened
of_opened-requires-clause-opened g c = c.in-Ok.ensures.opened.opened

pub of_opened-requires-clause-node : goal.of_opened-requires-clause-node
of_opened-requires-clause-node g c = c.in-Ok.ensures.opened.node c.requires

pub of_opened-requires-clause-names : goal.of_opened-requires-clause-names
of_opened-requires-clause-names g c = c.in-Ok.ensures.opened.names

pub returns-in-Ok-clause-opened : goal.returns-in-Ok-clause-opened
returns-in-Ok-clause-opened g c = c.of_opened.ensures.opens c.args.dir c.in-Ok.ensures.kept c.in-Ok.ensures.found

pub returns-in-Ok-clause-later : goal.returns-in-Ok-clause-later
returns-in-Ok-clause-later g c = subst (λ d. g.D.Dir.faults c.args.dir ≤ g.D.Dir.faults d) (sym c.of_opened.ensures.dir) c.in-Ok.ensures.later
