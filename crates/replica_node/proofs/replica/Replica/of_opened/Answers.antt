use Rattle.std.proofs.Common.{refl}
use Rattle.replica_node.proofs.Started.{whole_opened, opens_on}
use Rattle.replica_node.proofs.replica.Replica.of_opened.Goals as goal

pub invariant_of-result : goal.invariant_of-result
invariant_of-result g c =
    whole_opened g.D.Dir.cells c.args.dir c.args.opened c.requires.node c.requires.opened c.args.opened.infos.generation
    (record { running = c.new.result; pending = c.none.result }) (λ i. record { running = c.new.ensures i; pending = c.none.ensures i })

pub returns-clause-opens : goal.returns-clause-opens
returns-clause-opens g c =
    opens_on g.D.Dir.cells c.args.dir c.args.opened c.requires.node c.requires.opened c.args.opened.infos.generation
    (record { running = c.new.result; pending = c.none.result }) (λ i. record { running = c.new.ensures i; pending = c.none.ensures i }) refl c.requires.names
