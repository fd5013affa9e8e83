use Rattle.replica_node.proofs.Endings.{back_then, back_seen}
use Rattle.replica_node.proofs.ends.enter.Goals as goal

pub returns-clause-back : goal.returns-clause-back
returns-clause-back g c =
    back_seen g.D.Dir.cells g.D.Dir.faults c.args.parts.now c.end_copies.new.parts c.args.generation
    (back_then g.D.Dir.cells g.D.Dir.faults c.args.parts.now c.end_stopped.new.parts c.end_copies.new.parts c.end_stopped.ensures.back c.end_copies.ensures.back)
