use Rattle.replica_node.proofs.Planned.{standing_planned}
use Rattle.replica_node.proofs.Calls.{planned_whole, planned_sourced, planned_held}
use Rattle.replica_node.proofs.replica.Replica.stop_at.Goals as goal

pub invariant_of-self : goal.invariant_of-self
invariant_of-self g c = planned_whole g.D.Dir.cells c.self.inside.parts c.self.invariant c.stop_at.new.self c.stop_at.ensures.cells

pub returns-clause-whole : goal.returns-clause-whole
returns-clause-whole g c = planned_whole g.D.Dir.cells c.self.inside.parts c.self.invariant c.stop_at.new.self c.stop_at.ensures.cells

pub returns-clause-standing : goal.returns-clause-standing
returns-clause-standing g c = rw (← c.self.view_is)
    (standing_planned g.D.Dir.cells c.self.inside.parts c.stop_at.new.self c.stop_at.ensures.cells)

pub returns-clause-sourced : goal.returns-clause-sourced
returns-clause-sourced g c = rw (← c.self.view_is)
    (planned_sourced g.D.Dir.cells c.self.inside.parts c.self.invariant c.stop_at.new.self c.stop_at.ensures.cells)

pub returns-clause-held : goal.returns-clause-held
returns-clause-held g c = rw (← c.self.view_is)
    (planned_held g.D.Dir.cells c.self.inside.parts c.self.invariant c.stop_at.new.self c.stop_at.ensures.cells)
