use Rattle.searcher_switch.proofs.Carry.{front_there}
use Rattle.replica_node.proofs.Calls.{searched_whole, searched_sourced, searched_held}
use Rattle.replica_node.proofs.replica.Replica.acquire.Goals as goal

pub acquire-requires : goal.acquire-requires
acquire-requires g c = front_there _ _ _ _ _ _ c.self.invariant.node

pub invariant_of-self : goal.invariant_of-self
invariant_of-self g c = searched_whole g.D.Dir.cells c.self.inside.parts c.self.invariant c.self.inside.parts.dir c.acquire.new.files c.acquire.new.self c.acquire.ensures.moves c.acquire.ensures.only c.acquire.ensures.point

pub returns-clause-whole : goal.returns-clause-whole
returns-clause-whole g c = searched_whole g.D.Dir.cells c.self.inside.parts c.self.invariant c.self.inside.parts.dir c.acquire.new.files c.acquire.new.self c.acquire.ensures.moves c.acquire.ensures.only c.acquire.ensures.point

pub returns-clause-standing : goal.returns-clause-standing
returns-clause-standing g c = rw (← c.self.view_is)
    (λ h.
    record { point = h.point; commits = h.commits })

pub returns-clause-sourced : goal.returns-clause-sourced
returns-clause-sourced g c = rw (← c.self.view_is)
    (searched_sourced g.D.Dir.cells c.self.inside.parts c.self.invariant c.self.inside.parts.dir c.acquire.new.files c.acquire.new.self c.acquire.ensures.moves c.acquire.ensures.only c.acquire.ensures.point)

pub returns-clause-held : goal.returns-clause-held
returns-clause-held g c = rw (← c.self.view_is)
    (searched_held g.D.Dir.cells c.self.inside.parts c.self.invariant c.self.inside.parts.dir c.acquire.new.files c.acquire.new.self c.acquire.ensures.moves c.acquire.ensures.only c.acquire.ensures.point)
