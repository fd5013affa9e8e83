use Rattle.searcher_switch.proofs.Carry.{front_there}
use Rattle.index_primary.proofs.Keeping.{primary_searchers}
use Rattle.std.proofs.Common.{refl, ◌++◌}
use Rattle.searcher_switch.specs.Searching.{searcher_names}
use Rattle.index_primary.specs.Primary.{rest_names}
use Rattle.index_primary.proofs.Holding.{only_front}
use Rattle.index_primary.proofs.NewFiles.{no_new_named}
use Rattle.index_primary.proofs.primary.Primary.acquire.Goals as goal

pub acquire-requires : goal.acquire-requires
acquire-requires g c = front_there _ _ _ _ _ _ c.self.invariant.node

pub invariant_of-self : goal.invariant_of-self
invariant_of-self g c = primary_searchers g.D.Dir.cells c.self.inside.parts c.self.invariant c.self.inside.parts.dir c.acquire.new.files c.acquire.new.self c.acquire.ensures.moves c.acquire.ensures.only c.acquire.ensures.point

pub returns-clause-whole : goal.returns-clause-whole
returns-clause-whole g c = primary_searchers g.D.Dir.cells c.self.inside.parts c.self.invariant c.self.inside.parts.dir c.acquire.new.files c.acquire.new.self c.acquire.ensures.moves c.acquire.ensures.only c.acquire.ensures.point

pub returns-clause-no_new : goal.returns-clause-no_new
returns-clause-no_new g c = rw (← c.self.view_is)
    (let p = c.self.inside.parts in
    let whole = primary_searchers g.D.Dir.cells p c.self.invariant p.dir c.acquire.new.files c.acquire.new.self c.acquire.ensures.moves c.acquire.ensures.only c.acquire.ensures.point in
    no_new_named g.D.Dir.cells p _ c.self.invariant whole refl (only_front (searcher_names p.searchers) (searcher_names c.acquire.new.self) (p.names ++ rest_names p) c.acquire.ensures.only))
