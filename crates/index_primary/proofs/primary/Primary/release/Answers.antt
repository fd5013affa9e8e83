use Rattle.index_primary.proofs.Keeping.{primary_searchers}
use Rattle.std.proofs.Common.{refl, ◌++◌}
use Rattle.searcher_switch.specs.Searching.{searcher_names}
use Rattle.index_primary.specs.Primary.{rest_names}
use Rattle.index_primary.proofs.Holding.{only_front}
use Rattle.index_primary.proofs.NewFiles.{no_new_named}
use Rattle.searcher_switch.proofs.Appearing.{keeps_none}
use Rattle.index_primary.proofs.primary.Primary.release.Goals as goal

pub invariant_of-self : goal.invariant_of-self
invariant_of-self g c = primary_searchers g.D.Dir.cells c.self.inside.parts c.self.invariant c.release.new.dir c.release.new.files c.release.new.self c.release.ensures.moves c.release.ensures.only c.release.ensures.point

pub returns-clause-whole : goal.returns-clause-whole
returns-clause-whole g c = primary_searchers g.D.Dir.cells c.self.inside.parts c.self.invariant c.release.new.dir c.release.new.files c.release.new.self c.release.ensures.moves c.release.ensures.only c.release.ensures.point

pub returns-clause-no_new : goal.returns-clause-no_new
returns-clause-no_new g c = rw (← c.self.view_is)
    (let p = c.self.inside.parts in
    let whole = primary_searchers g.D.Dir.cells p c.self.invariant c.release.new.dir c.release.new.files c.release.new.self c.release.ensures.moves c.release.ensures.only c.release.ensures.point in
    no_new_named g.D.Dir.cells p _ c.self.invariant whole refl (only_front (searcher_names p.searchers) (searcher_names c.release.new.self) (p.names ++ rest_names p) c.release.ensures.only))

pub returns-clause-appears : goal.returns-clause-appears
returns-clause-appears g c = rw (← c.self.view_is)
    (keeps_none c.self.inside.parts.files c.release.new.files (g.D.Dir.cells c.self.inside.parts.dir) (g.D.Dir.cells c.release.new.dir) c.release.ensures.moves.keeps)
