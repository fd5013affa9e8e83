use Rattle.replica_node.proofs.Beside.{standing_searched}
use Rattle.replica_node.proofs.Keeping.{core_of}
use Rattle.replica_node.proofs.Searched.{searched}
use Rattle.replica_node.proofs.Calls.{searched_whole, searched_sourced, searched_held}
use Rattle.searcher_switch.proofs.Appearing.{keeps_none}
use Rattle.replica_node.proofs.replica.Replica.release.Goals as goal

pub invariant_of-self : goal.invariant_of-self
invariant_of-self g c = searched_whole g.D.Dir.cells c.self.inside.parts c.self.invariant c.release.new.dir c.release.new.files c.release.new.self c.release.ensures.moves c.release.ensures.only c.release.ensures.point

pub returns-clause-whole : goal.returns-clause-whole
returns-clause-whole g c = searched_whole g.D.Dir.cells c.self.inside.parts c.self.invariant c.release.new.dir c.release.new.files c.release.new.self c.release.ensures.moves c.release.ensures.only c.release.ensures.point

pub returns-clause-standing : goal.returns-clause-standing
returns-clause-standing g c = rw (← c.self.view_is)
    (let core = core_of g.D.Dir.cells c.self.inside.parts c.self.invariant in
    standing_searched g.D.Dir.cells c.self.inside.parts core c.release.new.dir c.release.new.files c.release.new.self (searched g.D.Dir.cells c.self.inside.parts core c.release.new.dir c.release.new.files c.release.new.self c.release.ensures.moves c.release.ensures.only c.release.ensures.point) c.release.ensures.moves.keeps.reads)

pub returns-clause-sourced : goal.returns-clause-sourced
returns-clause-sourced g c = rw (← c.self.view_is)
    (searched_sourced g.D.Dir.cells c.self.inside.parts c.self.invariant c.release.new.dir c.release.new.files c.release.new.self c.release.ensures.moves c.release.ensures.only c.release.ensures.point)

pub returns-clause-held : goal.returns-clause-held
returns-clause-held g c = rw (← c.self.view_is)
    (searched_held g.D.Dir.cells c.self.inside.parts c.self.invariant c.release.new.dir c.release.new.files c.release.new.self c.release.ensures.moves c.release.ensures.only c.release.ensures.point)

pub returns-clause-appears : goal.returns-clause-appears
returns-clause-appears g c = rw (← c.self.view_is)
    (keeps_none c.self.inside.parts.files c.release.new.files (g.D.Dir.cells c.self.inside.parts.dir) (g.D.Dir.cells c.release.new.dir) c.release.ensures.moves.keeps)
