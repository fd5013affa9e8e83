use Rattle.searcher_switch.proofs.Freeing.{pending_free, own_free}
use Rattle.index_primary.proofs.Keeping.{primary_begun, point_there}
use Rattle.index_primary.proofs.primary.Primary.commit_begin.Goals as goal

pub begin-requires-clause-there : goal.begin-requires-clause-there
begin-requires-clause-there g c = point_there g.D.Dir.cells c.self.inside.parts c.self.invariant

pub begin-requires-clause-pending : goal.begin-requires-clause-pending
begin-requires-clause-pending g c = let p = c.self.inside.parts in pending_free (g.D.Dir.cells p.dir) p.files p.commits.next c.self.invariant.node.whole c.self.invariant.node.free c.self.invariant.node.sound.some (rw (← c.self.view_is) at c.requires.below)

pub begin-requires-clause-own : goal.begin-requires-clause-own
begin-requires-clause-own g c = let p = c.self.inside.parts in own_free (g.D.Dir.cells p.dir) p.files p.commits.next c.self.invariant.node.whole c.self.invariant.node.free c.self.invariant.node.sound.some (rw (← c.self.view_is) at c.requires.below)

pub invariant_of-self : goal.invariant_of-self
invariant_of-self g c = primary_begun g.D.Dir.cells c.self.inside.parts c.self.invariant c.begin.result c.begin.new.files c.begin.new.self c.begin.ensures.moves c.begin.ensures.sound c.begin.ensures.book c.begin.ensures.err

pub returns-clause-whole : goal.returns-clause-whole
returns-clause-whole g c = primary_begun g.D.Dir.cells c.self.inside.parts c.self.invariant c.begin.result c.begin.new.files c.begin.new.self c.begin.ensures.moves c.begin.ensures.sound c.begin.ensures.book c.begin.ensures.err
