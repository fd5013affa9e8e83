use Rattle.std.proofs.Common.{sym, subst}
use Rattle.disk_model.specs.Disk.{reads_of}
use Rattle.searcher_switch.specs.Standing.{IsStanding}
use Rattle.searcher_switch.proofs.Freeing.{pending_free, own_free}
use Rattle.replica_node.proofs.Committing.{point_there, standing_begins}
use Rattle.replica_node.proofs.Keeping.{core_of}
use Rattle.replica_node.proofs.Calls.{either, begin_whole, begin_sourced, begin_held, same_whole, same_sourced, same_held}
use Rattle.replica_node.proofs.replica.Replica.commit_begin.Goals as goal

pub begin-requires-clause-there : goal.begin-requires-clause-there
begin-requires-clause-there g c = point_there g.D.Dir.cells c.self.inside.parts (core_of g.D.Dir.cells c.self.inside.parts c.self.invariant)

pub begin-requires-clause-pending : goal.begin-requires-clause-pending
begin-requires-clause-pending g c = let p = c.self.inside.parts in pending_free (g.D.Dir.cells p.dir) p.files p.commits.next c.self.invariant.node.whole c.self.invariant.node.free c.self.invariant.node.sound.some (rw (← c.self.view_is) at c.requires.below)

pub begin-requires-clause-own : goal.begin-requires-clause-own
begin-requires-clause-own g c = let p = c.self.inside.parts in own_free (g.D.Dir.cells p.dir) p.files p.commits.next c.self.invariant.node.whole c.self.invariant.node.free c.self.invariant.node.sound.some (rw (← c.self.view_is) at c.requires.below)

pub invariant_of-self : goal.invariant_of-self
invariant_of-self g c = either c.begin.result c.begin.ensures.book c.begin.ensures.err
    (λ book. either c.begin.result c.begin.ensures.moves c.begin.ensures.err (λ moves. begin_whole g.D.Dir.cells c.self.inside.parts c.self.invariant c.begin.new.files c.begin.new.self book moves c.begin.ensures.sound) (λ same. same_whole g.D.Dir.cells c.self.inside.parts c.self.invariant c.begin.new.files c.begin.new.self same.0 same.1))
    (λ same. same_whole g.D.Dir.cells c.self.inside.parts c.self.invariant c.begin.new.files c.begin.new.self same.0 same.1)

pub returns-clause-whole : goal.returns-clause-whole
returns-clause-whole g c = either c.begin.result c.begin.ensures.book c.begin.ensures.err
    (λ book. either c.begin.result c.begin.ensures.moves c.begin.ensures.err (λ moves. begin_whole g.D.Dir.cells c.self.inside.parts c.self.invariant c.begin.new.files c.begin.new.self book moves c.begin.ensures.sound) (λ same. same_whole g.D.Dir.cells c.self.inside.parts c.self.invariant c.begin.new.files c.begin.new.self same.0 same.1))
    (λ same. same_whole g.D.Dir.cells c.self.inside.parts c.self.invariant c.begin.new.files c.begin.new.self same.0 same.1)

pub returns-clause-standing : goal.returns-clause-standing
returns-clause-standing g c = rw (← c.self.view_is)
    (either c.begin.result c.begin.ensures.book c.begin.ensures.err
    (λ book. either c.begin.result c.begin.ensures.moves c.begin.ensures.err (λ moves. standing_begins g.D.Dir.cells c.self.inside.parts (core_of g.D.Dir.cells c.self.inside.parts c.self.invariant) c.begin.new.files c.begin.new.self book moves c.begin.ensures.sound) (λ same. λ h. record { point = h.point; commits = subst (IsStanding (reads_of (g.D.Dir.cells c.self.inside.parts.dir))) (sym same.0) h.commits }))
    (λ same. λ h. record { point = h.point; commits = subst (IsStanding (reads_of (g.D.Dir.cells c.self.inside.parts.dir))) (sym same.0) h.commits }))

pub returns-clause-sourced : goal.returns-clause-sourced
returns-clause-sourced g c = rw (← c.self.view_is)
    (either c.begin.result c.begin.ensures.book c.begin.ensures.err
    (λ book. either c.begin.result c.begin.ensures.moves c.begin.ensures.err (λ moves. begin_sourced g.D.Dir.cells c.self.inside.parts c.self.invariant c.begin.new.files c.begin.new.self book moves c.begin.ensures.sound) (λ same. same_sourced g.D.Dir.cells c.self.inside.parts c.self.invariant c.begin.new.files c.begin.new.self same.0 same.1))
    (λ same. same_sourced g.D.Dir.cells c.self.inside.parts c.self.invariant c.begin.new.files c.begin.new.self same.0 same.1))

pub returns-clause-held : goal.returns-clause-held
returns-clause-held g c = rw (← c.self.view_is)
    (either c.begin.result c.begin.ensures.book c.begin.ensures.err
    (λ book. either c.begin.result c.begin.ensures.moves c.begin.ensures.err (λ moves. begin_held g.D.Dir.cells c.self.inside.parts c.self.invariant c.begin.new.files c.begin.new.self book moves c.begin.ensures.sound) (λ same. same_held g.D.Dir.cells c.self.inside.parts c.self.invariant c.begin.new.files c.begin.new.self same.0 same.1))
    (λ same. same_held g.D.Dir.cells c.self.inside.parts c.self.invariant c.begin.new.files c.begin.new.self same.0 same.1))
