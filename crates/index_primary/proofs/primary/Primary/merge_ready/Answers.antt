use Rattle.std.proofs.Common.{List, ap, refl, sym, subst, ◌∙◌, is_some}
use Rattle.disk_model.specs.Disk.{reads_of}
use Rattle.searcher_switch.proofs.Appearing.{keeps_none, only_then_none}
use Rattle.index_primary.specs.declared.states.Out.{Out}
use Rattle.index_primary.specs.Held.{IsOwnFile}
use Rattle.index_primary.specs.Primary.{loose_of, IsPrimary}
use Rattle.index_primary.proofs.NewFiles.{same_no_new}
use Rattle.index_primary.proofs.Abandoned.{refused_no_new, refused_fills, refused_stays}
use Rattle.index_primary.proofs.Readied.{fresh, once, ready_appears, ready_unwritten, written_there, written_counted, unheld_counts, unheld_stays, ready_unheld, primary_ready, ready_draws, ready_fills, ready_stays}
use Rattle.index_primary.proofs.primary.Primary.merge_ready.Goals as goal

pub write_all-requires-clause-fresh : goal.write_all-requires-clause-fresh
write_all-requires-clause-fresh g c = rw (c.as_slice.ensures, c.in_ok-ready.ensures.written) (fresh g.D.Dir.cells c.self.inside.parts c.self.invariant c.args.merged c.in_ok-ready.ensures.m c.in_ok-ready.ensures.found c.in_ok-ready.ensures.unmade c.in_ok-ready.ensures.of)

pub write_all-requires-clause-once : goal.write_all-requires-clause-once
write_all-requires-clause-once g c = rw (c.as_slice.ensures, c.in_ok-ready.ensures.written) (once g.D.Dir.cells c.self.inside.parts c.self.invariant c.args.merged c.in_ok-ready.ensures.m c.in_ok-ready.ensures.found c.in_ok-ready.ensures.unmade c.in_ok-ready.ensures.of)

-- the writes are refused
pub abandon-requires-clause-whole : goal.abandon-requires-clause-whole
abandon-requires-clause-whole g c = ready_unwritten g.D.Dir.cells c.self.inside.parts c.self.invariant c.args.merged c.in_ok-ready.ensures.m c.in_ok-ready.ensures.found c.in_ok-ready.ensures.unmade c.in_ok-ready.ensures.of c.write_all.new.dir c.write_all.new.files c.in-Err-Failed.ensures.same (rw (c.as_slice.ensures, c.in_ok-ready.ensures.written) at c.in-Err-Failed.ensures.keeps)

pub abandon-requires-clause-there : goal.abandon-requires-clause-there
abandon-requires-clause-there g c = ap is_some c.in_ok-ready.ensures.found

pub returns-in-Err-Failed-clause-appears : goal.returns-in-Err-Failed-clause-appears
returns-in-Err-Failed-clause-appears g c = rw (← c.self.view_is)
    (let p = c.self.inside.parts in
    only_then_none (IsOwnFile p.infos (loose_of p)) (g.D.Dir.cells p.dir) (g.D.Dir.cells c.write_all.new.dir) (g.D.Dir.cells c.abandon.new.parts.dir)
    (ready_appears g.D.Dir.cells c.self.inside.parts c.self.invariant c.args.merged c.in_ok-ready.ensures.m c.in_ok-ready.ensures.found c.in_ok-ready.ensures.unmade c.in_ok-ready.ensures.of c.write_all.new.dir c.write_all.new.files (rw (c.as_slice.ensures, c.in_ok-ready.ensures.written) at c.in-Err-Failed.ensures.keeps)) c.abandon.ensures.appears)

pub returns-in-Err-Failed-clause-given_back : goal.returns-in-Err-Failed-clause-given_back
returns-in-Err-Failed-clause-given_back g c = rw (← c.self.view_is)
    (refused_no_new g.D.Dir.cells c.self.inside.parts (record c.self.inside.parts { dir = c.write_all.new.dir; files = c.write_all.new.files }) c.abandon.new.parts c.in-Err-Failed.ensures.same c.abandon.ensures.no_new)

pub returns-in-Err-Failed-clause-fresh : goal.returns-in-Err-Failed-clause-fresh
returns-in-Err-Failed-clause-fresh g c = rw (← c.self.view_is)
    (refused_fills g.D.Dir.cells c.self.inside.parts (record c.self.inside.parts { dir = c.write_all.new.dir; files = c.write_all.new.files }) c.abandon.new.parts c.in-Err-Failed.ensures.same c.abandon.ensures.no_new)

-- the directory and the counts say nothing of what is not written yet
pub returns-in-Err-Failed-clause-drawn : goal.returns-in-Err-Failed-clause-drawn
returns-in-Err-Failed-clause-drawn g c = rw (← c.self.view_is)
    (record { each = λ q u. c.abandon.ensures.drawn.each q u })

pub returns-in-Err-Failed-clause-stays : goal.returns-in-Err-Failed-clause-stays
returns-in-Err-Failed-clause-stays g c = rw (← c.self.view_is)
    (refused_stays g.D.Dir.cells c.self.inside.parts (record c.self.inside.parts { dir = c.write_all.new.dir; files = c.write_all.new.files }) c.abandon.new.parts c.in-Err-Failed.ensures.same _ c.in-Err-Failed.ensures.keeps c.abandon.ensures.stays)

pub returns-in-Err-clause-drawn : goal.returns-in-Err-clause-drawn
returns-in-Err-clause-drawn g c = rw (← c.self.view_is)
    (record { each = λ q u. u })

pub returns-in-Err-clause-stays : goal.returns-in-Err-clause-stays
returns-in-Err-clause-stays g c = rw (← c.self.view_is)
    (record { held = λ q had has. c.in-Err.ensures.keeps.reads q had has })

pub returns-in-Err-clause-given_back : goal.returns-in-Err-clause-given_back
returns-in-Err-clause-given_back g c = rw (← c.self.view_is)
    (refused_no_new g.D.Dir.cells c.self.inside.parts (record c.self.inside.parts { dir = c.write_all.new.dir; files = c.write_all.new.files }) (record c.self.inside.parts { dir = c.write_all.new.dir; files = c.write_all.new.files }) c.in-Err.ensures.same (same_no_new (record c.self.inside.parts { dir = c.write_all.new.dir; files = c.write_all.new.files })))

pub returns-in-Err-clause-fresh : goal.returns-in-Err-clause-fresh
returns-in-Err-clause-fresh g c = rw (← c.self.view_is)
    (refused_fills g.D.Dir.cells c.self.inside.parts (record c.self.inside.parts { dir = c.write_all.new.dir; files = c.write_all.new.files }) (record c.self.inside.parts { dir = c.write_all.new.dir; files = c.write_all.new.files }) c.in-Err.ensures.same (same_no_new (record c.self.inside.parts { dir = c.write_all.new.dir; files = c.write_all.new.files })))

pub invariant_of-self-in-Err : goal.invariant_of-self-in-Err
invariant_of-self-in-Err g c = ready_unwritten g.D.Dir.cells c.self.inside.parts c.self.invariant c.args.merged c.in_ok-ready.ensures.m c.in_ok-ready.ensures.found c.in_ok-ready.ensures.unmade c.in_ok-ready.ensures.of c.write_all.new.dir c.write_all.new.files c.in-Err.ensures.same (rw (c.as_slice.ensures, c.in_ok-ready.ensures.written) at c.in-Err.ensures.keeps)

pub returns-in-Err-clause-whole : goal.returns-in-Err-clause-whole
returns-in-Err-clause-whole g c = ready_unwritten g.D.Dir.cells c.self.inside.parts c.self.invariant c.args.merged c.in_ok-ready.ensures.m c.in_ok-ready.ensures.found c.in_ok-ready.ensures.unmade c.in_ok-ready.ensures.of c.write_all.new.dir c.write_all.new.files c.in-Err.ensures.same (rw (c.as_slice.ensures, c.in_ok-ready.ensures.written) at c.in-Err.ensures.keeps)

pub returns-in-Err-clause-appears : goal.returns-in-Err-clause-appears
returns-in-Err-clause-appears g c = rw (← c.self.view_is)
    (ready_appears g.D.Dir.cells c.self.inside.parts c.self.invariant c.args.merged c.in_ok-ready.ensures.m c.in_ok-ready.ensures.found c.in_ok-ready.ensures.unmade c.in_ok-ready.ensures.of c.write_all.new.dir c.write_all.new.files (rw (c.as_slice.ensures, c.in_ok-ready.ensures.written) at c.in-Err.ensures.keeps))

-- the hold of the state
pub lend-requires-clause-there : goal.lend-requires-clause-there
lend-requires-clause-there g c = rw (c.as_slice-3.ensures, c.in_ok-ready.ensures.written) (written_there g.D.Dir.cells c.self.inside.parts c.self.invariant c.args.merged c.in_ok-ready.ensures.m c.in_ok-ready.ensures.found c.in_ok-ready.ensures.unmade c.in_ok-ready.ensures.of c.write_all.new.dir c.write_all.new.files (rw (c.as_slice.ensures, c.in_ok-ready.ensures.written) at c.in-Ok.ensures.counts) (rw (c.as_slice.ensures, c.in_ok-ready.ensures.written) at c.in-Ok.ensures.keeps))

pub lend-requires-clause-names : goal.lend-requires-clause-names
lend-requires-clause-names g c = rw c.as_slice-3.ensures
    (ap (λ (o : Out). o.names) c.in_ok-ready.ensures.out ∙ (c.in_ok-ready.ensures.state (reads_of (g.D.Dir.cells c.write_all.new.dir)) (rw c.as_slice-2.ensures at c.in-Ok.ensures.reads)).names_are ∙ sym c.in_ok-ready.ensures.written)

pub release-requires : goal.release-requires
release-requires g c = rw (c.as_slice-in-Err-lend.ensures, c.in_ok-ready.ensures.written, c.in-Err-lend.ensures.err.1) (record { each = written_counted g.D.Dir.cells c.self.inside.parts c.self.invariant c.args.merged c.in_ok-ready.ensures.m c.in_ok-ready.ensures.found c.in_ok-ready.ensures.unmade c.in_ok-ready.ensures.of c.write_all.new.dir c.write_all.new.files (rw (c.as_slice.ensures, c.in_ok-ready.ensures.written) at c.in-Ok.ensures.counts) (rw (c.as_slice.ensures, c.in_ok-ready.ensures.written) at c.in-Ok.ensures.keeps) })

pub invariant_of-self-in-Err-lend : goal.invariant_of-self-in-Err-lend
invariant_of-self-in-Err-lend g c = subst (λ (ss : List Out). IsPrimary g.D.Dir.cells (record c.self.inside.parts { dir = c.release.new.dir; files = c.release.new.self; states = ss })) (sym c.in-Err-lend.ensures.err.0)
    (ready_unheld g.D.Dir.cells c.self.inside.parts c.self.invariant c.args.merged c.in_ok-ready.ensures.m c.in_ok-ready.ensures.found c.in_ok-ready.ensures.unmade c.in_ok-ready.ensures.of c.write_all.new.dir c.write_all.new.files (rw (c.as_slice.ensures, c.in_ok-ready.ensures.written) at c.in-Ok.ensures.counts) (rw (c.as_slice.ensures, c.in_ok-ready.ensures.written) at c.in-Ok.ensures.keeps) c.release.new.dir c.release.new.self
    (rw (c.as_slice-in-Err-lend.ensures, c.in_ok-ready.ensures.written, c.in-Err-lend.ensures.err.1) at c.release.ensures.lets_go))

pub returns-in-Err-lend-clause-whole : goal.returns-in-Err-lend-clause-whole
returns-in-Err-lend-clause-whole g c = subst (λ (ss : List Out). IsPrimary g.D.Dir.cells (record c.self.inside.parts { dir = c.release.new.dir; files = c.release.new.self; states = ss })) (sym c.in-Err-lend.ensures.err.0)
    (ready_unheld g.D.Dir.cells c.self.inside.parts c.self.invariant c.args.merged c.in_ok-ready.ensures.m c.in_ok-ready.ensures.found c.in_ok-ready.ensures.unmade c.in_ok-ready.ensures.of c.write_all.new.dir c.write_all.new.files (rw (c.as_slice.ensures, c.in_ok-ready.ensures.written) at c.in-Ok.ensures.counts) (rw (c.as_slice.ensures, c.in_ok-ready.ensures.written) at c.in-Ok.ensures.keeps) c.release.new.dir c.release.new.self
    (rw (c.as_slice-in-Err-lend.ensures, c.in_ok-ready.ensures.written, c.in-Err-lend.ensures.err.1) at c.release.ensures.lets_go))

pub returns-in-Err-lend-clause-drawn : goal.returns-in-Err-lend-clause-drawn
returns-in-Err-lend-clause-drawn g c = rw (← c.self.view_is)
    (record { each = λ q u. u })

pub returns-in-Err-lend-clause-given_back : goal.returns-in-Err-lend-clause-given_back
returns-in-Err-lend-clause-given_back g c = rw (← c.self.view_is)
    (let n = record c.self.inside.parts { dir = c.release.new.dir; files = c.release.new.self; states = c.lend.new.states } in
    refused_no_new g.D.Dir.cells c.self.inside.parts n n (unheld_counts g.D.Dir.cells c.self.inside.parts c.self.invariant c.args.merged c.in_ok-ready.ensures.m c.in_ok-ready.ensures.found c.in_ok-ready.ensures.unmade c.in_ok-ready.ensures.of c.write_all.new.dir c.write_all.new.files (rw (c.as_slice.ensures, c.in_ok-ready.ensures.written) at c.in-Ok.ensures.counts) (rw (c.as_slice.ensures, c.in_ok-ready.ensures.written) at c.in-Ok.ensures.keeps) c.release.new.dir c.release.new.self
    (rw (c.as_slice-in-Err-lend.ensures, c.in_ok-ready.ensures.written, c.in-Err-lend.ensures.err.1) at c.release.ensures.lets_go)) (same_no_new n))

pub returns-in-Err-lend-clause-fresh : goal.returns-in-Err-lend-clause-fresh
returns-in-Err-lend-clause-fresh g c = rw (← c.self.view_is)
    (let n = record c.self.inside.parts { dir = c.release.new.dir; files = c.release.new.self; states = c.lend.new.states } in
    refused_fills g.D.Dir.cells c.self.inside.parts n n (unheld_counts g.D.Dir.cells c.self.inside.parts c.self.invariant c.args.merged c.in_ok-ready.ensures.m c.in_ok-ready.ensures.found c.in_ok-ready.ensures.unmade c.in_ok-ready.ensures.of c.write_all.new.dir c.write_all.new.files (rw (c.as_slice.ensures, c.in_ok-ready.ensures.written) at c.in-Ok.ensures.counts) (rw (c.as_slice.ensures, c.in_ok-ready.ensures.written) at c.in-Ok.ensures.keeps) c.release.new.dir c.release.new.self
    (rw (c.as_slice-in-Err-lend.ensures, c.in_ok-ready.ensures.written, c.in-Err-lend.ensures.err.1) at c.release.ensures.lets_go)) (same_no_new n))

pub returns-in-Err-lend-clause-stays : goal.returns-in-Err-lend-clause-stays
returns-in-Err-lend-clause-stays g c = rw (← c.self.view_is)
    (unheld_stays g.D.Dir.cells c.self.inside.parts c.self.invariant c.args.merged c.in_ok-ready.ensures.m c.in_ok-ready.ensures.found c.in_ok-ready.ensures.unmade c.in_ok-ready.ensures.of c.write_all.new.dir c.write_all.new.files (rw (c.as_slice.ensures, c.in_ok-ready.ensures.written) at c.in-Ok.ensures.counts) (rw (c.as_slice.ensures, c.in_ok-ready.ensures.written) at c.in-Ok.ensures.keeps) c.release.new.dir c.release.new.self
    (rw (c.as_slice-in-Err-lend.ensures, c.in_ok-ready.ensures.written, c.in-Err-lend.ensures.err.1) at c.release.ensures.lets_go))

pub returns-in-Err-lend-clause-appears : goal.returns-in-Err-lend-clause-appears
returns-in-Err-lend-clause-appears g c = rw (← c.self.view_is)
    (let p = c.self.inside.parts in
    only_then_none (IsOwnFile p.infos (loose_of p)) (g.D.Dir.cells p.dir) (g.D.Dir.cells c.write_all.new.dir) (g.D.Dir.cells c.release.new.dir)
    (ready_appears g.D.Dir.cells c.self.inside.parts c.self.invariant c.args.merged c.in_ok-ready.ensures.m c.in_ok-ready.ensures.found c.in_ok-ready.ensures.unmade c.in_ok-ready.ensures.of c.write_all.new.dir c.write_all.new.files (rw (c.as_slice.ensures, c.in_ok-ready.ensures.written) at c.in-Ok.ensures.keeps))
    (keeps_none c.lend.new.files c.release.new.self (g.D.Dir.cells c.write_all.new.dir) (g.D.Dir.cells c.release.new.dir) c.release.ensures.lets_go.keeps))

-- the merge is ready
pub set_made-requires : goal.set_made-requires
set_made-requires g c = ap is_some c.in_ok-ready.ensures.found

pub invariant_of-self-in-Ok-lend : goal.invariant_of-self-in-Ok-lend
invariant_of-self-in-Ok-lend g c = rw (c.set_made.ensures, c.in_ok-ready.ensures.names) (primary_ready g.D.Dir.cells c.self.inside.parts c.self.invariant c.args.merged c.in_ok-ready.ensures.m c.in_ok-ready.ensures.found c.in_ok-ready.ensures.unmade c.in_ok-ready.ensures.of c.write_all.new.dir c.write_all.new.files (rw (c.as_slice.ensures, c.in_ok-ready.ensures.written) at c.in-Ok.ensures.counts) (rw (c.as_slice.ensures, c.in_ok-ready.ensures.written) at c.in-Ok.ensures.keeps)
    c.lend.new.files c.lend.new.states c.in-Ok-lend.ensures.moves (rw (c.as_slice-3.ensures, c.in_ok-ready.ensures.written) at c.in-Ok-lend.ensures.only) (rw c.as_slice-2.ensures at c.in-Ok.ensures.reads))

pub returns-in-Ok-lend-clause-whole : goal.returns-in-Ok-lend-clause-whole
returns-in-Ok-lend-clause-whole g c = rw (c.set_made.ensures, c.in_ok-ready.ensures.names) (primary_ready g.D.Dir.cells c.self.inside.parts c.self.invariant c.args.merged c.in_ok-ready.ensures.m c.in_ok-ready.ensures.found c.in_ok-ready.ensures.unmade c.in_ok-ready.ensures.of c.write_all.new.dir c.write_all.new.files (rw (c.as_slice.ensures, c.in_ok-ready.ensures.written) at c.in-Ok.ensures.counts) (rw (c.as_slice.ensures, c.in_ok-ready.ensures.written) at c.in-Ok.ensures.keeps)
    c.lend.new.files c.lend.new.states c.in-Ok-lend.ensures.moves (rw (c.as_slice-3.ensures, c.in_ok-ready.ensures.written) at c.in-Ok-lend.ensures.only) (rw c.as_slice-2.ensures at c.in-Ok.ensures.reads))

pub returns-in-Ok-lend-clause-drawn : goal.returns-in-Ok-lend-clause-drawn
returns-in-Ok-lend-clause-drawn g c = rw (← c.self.view_is)
    (rw (c.set_made.ensures, c.in_ok-ready.ensures.names) (ready_draws g.D.Dir.cells c.self.inside.parts c.self.invariant c.args.merged c.in_ok-ready.ensures.m c.in_ok-ready.ensures.found c.in_ok-ready.ensures.unmade c.in_ok-ready.ensures.of c.write_all.new.dir c.write_all.new.files (rw (c.as_slice.ensures, c.in_ok-ready.ensures.written) at c.in-Ok.ensures.counts) (rw (c.as_slice.ensures, c.in_ok-ready.ensures.written) at c.in-Ok.ensures.keeps)
    c.lend.new.files c.lend.new.states c.in-Ok-lend.ensures.moves (rw (c.as_slice-3.ensures, c.in_ok-ready.ensures.written) at c.in-Ok-lend.ensures.only) (rw c.as_slice-2.ensures at c.in-Ok.ensures.reads)))

pub returns-in-Ok-lend-clause-fresh : goal.returns-in-Ok-lend-clause-fresh
returns-in-Ok-lend-clause-fresh g c = rw (← c.self.view_is)
    (rw (c.set_made.ensures, c.in_ok-ready.ensures.names) (ready_fills g.D.Dir.cells c.self.inside.parts c.self.invariant c.args.merged c.in_ok-ready.ensures.m c.in_ok-ready.ensures.found c.in_ok-ready.ensures.unmade c.in_ok-ready.ensures.of c.write_all.new.dir c.write_all.new.files (rw (c.as_slice.ensures, c.in_ok-ready.ensures.written) at c.in-Ok.ensures.counts) (rw (c.as_slice.ensures, c.in_ok-ready.ensures.written) at c.in-Ok.ensures.keeps)
    c.lend.new.files c.lend.new.states c.in-Ok-lend.ensures.moves (rw (c.as_slice-3.ensures, c.in_ok-ready.ensures.written) at c.in-Ok-lend.ensures.only) (rw c.as_slice-2.ensures at c.in-Ok.ensures.reads)))

pub returns-in-Ok-lend-clause-stays : goal.returns-in-Ok-lend-clause-stays
returns-in-Ok-lend-clause-stays g c = rw (← c.self.view_is)
    (ready_stays g.D.Dir.cells c.self.inside.parts c.self.invariant c.args.merged c.in_ok-ready.ensures.m c.in_ok-ready.ensures.found c.in_ok-ready.ensures.unmade c.in_ok-ready.ensures.of c.write_all.new.dir c.write_all.new.files (rw (c.as_slice.ensures, c.in_ok-ready.ensures.written) at c.in-Ok.ensures.counts) (rw (c.as_slice.ensures, c.in_ok-ready.ensures.written) at c.in-Ok.ensures.keeps)
    c.lend.new.files c.lend.new.states c.in-Ok-lend.ensures.moves (rw (c.as_slice-3.ensures, c.in_ok-ready.ensures.written) at c.in-Ok-lend.ensures.only) (rw c.as_slice-2.ensures at c.in-Ok.ensures.reads))

pub returns-in-Ok-lend-clause-appears : goal.returns-in-Ok-lend-clause-appears
returns-in-Ok-lend-clause-appears g c = rw (← c.self.view_is)
    (ready_appears g.D.Dir.cells c.self.inside.parts c.self.invariant c.args.merged c.in_ok-ready.ensures.m c.in_ok-ready.ensures.found c.in_ok-ready.ensures.unmade c.in_ok-ready.ensures.of c.write_all.new.dir c.write_all.new.files (rw (c.as_slice.ensures, c.in_ok-ready.ensures.written) at c.in-Ok.ensures.keeps))

pub returns-in-Ok-lend-clause-state : goal.returns-in-Ok-lend-clause-state
returns-in-Ok-lend-clause-state g c = rw (← c.self.view_is)
    (c.in_ok-ready.ensures.state (reads_of (g.D.Dir.cells c.write_all.new.dir)) (rw c.as_slice-2.ensures at c.in-Ok.ensures.reads))

pub returns-in-Ok-lend-clause-merges : goal.returns-in-Ok-lend-clause-merges
returns-in-Ok-lend-clause-merges g c = rw (← c.self.view_is)
    (rw (c.set_made.ensures, c.in_ok-ready.ensures.names) (record { m = c.in_ok-ready.ensures.m; found = c.in_ok-ready.ensures.found; merges = refl }))

pub returns-in-Ok-lend-clause-written : goal.returns-in-Ok-lend-clause-written
returns-in-Ok-lend-clause-written g c = rw c.as_slice-2.ensures at c.in-Ok.ensures.reads
