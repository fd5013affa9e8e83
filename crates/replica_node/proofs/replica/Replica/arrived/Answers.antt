use Rattle.std.proofs.Common.{◌≡◌, ◌<◌, sym, subst, Option, Some}
use Rattle.std.specs.Prelude.{IfSome}
use Rattle.file_deleter.specs.Holdings.{times}
use Rattle.copy_state.specs.States.{meta_in}
use Rattle.replica_node.specs.declared.job.PointJob.{PointJob}
use Rattle.replica_node.specs.Merges.{copy_at}
use Rattle.replica_node.proofs.Appears.{part_appears}
use Rattle.replica_node.proofs.Arrivals.{free_j}
use Rattle.replica_node.proofs.Beside.{standing_jobs}
use Rattle.replica_node.proofs.Keeping.{core_of}
use Rattle.replica_node.proofs.Numbered.{point_number, point_all, copy_all, copy_some, copy_ok, copy_err}
use Rattle.replica_node.proofs.Taken.{few_job, foreign_job, part_core, part_whole, part_sourced, part_held}
use Rattle.replica_node.proofs.replica.Replica.arrived.Goals as goal

-- ---- a copy of a merged segment
pub arrived_copy-requires-clause-runs : goal.arrived_copy-requires-clause-runs
arrived_copy-requires-clause-runs g c = copy_some c.args.job c.self.inside.parts.job (copy_at c.args.job c.self.inside.parts.copies.running) (sym c.if-not-copies_point.ensures) (rw (← c.self.view_is) at c.requires.runs)

pub arrived_copy-requires-clause-missing : goal.arrived_copy-requires-clause-missing
arrived_copy-requires-clause-missing g c =
    copy_all (λ j. 0 < times j.missing c.args.part.name) c.args.job c.self.inside.parts.job (copy_at c.args.job c.self.inside.parts.copies.running) (sym c.if-not-copies_point.ensures) (rw (← c.self.view_is) at c.requires.missing)

pub arrived_copy-requires-clause-wanted : goal.arrived_copy-requires-clause-wanted
arrived_copy-requires-clause-wanted g c =
    copy_all (λ j. meta_in j.want.files c.args.part.name ≡ Some c.args.part.meta) c.args.job c.self.inside.parts.job (copy_at c.args.job c.self.inside.parts.copies.running) (sym c.if-not-copies_point.ensures) (rw (← c.self.view_is) at c.requires.wanted)

pub returns-then-not-copies_point-clause-ok : goal.returns-then-not-copies_point-clause-ok
returns-then-not-copies_point-clause-ok g c = rw (← c.self.view_is)
    (copy_ok c.args.job c.self.inside.parts c.arrived_copy.new.parts (sym c.if-not-copies_point.ensures) c.arrived_copy.ensures.others c.arrived_copy.result c.args.part.name c.arrived_copy.ensures.ok)

pub returns-then-not-copies_point-clause-err : goal.returns-then-not-copies_point-clause-err
returns-then-not-copies_point-clause-err g c = rw (← c.self.view_is)
    (copy_err c.args.job c.self.inside.parts c.arrived_copy.new.parts (sym c.if-not-copies_point.ensures) c.arrived_copy.ensures.others c.arrived_copy.result c.arrived_copy.ensures.err)

pub returns-then-not-copies_point-clause-sourced : goal.returns-then-not-copies_point-clause-sourced
returns-then-not-copies_point-clause-sourced g c = rw (← c.self.view_is) c.arrived_copy.ensures.sourced

pub returns-then-not-copies_point-clause-held : goal.returns-then-not-copies_point-clause-held
returns-then-not-copies_point-clause-held g c = rw (← c.self.view_is) c.arrived_copy.ensures.held

pub returns-then-not-copies_point-clause-appears : goal.returns-then-not-copies_point-clause-appears
returns-then-not-copies_point-clause-appears g c = rw (← c.self.view_is) c.arrived_copy.ensures.appears

-- ---- the job of a newer point
pub arrived-arrived-requires-clause-free : goal.arrived-arrived-requires-clause-free
arrived-arrived-requires-clause-free g c =
    let cells = g.D.Dir.cells in
    let p = c.self.inside.parts in
    let e = sym c.in-Some.ensures.value in
    let missing = point_all (λ j. 0 < times j.missing c.args.part.name) c.args.job p.job (copy_at c.args.job p.copies.running) (sym c.if-not-copies_point.ensures) (rw (← c.self.view_is) at c.requires.missing) in
    free_j cells p (core_of cells p c.self.invariant) c.in-Some.field-0 e (few_job cells p c.self.invariant c.in-Some.field-0 e) (foreign_job cells p c.self.invariant c.in-Some.field-0 e) c.args.part.name missing

pub invariant_of-self-2 : goal.invariant_of-self-2
invariant_of-self-2 g c =
    let p = c.self.inside.parts in
    let j = c.in-Some.field-0 in
    let e = sym c.in-Some.ensures.value in
    let missing = point_all (λ j. 0 < times j.missing c.args.part.name) c.args.job p.job (copy_at c.args.job p.copies.running) (sym c.if-not-copies_point.ensures) (rw (← c.self.view_is) at c.requires.missing) in
    let wanted = point_all (λ j. meta_in j.want.files c.args.part.name ≡ Some c.args.part.meta) c.args.job p.job (copy_at c.args.job p.copies.running) (sym c.if-not-copies_point.ensures) (rw (← c.self.view_is) at c.requires.wanted) in
    part_whole g.D.Dir.cells p c.self.invariant j e c.args.part.name missing c.arrived-arrived.new.dir c.arrived-arrived.new.files c.arrived-arrived.new.self c.arrived-arrived.ensures.moves c.told.ensures c.args.part.bytes
    c.arrived-arrived.result c.arrived-arrived.ensures.ok c.arrived-arrived.ensures.err c.arrived-arrived.ensures.reads c.args.part.meta c.requires.meta
    (subst (λ (o : Option PointJob). IfSome o (λ k. meta_in k.copy.want.files c.args.part.name ≡ Some c.args.part.meta)) e wanted)

pub returns-clause-whole : goal.returns-clause-whole
returns-clause-whole g c =
    let p = c.self.inside.parts in
    let j = c.in-Some.field-0 in
    let e = sym c.in-Some.ensures.value in
    let missing = point_all (λ j. 0 < times j.missing c.args.part.name) c.args.job p.job (copy_at c.args.job p.copies.running) (sym c.if-not-copies_point.ensures) (rw (← c.self.view_is) at c.requires.missing) in
    let wanted = point_all (λ j. meta_in j.want.files c.args.part.name ≡ Some c.args.part.meta) c.args.job p.job (copy_at c.args.job p.copies.running) (sym c.if-not-copies_point.ensures) (rw (← c.self.view_is) at c.requires.wanted) in
    part_whole g.D.Dir.cells p c.self.invariant j e c.args.part.name missing c.arrived-arrived.new.dir c.arrived-arrived.new.files c.arrived-arrived.new.self c.arrived-arrived.ensures.moves c.told.ensures c.args.part.bytes
    c.arrived-arrived.result c.arrived-arrived.ensures.ok c.arrived-arrived.ensures.err c.arrived-arrived.ensures.reads c.args.part.meta c.requires.meta
    (subst (λ (o : Option PointJob). IfSome o (λ k. meta_in k.copy.want.files c.args.part.name ≡ Some c.args.part.meta)) e wanted)

pub returns-clause-standing : goal.returns-clause-standing
returns-clause-standing g c = rw (← c.self.view_is) (
    let cells = g.D.Dir.cells in
    let p = c.self.inside.parts in
    let j = c.in-Some.field-0 in
    let e = sym c.in-Some.ensures.value in
    let missing = point_all (λ j. 0 < times j.missing c.args.part.name) c.args.job p.job (copy_at c.args.job p.copies.running) (sym c.if-not-copies_point.ensures) (rw (← c.self.view_is) at c.requires.missing) in
    standing_jobs cells p (core_of cells p c.self.invariant) c.arrived-arrived.new.dir c.arrived-arrived.new.files (Some (record { copy = c.arrived-arrived.new.self; infos = j.infos; stopped = j.stopped })) p.known
    (part_core cells p c.self.invariant j e c.args.part.name missing c.arrived-arrived.new.dir c.arrived-arrived.new.files c.arrived-arrived.new.self c.arrived-arrived.ensures.moves c.told.ensures
    c.arrived-arrived.result c.arrived-arrived.ensures.ok c.arrived-arrived.ensures.err) c.arrived-arrived.ensures.moves.keeps.reads)

pub returns-clause-sourced : goal.returns-clause-sourced
returns-clause-sourced g c = rw (← c.self.view_is) (
    let p = c.self.inside.parts in
    let e = sym c.in-Some.ensures.value in
    let missing = point_all (λ j. 0 < times j.missing c.args.part.name) c.args.job p.job (copy_at c.args.job p.copies.running) (sym c.if-not-copies_point.ensures) (rw (← c.self.view_is) at c.requires.missing) in
    part_sourced g.D.Dir.cells p c.self.invariant c.in-Some.field-0 e c.args.part.name missing c.arrived-arrived.new.dir c.arrived-arrived.new.files c.arrived-arrived.new.self c.arrived-arrived.ensures.moves c.told.ensures c.args.part.bytes
    c.arrived-arrived.result c.arrived-arrived.ensures.ok c.arrived-arrived.ensures.err c.arrived-arrived.ensures.reads)

pub returns-clause-held : goal.returns-clause-held
returns-clause-held g c = rw (← c.self.view_is) (
    let p = c.self.inside.parts in
    let e = sym c.in-Some.ensures.value in
    let missing = point_all (λ j. 0 < times j.missing c.args.part.name) c.args.job p.job (copy_at c.args.job p.copies.running) (sym c.if-not-copies_point.ensures) (rw (← c.self.view_is) at c.requires.missing) in
    part_held g.D.Dir.cells p c.self.invariant c.in-Some.field-0 e c.args.part.name missing c.arrived-arrived.new.dir c.arrived-arrived.new.files c.arrived-arrived.new.self c.arrived-arrived.ensures.moves c.told.ensures
    c.arrived-arrived.result c.arrived-arrived.ensures.ok c.arrived-arrived.ensures.err)

pub returns-clause-stays : goal.returns-clause-stays
returns-clause-stays g c = rw (← c.self.view_is) (record { held = c.arrived-arrived.ensures.moves.keeps.reads })

pub returns-clause-appears : goal.returns-clause-appears
returns-clause-appears g c = rw (← c.self.view_is) (
    let p = c.self.inside.parts in
    let e = sym c.in-Some.ensures.value in
    part_appears g.D.Dir.cells p c.in-Some.field-0 e c.arrived-arrived.new.dir c.arrived-arrived.new.files c.args.part.name c.args.job
    (point_number c.args.job p.job (sym c.if-not-copies_point.ensures)) c.arrived-arrived.ensures.moves.keeps)
