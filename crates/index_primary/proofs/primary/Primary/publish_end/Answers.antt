use Rattle.std.proofs.Common.{sym, subst}
use Rattle.documents.specs.Documents.{after_ops}
use Rattle.seg_reader.specs.Stands.{AreSegmentsOf}
use Rattle.index_primary.specs.Cut.{cut_by}
use Rattle.index_primary.proofs.Working.{many_for, work_fits, bounded_for, primary_step, primary_documents}
use Rattle.index_primary.proofs.NewFiles.{where_ok, kept_draws}
use Rattle.index_primary.proofs.StepFiles.{step_fills, step_draws}
use Rattle.index_primary.proofs.primary.Primary.publish_end.Goals as goal

pub next_segments-requires-clause-bounded : goal.next_segments-requires-clause-bounded
next_segments-requires-clause-bounded g c = rw c.as_slice-2.ensures (bounded_for g.D.Dir.cells c.self.inside.parts c.args.work c.self.invariant (rw (← c.self.view_is) at c.requires.work))

pub next_segments-requires-clause-many : goal.next_segments-requires-clause-many
next_segments-requires-clause-many g c = rw (c.as_slice-2.ensures, c.as_slice-3.ensures) (many_for g.D.Dir.cells c.self.inside.parts c.args.work c.self.invariant (rw (← c.self.view_is) at c.requires.work))

pub next_segments-requires-clause-new : goal.next_segments-requires-clause-new
next_segments-requires-clause-new g c = (work_fits g.D.Dir.cells c.self.inside.parts c.args.work c.self.invariant (rw (← c.self.view_is) at c.requires.work)).0

pub next_segments-requires-clause-rows : goal.next_segments-requires-clause-rows
next_segments-requires-clause-rows g c = rw c.as_slice-3.ensures (work_fits g.D.Dir.cells c.self.inside.parts c.args.work c.self.invariant (rw (← c.self.view_is) at c.requires.work)).1

pub make_point-requires-clause-step : goal.make_point-requires-clause-step
make_point-requires-clause-step g c = primary_step g.D.Dir.cells c.self.inside.parts c.args.work c.self.invariant (rw (← c.self.view_is) at c.requires.work) _ c.in-Ok-next_segments.made (rw (c.as_slice-2.ensures, c.as_slice-3.ensures, c.deref.ensures.value, c.in-Ok.ensures, c.as_slice.ensures) at c.in-Ok-next_segments.ensures)

pub returns-clause-documents : goal.returns-clause-documents
returns-clause-documents g c = rw (← c.self.view_is)
    (λ docs stand.
    let after = primary_documents g.D.Dir.cells c.self.inside.parts c.args.work c.self.invariant (rw (← c.self.view_is) at c.requires.work) _ c.in-Ok-next_segments.made (rw (c.as_slice-2.ensures, c.as_slice-3.ensures) at c.in-Ok-next_segments.ensures) docs stand in
    let ops = cut_by c.self.inside.parts.publish c.self.inside.parts.waiting in
    (subst (AreSegmentsOf (after_ops docs ops)) (sym c.in-Ok-make_point.ensures.point.2) after, subst (AreSegmentsOf (after_ops docs ops)) (sym c.in-Ok-make_point.ensures.point.1) after))

pub returns-clause-fresh : goal.returns-clause-fresh
returns-clause-fresh g c = rw (← c.self.view_is)
    (let p = c.self.inside.parts in
    let made = c.in-Ok-next_segments.made in
    let step = primary_step g.D.Dir.cells p c.args.work c.self.invariant (rw (← c.self.view_is) at c.requires.work) _ made (rw (c.as_slice-2.ensures, c.as_slice-3.ensures, c.deref.ensures.value, c.in-Ok.ensures, c.as_slice.ensures) at c.in-Ok-next_segments.ensures) in
    step_fills g.D.Dir.cells p c.make_point.new.parts made.records made.segs made.files c.self.invariant c.in-Ok-make_point.ensures.whole step c.in-Ok-make_point.ensures.infos.0 c.in-Ok-make_point.ensures.infos.1
    c.in-Ok-make_point.ensures.tickets c.in-Ok-make_point.ensures.others)

pub returns-clause-drawn : goal.returns-clause-drawn
returns-clause-drawn g c = rw (← c.self.view_is)
    (let p = c.self.inside.parts in
    let made = c.in-Ok-next_segments.made in
    let step = primary_step g.D.Dir.cells p c.args.work c.self.invariant (rw (← c.self.view_is) at c.requires.work) _ made (rw (c.as_slice-2.ensures, c.as_slice-3.ensures, c.deref.ensures.value, c.in-Ok.ensures, c.as_slice.ensures) at c.in-Ok-next_segments.ensures) in
    step_draws g.D.Dir.cells p c.make_point.new.parts made.records made.segs made.files step c.in-Ok-make_point.ensures.infos.0 (where_ok c.make_point.result c.in-Ok-make_point.version _ _ c.in-Ok-make_point.is c.make_point.ensures.none)
    c.in-Ok-make_point.ensures.others)

pub returns-in-Err-make_point-clause-drawn : goal.returns-in-Err-make_point-clause-drawn
returns-in-Err-make_point-clause-drawn g c = rw (← c.self.view_is)
    (kept_draws g.D.Dir.cells c.self.inside.parts c.make_point.new.parts c.in-Err-make_point.ensures.err c.in-Err-make_point.ensures.ended)
