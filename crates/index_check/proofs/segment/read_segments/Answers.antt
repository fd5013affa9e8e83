use Rattle.std.proofs.Common.{get_or, refl, sym, subst, ◌∙◌, arith}
use Rattle.std.specs.List.{AllZip}
use Rattle.std.proofs.lemmas.List.{get_or_default}
use Rattle.disk_model.specs.Disk.{reads_of}
use Rattle.body_forms.proofs.FileLaws.{err_of}
use Rattle.index_check.specs.Answers.{IsExact}
use Rattle.index_check.specs.Segments.{IsRightSegment, IsFirstWrong}
use Rattle.index_check.proofs.Walk.{no_record, read_none, read_next, read_wrong, read_all, exact_at}
use Rattle.index_check.proofs.segment.read_segments.Goals as goal

pub loop-each-init : goal.loop-each-init
loop-each-init g c = record { read = read_none (reads_of (g.D.Dir.cells c.args.dir.now)) c.args.records.now c.new-segments.result c.new-segments.ensures; cells = refl; later = omega arith }

pub loop-each-preserved : goal.loop-each-preserved
loop-each-preserved g c =
    let first = g.D.Dir.cells c.args.dir.now in
    let here = get_or c.args.records.now c.loop-each.each-index no_record in
    let own_item = get_or_default c.args.records.now c.loop-each.each-index no_record here c.loop-each-test.true in
    let h = c.loop-each.invariant in
    let own = c.in_ok-read_segment.ensures in
    let segment = c.in_ok-read_segment.field-0 in
    record {
      read = read_next (reads_of first) c.args.records.now c.loop-each.each-index here c.loop-each-test.true own_item c.loop-each.segments c.push.new.self segment
          (exact_at first (g.D.Dir.cells c.loop-each.dir) here _ h.cells own.exact) c.in_ok-push.ensures.ok h.read;
      cells = own.cells ∙ h.cells;
      later = omega (arith, h.later, own.later);
    }

pub returns-in_err-read_segment-clause-exact : goal.returns-in_err-read_segment-clause-exact
returns-in_err-read_segment-clause-exact g c =
    let first = g.D.Dir.cells c.args.dir.now in
    let here = get_or c.args.records.now c.loop-each.each-index no_record in
    let own_item = get_or_default c.args.records.now c.loop-each.each-index no_record here c.loop-each-test.true in
    let reads = reads_of first in
    let h = c.loop-each.invariant in
    let e = c.in_err-read_segment.field-0.0 in
    subst (IsExact (AllZip (IsRightSegment reads) c.args.records.now) (IsFirstWrong reads c.args.records.now)) (sym (err_of c.from_residual.result e c.from_residual.ensures.1))
    (read_wrong reads c.args.records.now c.loop-each.each-index here c.loop-each-test.true own_item c.loop-each.segments e
    (exact_at first (g.D.Dir.cells c.loop-each.dir) here _ h.cells c.in_err-read_segment.ensures.exact) h.read)

pub returns-clause-exact : goal.returns-clause-exact
returns-clause-exact g c = read_all (reads_of (g.D.Dir.cells c.args.dir.now)) c.args.records.now c.loop-each.each-index c.loop-each.segments c.loop-each-test.false c.loop-each.invariant.read
