use Rattle.std.proofs.Common.{sym, subst}
use Rattle.disk_model.specs.Disk.{reads_of}
use Rattle.body_forms.proofs.FileLaws.{err_of}
use Rattle.index_check.specs.Answers.{IsExact}
use Rattle.index_check.specs.Segments.{IsRightSegment, IsSegmentWrong}
use Rattle.index_check.proofs.OneSegment.{not_loaded, in_directory}
use Rattle.index_check.proofs.segment.read_segment.Goals as goal

pub returns-in_err-parts-clause-exact : goal.returns-in_err-parts-clause-exact
returns-in_err-parts-clause-exact g c =
    let reads = reads_of (g.D.Dir.cells c.args.dir.now) in
    let e = c.in_err-parts.field-0.0 in
    subst (IsExact (IsRightSegment reads c.args.record.now) (IsSegmentWrong reads c.args.record.now)) (sym (err_of c.from_residual.result e c.from_residual.ensures.1)) (not_loaded reads c.args.record.now e c.in_err-parts.ensures.fault)

pub returns-clause-exact : goal.returns-clause-exact
returns-clause-exact g c =
    in_directory (reads_of (g.D.Dir.cells c.args.dir.now)) c.args.record.now c.in_ok-parts.parts c.checked_segment.result c.requires c.in_ok-parts.ensures.parts c.checked_segment.ensures.exact
