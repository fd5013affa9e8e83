use Rattle.std.proofs.Common.{sym, subst}
use Rattle.disk_model.specs.Disk.{reads_of}
use Rattle.seg_reader.specs.declared.parts.SegParts.{SegParts}
use Rattle.seg_reader.specs.Files.{IsSegmentOf}
use Rattle.seg_reader.specs.Stands.{ArePartsIn}
use Rattle.replica_opening.proofs.Segments.{segment_is, refused_is, cut_off, refused_so, not_read}
use Rattle.replica_opening.proofs.reading.read_segment.Goals as goal

pub returns-in-Ok-from_parts-clause-read : goal.returns-in-Ok-from_parts-clause-read
returns-in-Ok-from_parts-clause-read g c =
    let files : IsSegmentOf c.in-Ok.parts c.args.record.now c.in-Ok-from_parts.segment = subst (λ (p : SegParts). IsSegmentOf p c.args.record.now c.in-Ok-from_parts.segment) c.in-Ok-share_parts.ensures c.in-Ok-from_parts.ensures.segment in
    record { parts = c.in-Ok.ensures.parts; files = files; segment = segment_is _ c.args.record.now c.in-Ok.parts c.in-Ok-from_parts.segment c.requires.record c.in-Ok.ensures.parts files }

pub returns-in-Ok-from_parts-clause-refused : goal.returns-in-Ok-from_parts-clause-refused
returns-in-Ok-from_parts-clause-refused g c fault is =
    not_read _ c.args.record.now c.in-Ok-share_parts.copy fault c.in-Ok-from_parts.segment (subst (ArePartsIn (reads_of (g.D.Dir.cells c.args.dir.now)) c.args.record.now) (sym c.in-Ok-share_parts.ensures) c.in-Ok.ensures.parts) is (c.in-Ok-from_parts.ensures.each_fault fault)

pub returns-in-Err-from_parts-clause-err : goal.returns-in-Err-from_parts-clause-err
returns-in-Err-from_parts-clause-err g c =
    refused_is _ c.args.record.now c.in-Ok-share_parts.copy c.in-Err-from_parts.fault c.refusal.result (subst (ArePartsIn (reads_of (g.D.Dir.cells c.args.dir.now)) c.args.record.now) (sym c.in-Ok-share_parts.ensures) c.in-Ok.ensures.parts) c.in-Err-from_parts.ensures.fault c.refusal.ensures

pub returns-in-Err-from_parts-clause-shown : goal.returns-in-Err-from_parts-clause-shown
returns-in-Err-from_parts-clause-shown g c shown is =
    cut_off _ c.args.record.now c.in-Ok-share_parts.copy shown c.in-Err-from_parts.fault c.refusal.result (subst (ArePartsIn (reads_of (g.D.Dir.cells c.args.dir.now)) c.args.record.now) (sym c.in-Ok-share_parts.ensures) c.in-Ok.ensures.parts) is (c.in-Err-from_parts.ensures.each_segment shown) c.refusal.ensures

pub returns-in-Err-from_parts-clause-refused : goal.returns-in-Err-from_parts-clause-refused
returns-in-Err-from_parts-clause-refused g c fault is =
    refused_so _ c.args.record.now c.in-Ok-share_parts.copy fault c.in-Err-from_parts.fault c.refusal.result (subst (ArePartsIn (reads_of (g.D.Dir.cells c.args.dir.now)) c.args.record.now) (sym c.in-Ok-share_parts.ensures) c.in-Ok.ensures.parts) is (c.in-Err-from_parts.ensures.each_fault fault) c.refusal.ensures
