use Rattle.std.proofs.Common.{subst, sym}
use Rattle.segment_infos.specs.declared.infos.SegRecord.{SegRecord}
use Rattle.seg_build.specs.Built.{IsRecordOf}
use Rattle.seg_build.proofs.Records.{is_record_of}
use Rattle.seg_build.proofs.joining.build_joined.Goals as goal

pub joined_parts-requires-clause-live : goal.joined_parts-requires-clause-live
joined_parts-requires-clause-live c =
    subst (λ (r : SegRecord). IsRecordOf c.in_ok-live.live r) (sym c.first_record-segment.ensures) (is_record_of c.args.seg c.in_ok-live.live)
