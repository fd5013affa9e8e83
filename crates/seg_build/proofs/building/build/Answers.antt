use Rattle.std.proofs.Common.{◌∙◌, sym, ap, subst, map}
use Rattle.std.specs.Ordering.{nat_cmp}
use Rattle.std.specs.Cmp.Lexicographic.{slice_cmp}
use Rattle.std.specs.List.Sorted.{IsStrictlySortedBy}
use Rattle.segment_infos.specs.declared.infos.SegRecord.{SegRecord}
use Rattle.seg_build.specs.Built.{File, IsRecordOf}
use Rattle.seg_build.proofs.NameOrder.{names_ascend, names_are}
use Rattle.seg_build.proofs.Records.{is_record_of}
use Rattle.seg_build.proofs.building.build.Goals as goal

pub parts_of-requires-clause-live : goal.parts_of-requires-clause-live
parts_of-requires-clause-live c =
    subst (λ (r : SegRecord). IsRecordOf c.in_ok-live.live r) (sym c.first_record-segment.ensures) (is_record_of c.args.seg c.in_ok-live.live)

pub returns-clause-ascending : goal.returns-clause-ascending
returns-clause-ascending c =
    let r = c.first_record-segment.result in
    let names = ap (map (λ (f : File). f.0)) (c.from_vec.ensures ∙ c.in_ok-files.ensures) ∙ names_are r c.in_ok-parts.parts c.in_ok-parts.ensures.read.live_file in
    subst (IsStrictlySortedBy (slice_cmp nat_cmp)) (sym names) (names_ascend r)
