use Rattle.segment_infos.proofs.WritingLaws.{HasRecords}
use Rattle.segment_infos.proofs.encoding.push_body.Given as goal

abbrev pub invariant-loop-segment : goal.invariant-loop-segment
invariant-loop-segment l = HasRecords l.initial.out.items l.segs l.segment-index l.out.items
