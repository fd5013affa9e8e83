use Rattle.std.proofs.Common.{◌≡◌, ◌≤◌, length, drop, reverse}
use Rattle.nrt_base.specs.declared.doc.Doc.{Doc}
use Rattle.seg_merge.specs.Given.{live_of}
use Rattle.segment_steps.specs.Cut.{removed_by, puts_live}
use Rattle.segment_steps.specs.Marks.{is_gone}
use Rattle.segment_steps.proofs.cut.marks_of.Given as goal

abbrev pub invariant-loop-at : goal.invariant-loop-at
invariant-loop-at l = record {
  within : l.at ≤ length l.ops;
  live : live_of (reverse l.marks.dead.items) ≡ puts_live (drop l.at l.ops);
  gone : (d : Doc) → is_gone l.marks.gone d ≡ removed_by (drop l.at l.ops) d;
}

abbrev pub decreases-loop-at : goal.decreases-loop-at
decreases-loop-at l = l.at
