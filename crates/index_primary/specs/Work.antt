-- The work of the publish that is in flight.
use Rattle.std.specs.Prelude.{◌≡◌, List, Some, take}
use Rattle.nrt_base.specs.declared.doc.Doc.{Doc}
use Rattle.documents.specs.Documents.{after_ops}
use Rattle.segment_steps.specs.Given.{AreSegmentsOf}
use Rattle.segment_steps.specs.declared.flushing.FlushTask.{FlushTask}
use Rattle.segment_steps.specs.declared.flushing.FlushWork.{FlushWork}
use Rattle.segment_steps.specs.Next.{IsFlushOf}
use Rattle.index_primary.specs.declared.parts.PrimaryParts.{PrimaryParts}
use Rattle.index_primary.specs.declared.parts.Publish.{Publish}
use Rattle.index_primary.specs.Cut.{cut_by}

-- the work was made for the cut and the segments of the publish in flight
pub record IsWorkOf {D : Type 0} (p : PrimaryParts D) (work : FlushWork) : Type 0 where
  pub publish : Publish
  pub in_flight : p.publish ≡ Some publish
  pub task : FlushTask
  pub ops : task.ops ≡ take publish.count p.waiting
  pub segs : task.segs ≡ p.segs
  pub seg : task.seg ≡ publish.seg
  pub flushed : IsFlushOf task work

-- the searchers and the writer have segments of the documents after the cut
abbrev pub AreOfCut : {D : Type 0} → PrimaryParts D → PrimaryParts D → Type 0
AreOfCut old new = (docs : List Doc) → AreSegmentsOf docs old.segs
    → AreSegmentsOf (after_ops docs (cut_by old.publish old.waiting)) new.segs × AreSegmentsOf (after_ops docs (cut_by old.publish old.waiting)) new.searchers.point.readers
