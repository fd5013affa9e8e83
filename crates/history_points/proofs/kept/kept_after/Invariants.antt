use Rattle.std.proofs.Common.{List, length}
use Rattle.nrt_base.specs.declared.doc.Doc.{Doc}
use Rattle.documents.specs.Documents.{after_op}
use Rattle.history_points.specs.Kept.{KeepAllHits}
use Rattle.history_points.proofs.kept.kept_after.Given as goal

abbrev pub invariant-loop-one : goal.invariant-loop-one
invariant-loop-one l =
    (docs : List Doc) → KeepAllHits docs l.fn.kept.items → KeepAllHits docs l.kept.items × KeepAllHits (after_op docs l.op) l.new.items

abbrev pub decreases-loop-one : goal.decreases-loop-one
decreases-loop-one l = length l.kept.items
