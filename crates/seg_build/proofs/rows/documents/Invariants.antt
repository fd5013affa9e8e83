use Rattle.std.proofs.Common.{◌≡◌, take}
use Rattle.seg_build.specs.Rows.{docs_of}
use Rattle.seg_build.proofs.rows.documents.Given as goal

abbrev pub invariant-loop-row : goal.invariant-loop-row
invariant-loop-row l = l.docs.items ≡ docs_of (take l.row-index l.rows)
