use Rattle.std.proofs.Common.{length}
use Rattle.postings_plain.specs.Rows.{from_row}
use Rattle.postings_plain.proofs.KeptHits.{IsKeeping}
use Rattle.postings_plain.proofs.joining.kept.Given as goal

abbrev pub invariant-loop-row : goal.invariant-loop-row
invariant-loop-row l = IsKeeping l.numbers l.fn.hits (from_row l.least l.hits) l.kept

abbrev pub decreases-loop-row : goal.decreases-loop-row
decreases-loop-row l = length (from_row l.least l.hits)
