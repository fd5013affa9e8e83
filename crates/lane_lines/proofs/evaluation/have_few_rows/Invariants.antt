use Rattle.std.proofs.Common.{◌≡◌, ◌<◌, ◌^◌, take}
use Rattle.query_eval.specs.Matching.{rows_of}
use Rattle.lane_lines.proofs.evaluation.have_few_rows.Given as goal

abbrev pub invariant-loop-seg : goal.invariant-loop-seg
invariant-loop-seg l = (rows_of (take l.seg-index l.segs) ≡ l.rows) × (l.rows < 2 ^ 32)
