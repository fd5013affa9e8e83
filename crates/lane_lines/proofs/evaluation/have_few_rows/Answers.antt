use Rattle.std.proofs.Common.{◌<◌, ◌^◌, ℕ, List, subst, sym}
use Rattle.std.proofs.lemmas.List.{take_all}
use Rattle.seg_reader.specs.Shown.{Shown}
use Rattle.query_eval.specs.Matching.{rows_of}
use Rattle.lane_lines.proofs.evaluation.have_few_rows.Goals as goal

pub returns : goal.returns
returns c = λ few.
    subst (λ (segs : List Shown). rows_of segs < 2 ^ 32) (take_all c.loop-seg.seg-index c.args.segs.now c.loop-seg-test.false)
    (subst (λ (n : ℕ). n < 2 ^ 32) (sym c.loop-seg.invariant.0) c.loop-seg.invariant.1)
