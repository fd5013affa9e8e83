use Rattle.std.proofs.Common.{◌≡◌, ◌∙◌, ap, sym, arith, length, drop, reverse, [], List}
use Rattle.documents.specs.declared.operation.Op.{Op}
use Rattle.seg_merge.specs.Given.{live_of}
use Rattle.segment_steps.specs.Cut.{removed_by, puts_live}
use Rattle.std.proofs.Math.Seq.{drop-length}
use Rattle.segment_steps.proofs.CutRows.{nothing_gone}
use Rattle.segment_steps.proofs.cut.marks_of.Goals as goal

pub loop-at-init : goal.loop-at-init
loop-at-init c =
    let ops = c.args.ops.now in
    let none : drop (length ops) ops ≡ [] = drop-length ops in
    record {
      within = omega arith;
      live = ap (λ xs. live_of (reverse xs)) c.new.ensures.items ∙ sym (ap puts_live none);
      gone = λ d. nothing_gone (record { keys = c.new-2.result; words = c.new-3.result }) c.new-2.ensures.len c.new-3.ensures.len d ∙ sym (ap (λ (os : List Op). removed_by os d) none);
    }
