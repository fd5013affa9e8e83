use Rattle.std.proofs.Common.{ap, subst, ◌∙◌, map, List}
use Rattle.documents.specs.declared.operation.Op.{Op}
use Rattle.segment_steps.specs.Cut.{removed_by}
use Rattle.segment_steps.specs.Segments.{live_change}
use Rattle.segment_steps.specs.Next.{IsNewOf}
use Rattle.segment_steps.specs.Marks.{is_gone, AreMarksOf}
use Rattle.segment_steps.proofs.FlushLemmas.{changes_agree}
use Rattle.segment_steps.proofs.flushing.flush.Goals as goal

pub returns : goal.returns
returns c =
    let task = c.args.task.now in
    let marks = c.in_ok-marks.marks in
    let are : AreMarksOf task.ops marks = subst (λ (ops : List Op). AreMarksOf ops marks) c.as_slice.ensures c.in_ok-marks.ensures in
    record {
      live =
          c.from_vec.ensures ∙ c.in_ok-live.ensures ∙ ap (map (live_change (is_gone marks.gone))) c.as_slice-4.ensures
          ∙ changes_agree (is_gone marks.gone) (removed_by task.ops) (are.gone) task.segs;
      files = subst (λ (ops : List Op). IsNewOf task.seg ops c.in_ok-files.files) c.as_slice-2.ensures c.in_ok-files.ensures;
    }
