use Rattle.std.proofs.Common.{◌∙◌, ap, sym, subst, append-nil, arith, length, List, ◌++◌}
use Rattle.disk_model.specs.Disk.{Name}
use Rattle.copy_state.specs.declared.meta.FileMetaData.{FileMetaData}
use Rattle.copy_state.specs.States.{meta_names}
use Rattle.copy_job.specs.declared.part.JobPart.{JobPart}
use Rattle.copy_job.specs.Parts.{present_names}
use Rattle.copy_job.specs.Jobs.{AreSortedOut}
use Rattle.copy_job.proofs.Kept.{begun_lacking, begun_ascending, begun_each}
use Rattle.copy_job.proofs.job.CopyJob.begin.Goals as goal

pub invariant_of-result : goal.invariant_of-result
invariant_of-result c =
    let sorted : AreSortedOut c.args.held.now c.args.want.files c.in_ok-missing.field-0.missing c.in_ok-missing.field-0.reused =
    subst (λ (fs : List (Name × FileMetaData)). AreSortedOut c.args.held.now fs c.in_ok-missing.field-0.missing c.in_ok-missing.field-0.reused) c.as_slice.ensures c.in_ok-missing.ensures.ok in (
      c.in_ok-names.ensures.items ∙ c.as_slice-3.ensures ∙ sym (append-nil c.in_ok-missing.field-0.reused) ∙ ap (λ (ps : List JobPart). c.in_ok-missing.field-0.reused ++ present_names ps) (sym c.in_ok-parts.ensures.items),
      record {
        state = c.requires.state;
        each = begun_each c.args.held.now (meta_names c.args.want.files) c.into_vec-missing.result.items c.in_ok-missing.field-0.reused c.in_ok-parts.parts.items c.in_ok-parts.ensures.items (c.into_vec-missing.ensures ∙ sorted.missing_are) sorted.reused_are;
        lacking = begun_lacking c.args.held.now (meta_names c.args.want.files) c.into_vec-missing.result.items (c.into_vec-missing.ensures ∙ sorted.missing_are) c.requires.state.files.ascending;
        ascending = begun_ascending c.in_ok-parts.parts.items c.in_ok-parts.ensures.items;
      },
      omega (arith, c.in_ok-parts.ensures.exact, ap length c.as_slice-2.ensures.value, ap length c.in_ok-parts.ensures.items),
      omega (arith, c.in_ok-names.ensures.room, ap length c.as_slice-4.ensures.value),
    )
