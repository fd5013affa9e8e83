use Rattle.std.proofs.Common.{◌∙◌, List, ℕ, Some, ap, refl, slice_get, subst, sym}
use Rattle.disk_model.specs.Disk.{Name}
use Rattle.copy_state.specs.declared.meta.FileMetaData.{FileMetaData}
use Rattle.copy_state.specs.Meta.{IsMetaOf}
use Rattle.copy_state.specs.States.{meta_in}
use Rattle.copy_job.proofs.Kept.{short_missing}
use Rattle.node_tests.proofs.Due.{first_counted}
use Rattle.node_tests.proofs.jobs.due_part.Goals as goal

pub returns-clause-due : goal.returns-clause-due
returns-clause-due c = record {
  missing = first_counted c.args.job.now.missing c.in-Some.name.now (sym (c.in-Some.ensures.value ∙ ap (λ (ns : List Name). slice_get ns 0) c.missing.ensures.names));
  wanted = sym (ap (λ (fs : List (Name × FileMetaData)). meta_in fs c.in-Some.name.now) (c.as_slice-2.ensures ∙ ap (λ w. w.files) c.want.ensures)) ∙ sym c.in-Some-wanted.ensures ∙ ap Some (c.if-not-same.ensures.0 refl);
  meta_is = subst (λ (b : List ℕ). IsMetaOf b c.in-Ok.meta) c.as_slice.ensures c.in-Ok.ensures.meta;
  short = short_missing c.args.job.now c.in-Some.name.now c.missing.ensures.job (first_counted c.args.job.now.missing c.in-Some.name.now (sym (c.in-Some.ensures.value ∙ ap (λ (ns : List Name). slice_get ns 0) c.missing.ensures.names)));
}

pub returns-clause-name : goal.returns-clause-name
returns-clause-name c = sym (c.in-Some.ensures.value ∙ ap (λ (ns : List Name). slice_get ns 0) c.missing.ensures.names)
