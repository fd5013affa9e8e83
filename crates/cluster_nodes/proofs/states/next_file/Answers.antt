use Rattle.std.proofs.Common.{◌∙◌, ap}
use Rattle.copy_state.specs.declared.state.CopyState.{CopyState}
use Rattle.cluster_nodes.proofs.JobFiles.{first_meta, first_next}
use Rattle.cluster_nodes.proofs.states.next_file.Goals as goal

pub unreachable-requires : goal.unreachable-requires
unreachable-requires c = first_meta c.args.job.now c.missing.result.now c.as_slice.result.now c.in-Some.name.now c.missing.ensures.job c.missing.ensures.names c.in-Some.ensures.value (c.as_slice.ensures ∙ ap (λ (s : CopyState). s.files) c.want.ensures) c.in-None.ensures

pub returns : goal.returns
returns c = first_next c.args.job.now c.missing.result.now c.as_slice.result.now c.in-Some.name.now c.in-Some-meta_of.meta.now c.in_ok-meta-in-Some-meta_of.meta c.missing.ensures.names c.in-Some.ensures.value (c.as_slice.ensures ∙ ap (λ (s : CopyState). s.files) c.want.ensures) c.in-Some-meta_of.ensures c.in_ok-meta-in-Some-meta_of.ensures
