use Rattle.std.proofs.Common.{ℕ, List, subst}
use Rattle.copy_state.specs.Meta.{IsMetaOf}
use Rattle.index_primary.proofs.Making.{told_names, told_metas}
use Rattle.index_primary.proofs.merge_files.metas_told.Goals as goal

pub loop-file-preserved : goal.loop-file-preserved
loop-file-preserved c = record {
  names = told_names c.args.files.now c.loop-file.file-index c.file-item.result c.loop-file.metas c.push.new.self c.in_ok-meta.meta c.loop-file-test.true c.file-item.is c.loop-file.invariant.names c.in_ok-push.ensures.ok;
  metas = told_metas c.args.files.now c.loop-file.file-index c.file-item.result c.loop-file.metas c.push.new.self c.in_ok-meta.meta c.loop-file-test.true c.file-item.is c.in_ok-push.ensures.ok
      (subst (λ (bytes : List ℕ). IsMetaOf bytes c.in_ok-meta.meta) c.deref.ensures c.in_ok-meta.ensures) c.loop-file.invariant.metas;
}
