use Rattle.std.proofs.Common.{sym, ◌∙◌}
use Rattle.cluster_nodes.proofs.JobFiles.{meta_here, meta_past}
use Rattle.cluster_nodes.proofs.states.meta_of.Goals as goal

pub returns-then-eq : goal.returns-then-eq
returns-then-eq c = sym (meta_here c.args.files.now c.loop-file.file-index c.file-item.result c.args.name.now c.loop-file-test.true c.file-item.is (sym c.if-eq.ensures)) ∙ c.loop-file.invariant

pub loop-file-preserved : goal.loop-file-preserved
loop-file-preserved c = meta_past c.args.files.now c.loop-file.file-index c.file-item.result c.args.name.now c.loop-file-test.true c.file-item.is (sym c.if-eq.ensures) ∙ c.loop-file.invariant
