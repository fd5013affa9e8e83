use Rattle.std.proofs.Common.{subst}
use Rattle.std.proofs.lemmas.Result.{IfOk-weaker}
use Rattle.history_book.specs.Log.{FaultsFollow}
use Rattle.cluster_core.proofs.MergeDoes.{part_does, task_was}
use Rattle.cluster_core.proofs.cluster.Cluster.precopy_arrived.Goals as goal

pub returns-clause-does : goal.returns-clause-does
returns-clause-does g c = IfOk-weaker c.precopy_arrived-ended.result _ _
    (λ x is. task_was c.args.task.now.by _ _ _ c.self.view_is (part_does c.args.task.now.by _ _ c.args.task.now.line c.args.task.now.seg c.args.copy.node c.args.copy.job c.args.file.now.fate x (subst FaultsFollow c.book.ensures.log c.is_legal.ensures.faults) is)) c.precopy_arrived-ended.ensures.ok
