use Rattle.std.proofs.Common.{subst}
use Rattle.std.proofs.lemmas.Result.{on_ok_weaker}
use Rattle.history_book.specs.Log.{FaultsFollow}
use Rattle.cluster_core.proofs.MergeDoes.{built_does, task_was}
use Rattle.cluster_core.proofs.cluster.Cluster.merge_ready.Goals as goal

pub returns-clause-does : goal.returns-clause-does
returns-clause-does g c = on_ok_weaker c.merge_ready-ended.result
    (λ is. task_was c.args.task.now.by _ _ _ c.self.view_is (built_does c.args.task.now.by _ _ c.args.task.now.line c.args.task.now.seg _ (subst FaultsFollow c.book.ensures.log c.is_legal.ensures.faults) is)) c.merge_ready-ended.ensures.ok
