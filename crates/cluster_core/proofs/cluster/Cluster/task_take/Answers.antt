use Rattle.std.proofs.lemmas.Result.{IfOk-weaker}
use Rattle.cluster_core.proofs.MergeDoes.{taken_does, task_was}
use Rattle.cluster_core.proofs.cluster.Cluster.task_take.Goals as goal

pub returns-clause-does : goal.returns-clause-does
returns-clause-does g c = IfOk-weaker c.task_take.result _ _ (λ x is. task_was c.args.by _ _ _ c.self.view_is (taken_does c.args.by _ _ x is)) c.task_take.ensures.ok
