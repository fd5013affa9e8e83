use Rattle.std.proofs.lemmas.Result.{on_ok_weaker}
use Rattle.cluster_state.proofs.Rows.{fresh_in}
use Rattle.cluster_core.proofs.Does.{does_was}
use Rattle.cluster_core.proofs.LifeDoes.{fault_does, fault_replied}
use Rattle.cluster_core.proofs.cluster.Cluster.fault.Goals as goal

pub returns-clause-does : goal.returns-clause-does
returns-clause-does g c = on_ok_weaker c.plan_fault.result
    (λ plans. does_was _ c.args.at _ _ _ c.self.view_is (fault_does c.args.at c.args.n c.args.plan _ _ (fresh_in c.args.at _ _ c.self.view_is c.requires.fresh) plans)) c.plan_fault.ensures.ok

pub returns-clause-replied : goal.returns-clause-replied
returns-clause-replied g c = on_ok_weaker c.plan_fault.result (λ plans. fault_replied c.args.at c.args.n c.args.plan c.self.inside.state c.plan_fault.new.cluster plans) c.plan_fault.ensures.ok
