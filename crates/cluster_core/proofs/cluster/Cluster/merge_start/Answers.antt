use Rattle.std.proofs.lemmas.Result.{on_ok_weaker}
use Rattle.cluster_state.proofs.Rows.{fresh_in}
use Rattle.cluster_core.proofs.Does.{does_was}
use Rattle.cluster_core.proofs.MergeDoes.{merge_does, on_merges, merge_replied}
use Rattle.cluster_core.proofs.cluster.Cluster.merge_start.Goals as goal

pub returns-clause-does : goal.returns-clause-does
returns-clause-does g c = on_ok_weaker c.merge_start.result
    (λ line. does_was _ c.args.at _ _ _ c.self.view_is (merge_does c.args.at c.args.factor _ _ (fresh_in c.args.at _ _ c.self.view_is c.requires.fresh) line)) c.merge_start.ensures.ok

pub returns-clause-first : goal.returns-clause-first
returns-clause-first g c = on_merges c.args.at c.args.factor c.self.inside.state c.args.self.now c.merge_start.new.state c.merge_start.result c.self.view_is c.merge_start.ensures.ok

pub returns-clause-replied : goal.returns-clause-replied
returns-clause-replied g c = on_ok_weaker c.merge_start.result (merge_replied c.args.at c.args.factor _ _) c.merge_start.ensures.ok
