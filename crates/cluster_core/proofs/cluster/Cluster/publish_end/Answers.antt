use Rattle.std.proofs.Common.{◌≡◌, Some}
use Rattle.std.proofs.lemmas.Result.{on_ok_weaker}
use Rattle.history_rules.specs.Nodes.{Past}
use Rattle.history_rules.specs.Lines.{last_of_line}
use Rattle.history_rules.specs.declared.entry.Event.TheVariants.{Publishing}
use Rattle.cluster_state.proofs.Rows.{turns_at}
use Rattle.cluster_core.proofs.Does.{published_does, published_replied, does_was, past_in}
use Rattle.cluster_core.proofs.NoneTold.{on_ends}
use Rattle.cluster_core.proofs.cluster.Cluster.publish_end.Goals as goal

pub returns-clause-does : goal.returns-clause-does
returns-clause-does g c = on_ok_weaker c.publish_end.result
    (λ now. does_was _ c.args.at _ _ _ c.self.view_is
    (published_does c.args.at _ _ (past_in (λ (past : Past). last_of_line c.args.at past ≡ Some Publishing) _ _ c.self.view_is c.requires.started)
    (turns_at _ _ c.book.ensures.log c.is_legal.ensures.turns) now)) c.publish_end.ensures.ok

pub returns-clause-none : goal.returns-clause-none
returns-clause-none g c = on_ends c.args.at c.self.inside.state c.args.self.now c.publish_end.new.state c.publish_end.result c.self.view_is c.publish_end.ensures.ok

pub returns-clause-replied : goal.returns-clause-replied
returns-clause-replied g c = on_ok_weaker c.publish_end.result (λ ends. published_replied c.args.at c.self.inside.state c.publish_end.new.state ends) c.publish_end.ensures.ok
