use Rattle.std.proofs.Common.{◌≡◌, Some}
use Rattle.std.proofs.lemmas.Result.{IfOk-weaker}
use Rattle.history_rules.specs.declared.entry.Event.TheVariants.{Committing}
use Rattle.history_rules.specs.Nodes.{Past}
use Rattle.history_rules.specs.Lines.{last_of_line}
use Rattle.cluster_state.proofs.Rows.{turns_at}
use Rattle.cluster_core.proofs.Does.{does_was, past_in}
use Rattle.cluster_core.proofs.LifeDoes.{step_does}
use Rattle.cluster_core.proofs.cluster.Cluster.commit_step.Goals as goal

pub returns-clause-does : goal.returns-clause-does
returns-clause-does g c = IfOk-weaker c.commit_step.result _ _
    (λ turn steps. does_was _ c.args.at _ _ _ c.self.view_is
    (step_does c.args.at c.args.task.now.node c.args.task.now.version _ _ turn
    (past_in (λ (past : Past). last_of_line c.args.at past ≡ Some (Committing c.args.task.now.node c.args.task.now.version)) _ _ c.self.view_is c.requires.started)
    (turns_at _ _ c.book.ensures.log c.is_legal.ensures.turns) steps)) c.commit_step.ensures.ok
