use Rattle.std.proofs.Common.{refl}
use Rattle.std.proofs.lemmas.Result.{on_ok_weaker}
use Rattle.history_rules.specs.Nodes.{Past}
use Rattle.history_rules.specs.Lines.{last_of_line}
use Rattle.cluster_state.specs.Calls.{ScansAt}
use Rattle.cluster_core.specs.Doing.{AsksFor}
use Rattle.cluster_state.proofs.Rows.{turns_at}
use Rattle.cluster_core.proofs.Does.{answer_does, answer_replied, does_was, past_in}
use Rattle.cluster_core.proofs.cluster.Cluster.answer_end.Goals as goal

pub returns-clause-does : goal.returns-clause-does
returns-clause-does g c = λ command asks. on_ok_weaker c.answer_end.result
    (λ ends. does_was command c.args.at _ _ _ c.self.view_is
    (answer_does command c.args.at _ c.args.query.now c.args.answer _ _ refl (turns_at _ _ c.book.ensures.log c.is_legal.ensures.turns)
    (past_in (λ (past : Past). ScansAt past (last_of_line c.args.at past) c.args.query.now c.args.answer) _ _ c.self.view_is c.requires.right)
    (past_in (λ (past : Past). AsksFor command c.args.query.now (last_of_line c.args.at past)) _ _ c.self.view_is asks) ends)) c.answer_end.ensures.ok

pub returns-clause-replied : goal.returns-clause-replied
returns-clause-replied g c = on_ok_weaker c.answer_end.result (λ ends. answer_replied c.args.at _ c.args.query.now c.args.answer c.self.inside.state c.answer_end.new.state ends) c.answer_end.ensures.ok
