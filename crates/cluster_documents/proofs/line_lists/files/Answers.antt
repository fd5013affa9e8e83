use Rattle.std.proofs.Common.{ap, sym, ◌∙◌}
use Rattle.std.proofs.lemmas.Result.{on_ok_weaker}
use Rattle.history_rules.specs.Nodes.{is_running}
use Rattle.history_book.specs.Log.{Log, printed}
use Rattle.cluster_documents.proofs.ReadRows.{listed, unlisted}
use Rattle.cluster_documents.proofs.line_lists.files.Goals as goal

pub returns-then-not-runs-clause-ok : goal.returns-then-not-runs-clause-ok
returns-then-not-runs-clause-ok g c = on_ok_weaker c.refuse.result
    (λ refused. unlisted c.args.at c.args.n _ _ (sym (c.runs.ensures ∙ ap (λ (l : Log). is_running c.args.n.0 (printed l)) c.book.ensures.log) ∙ c.if-not-runs.true) refused) c.refuse.ensures.ok

pub returns-clause-ok : goal.returns-clause-ok
returns-clause-ok g c = on_ok_weaker c.list_files.result
    (listed c.args.at c.args.n _ _ (sym (c.runs.ensures ∙ ap (λ (l : Log). is_running c.args.n.0 (printed l)) c.book.ensures.log) ∙ c.if-not-runs.false)) c.list_files.ensures.ok
