use Rattle.std.proofs.Common.{◌≢◌, ◌∷◌, Bool, true, false, None, ◌&&◌, ◌==◌, ap, ◌∙◌, sym, subst}
use Rattle.std.specs.Prelude.{OnOk}
use Rattle.documents.specs.declared.query.Query.{Query}
use Rattle.history_rules.specs.declared.cause.Cause.TheVariants.{Lost}
use Rattle.history_rules.specs.declared.entry.Event.TheVariants.{Answered, Refused}
use Rattle.history_rules.specs.Nodes.{crashes}
use Rattle.history_rules.specs.Lines.{is_answered, before_start}
use Rattle.history_tables.specs.Begins.{open_line}
use Rattle.history_book.specs.Log.{Log, printed, shown}
use Rattle.cluster_state.specs.Run.{IsNow}
use Rattle.cluster_state.proofs.LifeRows.{search_no_commit}
use Rattle.cluster_state.proofs.Ended.{answered_key}
use Rattle.cluster_documents.proofs.Without.{by_test_still}
use Rattle.cluster_documents.proofs.searches.end_search.Goals as goal

pub has_no_commit-requires : goal.has_no_commit-requires
has_no_commit-requires g c = record { line = search_no_commit (printed c.args.state.now.log) c.args.at c.args.n c.args.t c.args.v c.requires.started }

pub note_without-requires-clause-apart : goal.note_without-requires-clause-apart
note_without-requires-clause-apart g c = λ m other. ap (λ (b : Bool). b && (c.args.t.0 == 0)) other

pub note_without-requires-clause-ends : goal.note_without-requires-clause-ends
note_without-requires-clause-ends g c = λ past. answered_key past c.args.at c.args.n c.args.t c.args.v _ _

pub is_unanswered-requires : goal.is_unanswered-requires
is_unanswered-requires g c = subst (λ (l : Log). open_line c.args.at (printed l) ≢ None) (sym c.book.ensures.log) c.requires.line

pub note_without-requires-clause-unanswered : goal.note_without-requires-clause-unanswered
note_without-requires-clause-unanswered g c = ap (λ (l : Log). is_answered c.args.at (printed l)) (sym c.book.ensures.log) ∙ c.is_unanswered.ensures

-- where no disk is called

pub returns-then-not-node_survives-clause-ok : goal.returns-then-not-node_survives-clause-ok
returns-then-not-node_survives-clause-ok g c =
    by_test_still c.note.result c.args.at (crashes c.args.n.0 (printed c.args.state.now.log) == crashes c.args.n.0 (before_start c.args.at (printed c.args.state.now.log))) false
    (Answered c.args.n c.args.t c.args.v c.args.query.now c.args.answer) (Refused Lost) c.args.state.now c.note.new.self
    (ap (λ (l : Log). crashes c.args.n.0 (printed l) == crashes c.args.n.0 (before_start c.args.at (printed l))) (sym c.book-2.ensures.log) ∙ sym c.if-not-node_survives.ensures) c.note.ensures.ok c.note.ensures.plans

pub returns-else-t-eq0-clause-ok : goal.returns-else-t-eq0-clause-ok
returns-else-t-eq0-clause-ok g c =
    by_test_still c.note-else-t-eq0.result c.args.at (crashes c.args.n.0 (printed c.args.state.now.log) == crashes c.args.n.0 (before_start c.args.at (printed c.args.state.now.log))) true
    (Answered c.args.n c.args.t c.args.v c.args.query.now c.args.answer) (Refused Lost) c.args.state.now c.note-else-t-eq0.new.self
    (ap (λ (l : Log). crashes c.args.n.0 (printed l) == crashes c.args.n.0 (before_start c.args.at (printed l))) (sym c.book-2.ensures.log) ∙ sym c.if-not-node_survives.ensures)
    (subst (λ (q : Query). OnOk c.note-else-t-eq0.result (IsNow c.args.state.now c.note-else-t-eq0.new.self (shown c.args.at (Answered c.args.n c.args.t c.args.v q c.args.answer) ∷ c.args.state.now.log))) c.in-Ok.ensures c.note-else-t-eq0.ensures.ok)
    c.note-else-t-eq0.ensures.plans
