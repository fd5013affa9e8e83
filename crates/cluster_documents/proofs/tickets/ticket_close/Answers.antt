use Rattle.std.proofs.Common.{ap, ◌∙◌, sym}
use Rattle.history_rules.specs.Lines.{is_answered, entries_of_line}
use Rattle.history_book.specs.Log.{Log, printed}
use Rattle.cluster_state.proofs.Rows.{fresh_start, legal_at}
use Rattle.cluster_documents.proofs.Without.{closes_none, closes_one}
use Rattle.cluster_documents.proofs.ReadRows.{ticket_told, close_rule, close_node}
use Rattle.cluster_state.proofs.LifeRows.{fresh_no_commit}
use Rattle.cluster_state.proofs.Ended.{closed_key}
use Rattle.cluster_documents.proofs.tickets.ticket_close.Goals as goal

pub has_no_commit-requires : goal.has_no_commit-requires
has_no_commit-requires g c = record { line = fresh_no_commit _ c.args.at c.requires.fresh }

pub note_without-requires-clause-rule : goal.note_without-requires-clause-rule
note_without-requires-clause-rule g c =
    close_rule _ _ c.args.at c.args.t c.in-Some.opening (legal_at _ _ _ _ c.book-in-Some.ensures.nodes c.book-in-Some.ensures.log c.is_legal.ensures.legal) (ticket_told _ _ _ _ c.ticket.result _ c.book.ensures.log c.ticket.ensures.some c.in-Some.is)

pub note_without-requires-clause-line : goal.note_without-requires-clause-line
note_without-requires-clause-line g c = fresh_start _ c.args.at c.requires.fresh

pub note_without-requires-clause-node : goal.note_without-requires-clause-node
note_without-requires-clause-node g c =
    close_node _ _ c.args.at c.args.t _ _ c.in-Some.opening c.book-in-Some.ensures.nodes c.book-in-Some.ensures.log c.is_legal.ensures.legal (ticket_told _ _ _ _ c.ticket.result _ c.book.ensures.log c.ticket.ensures.some c.in-Some.is)

pub note_without-requires-clause-apart : goal.note_without-requires-clause-apart
note_without-requires-clause-apart g c = λ m other. other

pub note_without-requires-clause-ends : goal.note_without-requires-clause-ends
note_without-requires-clause-ends g c = λ past. closed_key past c.args.at c.in-Some.opening.node c.args.t

pub is_fresh-requires : goal.is_fresh-requires
is_fresh-requires g c = ap (λ (l : Log). entries_of_line c.args.at (printed l)) c.book-in-Some-2.ensures.log ∙ c.requires.fresh

pub note_without-requires-clause-unanswered : goal.note_without-requires-clause-unanswered
note_without-requires-clause-unanswered g c = ap (λ (l : Log). is_answered c.args.at (printed l)) (sym c.book-in-Some-2.ensures.log) ∙ c.is_fresh.ensures.replied

pub returns-in-None-clause-ok : goal.returns-in-None-clause-ok
returns-in-None-clause-ok g c =
    closes_none c.refuse.result c.args.at c.args.t c.args.state.now c.refuse.new.state _ c.book.ensures.log (c.ticket.ensures.none c.in-None.is) c.refuse.ensures.ok c.refuse.ensures.plans

pub returns-in-Some-clause-ok : goal.returns-in-Some-clause-ok
returns-in-Some-clause-ok g c =
    closes_one c.note_without.result c.args.at c.args.t c.in-Some.opening c.args.state.now c.note_without.new.cluster (ticket_told _ _ _ _ c.ticket.result _ c.book.ensures.log c.ticket.ensures.some c.in-Some.is) c.note_without.ensures.ok
