use Rattle.std.proofs.Common.{◌≡◌, ◌∙◌, ap, sym, subst, map, refl, ℕ}
use Rattle.history_rules.specs.declared.entry.Event.TheVariants.{Refused}
use Rattle.history_rules.specs.declared.cause.Cause.TheVariants.{DiskFault}
use Rattle.history_rules.specs.Legal.{KeepsRule}
use Rattle.history_book.specs.Laws.{Flying}
use Rattle.history_book.specs.Log.{Log, printed}
use Rattle.cluster_state.specs.Met.{met_in, with_met}
use Rattle.cluster_state.proofs.Ledgers.{legal_of}
use Rattle.cluster_documents.proofs.MetWords.{met_flight, gives_up, give_up_turn}
use Rattle.cluster_documents.proofs.writes.note_given_up.Goals as goal

pub flies-requires : goal.flies-requires
flies-requires g c = met_flight c.args.at c.args.before.now (map (met_in g.D.FaultDir.planned) c.args.places.now.items) c.args.ledger.now.log c.book-book.result.now.log (c.book-book.ensures.log ∙ c.show_met.ensures.log) c.requires.flight

pub show-requires-clause-rule : goal.show-requires-clause-rule
show-requires-clause-rule g c =
    gives_up c.args.at c.args.p c.args.before.now (map (met_in g.D.FaultDir.planned) c.args.places.now.items) c.args.ledger.now.log c.show_met.new.ledger.log c.show_met.new.ledger.nodes c.show_met.ensures.log
    (legal_of c.book-book.ensures.nodes c.book-book.ensures.log c.is_legal.ensures.legal) (subst (λ (l : Log). Flying (printed l) c.args.at) c.book-book.ensures.log c.flies.ensures) c.requires.primary c.requires.risen

pub returns-clause-rule : goal.returns-clause-rule
returns-clause-rule g c =
    subst (λ (x : ℕ × Log). KeepsRule x.0 (printed x.1) c.args.at (Refused DiskFault)) (λ i. (c.show_met.ensures.nodes i, c.show_met.ensures.log i))
    (gives_up c.args.at c.args.p c.args.before.now (map (met_in g.D.FaultDir.planned) c.args.places.now.items) c.args.ledger.now.log c.show_met.new.ledger.log c.show_met.new.ledger.nodes c.show_met.ensures.log
    (legal_of c.book-book.ensures.nodes c.book-book.ensures.log c.is_legal.ensures.legal) (subst (λ (l : Log). Flying (printed l) c.args.at) c.book-book.ensures.log c.flies.ensures) c.requires.primary c.requires.risen)
