use Rattle.std.proofs.Common.{subst, map, ℕ}
use Rattle.history_rules.specs.declared.cause.Cause.TheVariants.{DiskFault}
use Rattle.history_rules.specs.declared.entry.Event.TheVariants.{Refused}
use Rattle.history_rules.specs.Legal.{KeepsRule}
use Rattle.history_book.specs.Log.{Log, printed}
use Rattle.cluster_state.specs.Met.{met_in}
use Rattle.cluster_state.proofs.Ledgers.{legal_of, turns_of}
use Rattle.cluster_recovery.proofs.CommitPaths.{stops_behind}
use Rattle.cluster_recovery.proofs.commits.note_stopped.Goals as goal

pub show-requires-clause-rule : goal.show-requires-clause-rule
show-requires-clause-rule g c =
    (stops_behind c.args.at c.args.before.now (map (met_in g.D.FaultDir.planned) c.args.places.now.items) c.args.ledger.now.log c.args.n c.show_met.new.ledger.log c.show_met.new.ledger.nodes c.show_met.ensures.log
    (legal_of c.book.ensures.nodes c.book.ensures.log c.is_legal.ensures.legal) (turns_of c.book.ensures.log c.is_legal.ensures.turns) c.requires.flight c.requires.risen).0

pub show-requires-clause-turn : goal.show-requires-clause-turn
show-requires-clause-turn g c =
    (stops_behind c.args.at c.args.before.now (map (met_in g.D.FaultDir.planned) c.args.places.now.items) c.args.ledger.now.log c.args.n c.show_met.new.ledger.log c.show_met.new.ledger.nodes c.show_met.ensures.log
    (legal_of c.book.ensures.nodes c.book.ensures.log c.is_legal.ensures.legal) (turns_of c.book.ensures.log c.is_legal.ensures.turns) c.requires.flight c.requires.risen).1

pub returns-clause-rule : goal.returns-clause-rule
returns-clause-rule g c =
    subst (λ (x : ℕ × Log). KeepsRule x.0 (printed x.1) c.args.at (Refused DiskFault)) (λ i. (c.show_met.ensures.nodes i, c.show_met.ensures.log i))
    (stops_behind c.args.at c.args.before.now (map (met_in g.D.FaultDir.planned) c.args.places.now.items) c.args.ledger.now.log c.args.n c.show_met.new.ledger.log c.show_met.new.ledger.nodes c.show_met.ensures.log
    (legal_of c.book.ensures.nodes c.book.ensures.log c.is_legal.ensures.legal) (turns_of c.book.ensures.log c.is_legal.ensures.turns) c.requires.flight c.requires.risen).0
