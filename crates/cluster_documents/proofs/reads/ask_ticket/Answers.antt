use Rattle.cluster_state.proofs.Frames.{slot_at}
use Rattle.cluster_documents.proofs.TicketPaths.{asks_at, ask_node, ask_held, ask_reads, ask_path}
use Rattle.cluster_documents.proofs.TicketFiles.{ask_files}
use Rattle.cluster_state.proofs.Ledgers.{asked_of, fresh_of, legal_of, turns_of}
use Rattle.history_rules.specs.Lines.{entries_of_line}
use Rattle.history_book.specs.Log.{Log, printed}
use Rattle.std.proofs.Common.{◌≡◌, [], refl, ◌∙◌, ap}
use Rattle.cluster_state.proofs.Turning.{fresh_turn_at}
use Rattle.history_rules.specs.declared.entry.Event.TheVariants.{Asking}
use Rattle.cluster_state.proofs.MergingPaths.{third_at}
use Rattle.cluster_state.proofs.MergingStill.{stand_shown, all_keep}
use Rattle.cluster_state.proofs.RestKept.{kept_rest}
use Rattle.cluster_state.specs.Run.{Run}
use Rattle.cluster_documents.proofs.reads.ask_ticket.Goals as goal

pub lease_in-requires-clause-slot : goal.lease_in-requires-clause-slot
lease_in-requires-clause-slot g c =
    slot_at g.D.Dir.cells c.args.cluster.now _ c.cluster.inside.ledger.nodes c.args.opening.node.0 c.cluster.inside.ledger.log c.cluster.inside.places.items c.cluster.view_is c.requires.running (λ e. (c.cluster.invariant e).0)
    (ask_node c.args.cluster.now _ c.cluster.inside.ledger c.args.at c.args.t c.args.opening c.cluster.view_is (legal_of c.book-book.ensures.nodes c.book-book.ensures.log c.is_legal.ensures.legal) c.requires.held)

pub lease_in-requires-clause-held : goal.lease_in-requires-clause-held
lease_in-requires-clause-held g c =
    ask_held g.D.Dir.cells c.args.cluster.now _ c.cluster.inside.ledger c.cluster.inside.places.items c.args.at c.args.t c.args.opening c.cluster.view_is c.requires.running (λ e. (c.cluster.invariant e).0) (legal_of c.book-book.ensures.nodes c.book-book.ensures.log c.is_legal.ensures.legal) c.requires.held

pub show-requires-clause-rule : goal.show-requires-clause-rule
show-requires-clause-rule g c =
    asks_at c.args.cluster.now _ c.cluster.inside.ledger c.reserve.new.self c.args.at c.args.t c.args.opening c.cluster.view_is c.in_ok-reserve.ensures.log c.in_ok-reserve.ensures.nodes (legal_of c.book-book.ensures.nodes c.book-book.ensures.log c.is_legal.ensures.legal) (fresh_of c.book-book.ensures.log c.is_fresh.ensures) c.requires.held

pub invariant_of-cluster-2 : goal.invariant_of-cluster-2
invariant_of-cluster-2 g c = λ running. (
  ask_path g.D.Dir.cells c.args.cluster.now _ c.cluster.inside.ledger c.reserve.new.self c.show.new.self c.cluster.inside.places.items c.args.at c.args.t c.args.opening
      c.cluster.view_is c.requires.running (λ e. (c.cluster.invariant e).0) c.in_ok-reserve.ensures.log c.in_ok-reserve.ensures.nodes c.show.ensures.log c.show.ensures.nodes (legal_of c.book-book.ensures.nodes c.book-book.ensures.log c.is_legal.ensures.legal) (turns_of c.book-book.ensures.log c.is_legal.ensures.turns)
      c.show.ensures.legal c.show.ensures.turns (fresh_of c.book-book.ensures.log c.is_fresh.ensures) c.requires.held,
  ask_files g.D.Dir.cells c.args.cluster.now _ c.cluster.inside.ledger c.reserve.new.self c.show.new.self c.cluster.inside.places.items c.args.at c.args.t c.args.opening
      c.cluster.view_is c.requires.running (λ e. (c.cluster.invariant e).0) (λ e. (c.cluster.invariant e).1) c.in_ok-reserve.ensures.log c.in_ok-reserve.ensures.nodes c.show.ensures.log c.show.ensures.nodes (legal_of c.book-book.ensures.nodes c.book-book.ensures.log c.is_legal.ensures.legal) c.show.ensures.legal c.show.ensures.turns (fresh_of c.book-book.ensures.log c.is_fresh.ensures) c.requires.held,
  (let was = third_at c.cluster.view_is c.requires.running c.cluster.invariant in
      stand_shown c.cluster.inside.tasks _ _ c.cluster.inside.ledger c.reserve.new.self c.show.new.self c.args.at (Asking c.args.opening.node c.args.t c.args.opening.version) c.in_ok-reserve.ensures.log c.in_ok-reserve.ensures.nodes c.in_ok-reserve.ensures.cut
      c.show.ensures.log c.show.ensures.nodes c.show.ensures.cut refl (all_keep _ c.cluster.inside.tasks _ _ _ was) was),
)

pub returns-clause-lease : goal.returns-clause-lease
returns-clause-lease g c =
    ask_reads g.D.Dir.cells c.args.cluster.now _ c.cluster.inside.ledger c.cluster.inside.places.items c.args.at c.args.t c.args.opening c.in_ok-lease.lease
    c.cluster.view_is c.requires.running (λ e. (c.cluster.invariant e).0) (legal_of c.book-book.ensures.nodes c.book-book.ensures.log c.is_legal.ensures.legal) c.requires.held c.in_ok-lease.ensures

pub is_fresh-requires : goal.is_fresh-requires
is_fresh-requires g c = asked_of (λ (l : Log). entries_of_line c.args.at (printed l) ≡ []) c.cluster.view_is c.book-book.ensures.log c.requires.fresh

pub show-requires-clause-turn : goal.show-requires-clause-turn
show-requires-clause-turn g c = fresh_turn_at c.cluster.inside.ledger c.reserve.new.self c.args.at (Asking c.args.opening.node c.args.t c.args.opening.version) c.in_ok-reserve.ensures.log (fresh_of c.book-book.ensures.log c.is_fresh.ensures) tt

pub returns-clause-plans : goal.returns-clause-plans
returns-clause-plans g c = ap (λ (r : Run). r.rest.plans) c.cluster.view_is

pub returns-clause-names : goal.returns-clause-names
returns-clause-names g c = ap (λ (r : Run). r.rest.names) c.cluster.view_is

pub returns-clause-rest : goal.returns-clause-rest
returns-clause-rest g c = kept_rest c.args.cluster.now _ _ c.cluster.view_is refl (c.show.ensures.cut ∙ c.in_ok-reserve.ensures.cut) refl refl refl refl
