use Rattle.cluster_nodes.specs.declared.held.HeldKey.TheVariants.{Ticket}
use Rattle.cluster_state.proofs.Frames.{slot_at, there_at, slot_kept}
use Rattle.cluster_documents.proofs.TicketPaths.{may_open, ticket_path, running_at}
use Rattle.cluster_documents.proofs.TicketFiles.{opened_files}
use Rattle.cluster_state.proofs.Ledgers.{asked_of, fresh_of, told_of, asked_size}
use Rattle.history_rules.specs.Nodes.{version_of, IsNode}
use Rattle.history_rules.specs.Lines.{entries_of_line}
use Rattle.history_book.specs.Log.{Log, printed, shown}
use Rattle.std.proofs.Common.{◌≡◌, [], refl, ◌∙◌, ap, ◌∷◌, ℕ}
use Rattle.cluster_state.proofs.Turning.{fresh_turn_at, log_is, nodes_is}
use Rattle.history_rules.specs.declared.entry.Event.TheVariants.{Opened}
use Rattle.cluster_state.specs.Run.{Run}
use Rattle.cluster_state.proofs.MergingPaths.{third_at, put_shown, like_want, like_keeps}
use Rattle.cluster_state.proofs.RestKept.{put_keeps, node_tells}
use Rattle.cluster_state.specs.NamesIn.{place_names}
use Rattle.cluster_state.specs.PlansIn.{place_plans}
use Rattle.cluster_state.proofs.Behind.{put_each}
use Rattle.cluster_documents.proofs.reads.open_ticket.Goals as goal

pub take-place-requires-clause-slot : goal.take-place-requires-clause-slot
take-place-requires-clause-slot g c =
    slot_at g.D.Dir.cells c.args.cluster.now _ c.cluster.inside.ledger.nodes c.args.n.0 c.cluster.inside.ledger.log c.cluster.inside.places.items c.cluster.view_is c.requires.running (λ e. (c.cluster.invariant e).0) c.requires.node

pub take-place-requires-clause-there : goal.take-place-requires-clause-there
take-place-requires-clause-there g c =
    there_at g.D.Dir.cells c.args.cluster.now _ c.cluster.inside.ledger.nodes c.args.n.0 c.cluster.inside.ledger.log c.cluster.inside.places.items c.cluster.view_is c.requires.running (λ e. (c.cluster.invariant e).0) c.requires.node

pub hold_ticket-holding-requires : goal.hold_ticket-holding-requires
hold_ticket-holding-requires g c =
    running_at g.D.Dir.cells c.args.cluster.now _ c.cluster.inside.ledger.nodes c.args.n.0 c.cluster.inside.ledger.log c.cluster.inside.places.items c.take-place.result c.cluster.view_is c.requires.running (λ e. (c.cluster.invariant e).0)
    c.requires.node c.requires.up c.take-place.ensures.place

pub put-requires : goal.put-requires
put-requires g c = record {
  slot = slot_kept g.D.Dir.cells c.cluster.inside.places.items c.take-place.new.places.items c.args.n.0 c.take-place.ensures.count
      (slot_at g.D.Dir.cells c.args.cluster.now _ c.cluster.inside.ledger.nodes c.args.n.0 c.cluster.inside.ledger.log c.cluster.inside.places.items c.cluster.view_is c.requires.running (λ e. (c.cluster.invariant e).0) c.requires.node);
}

pub invariant_of-cluster-2 : goal.invariant_of-cluster-2
invariant_of-cluster-2 g c = λ running. (
  ticket_path g.D.Dir.cells c.args.cluster.now _ c.cluster.inside.ledger c.reserve.new.self c.show.new.self c.cluster.inside.places.items c.take-place.new.places.items c.put.new.places.items
      c.args.at c.args.n c.args.t (record { 0 = c.version.result }) c.take-place.result c.hold_ticket-holding.new.place
      c.cluster.view_is c.requires.running (λ e. (c.cluster.invariant e).0) c.in_ok-reserve.ensures.log c.in_ok-reserve.ensures.nodes c.show.ensures.log c.show.ensures.nodes c.show.ensures.legal c.show.ensures.turns (fresh_of c.book-book.ensures.log c.is_fresh.ensures)
      (may_open c.args.cluster.now _ c.cluster.inside.ledger c.args.at c.args.n c.args.t (record { 0 = c.version.result }) c.cluster.view_is (fresh_of c.book-book.ensures.log c.is_fresh.ensures) c.requires.node c.requires.up (told_of c.book-book.ensures.log (version_of c.args.n.0) c.version.ensures) c.requires.free) c.requires.number
      (record { count = c.take-place.ensures.count; taken = c.take-place.ensures.places; again = c.put.ensures.count; there = c.put.ensures.places })
      c.take-place.ensures.place c.in_ok-holding.ensures.keeps c.in_ok-holding.ensures.holds,
  opened_files g.D.Dir.cells c.args.cluster.now _ c.cluster.inside.ledger c.reserve.new.self c.show.new.self c.cluster.inside.places.items c.take-place.new.places.items c.put.new.places.items
      c.args.at c.args.n c.args.t (record { 0 = c.version.result }) c.take-place.result c.hold_ticket-holding.new.place
      c.cluster.view_is c.requires.running (λ e. (c.cluster.invariant e).0) (λ e. (c.cluster.invariant e).1) c.in_ok-reserve.ensures.log c.in_ok-reserve.ensures.nodes c.show.ensures.log c.show.ensures.nodes c.show.ensures.legal c.show.ensures.turns (fresh_of c.book-book.ensures.log c.is_fresh.ensures)
      (may_open c.args.cluster.now _ c.cluster.inside.ledger c.args.at c.args.n c.args.t (record { 0 = c.version.result }) c.cluster.view_is (fresh_of c.book-book.ensures.log c.is_fresh.ensures) c.requires.node c.requires.up (told_of c.book-book.ensures.log (version_of c.args.n.0) c.version.ensures) c.requires.free)
      (record { count = c.take-place.ensures.count; taken = c.take-place.ensures.places; again = c.put.ensures.count; there = c.put.ensures.places }) c.take-place.ensures.place c.in_ok-holding.ensures.files c.in_ok-holding.ensures.keeps (Ticket c.args.at.lane c.args.t) c.in_ok-holding.ensures.holds,
  put_shown g.D.Dir.cells c.cluster.inside.tasks c.args.cluster.now _ c.cluster.inside.ledger c.reserve.new.self c.cluster.inside.places.items c.take-place.new.places.items c.put.new.places.items c.args.n.0 c.hold_ticket-holding.new.place c.take-place.result
      c.cluster.view_is c.in_ok-reserve.ensures.log c.in_ok-reserve.ensures.nodes c.in_ok-reserve.ensures.cut c.requires.node (record { count = c.take-place.ensures.count; taken = c.take-place.ensures.places; again = c.put.ensures.count; there = c.put.ensures.places })
      c.take-place.ensures.place (like_want g.D.Dir.cells c.take-place.result c.hold_ticket-holding.new.place c.in_ok-holding.ensures.keeps) (like_keeps g.D.Dir.cells c.take-place.result.node c.hold_ticket-holding.new.place.node c.in_ok-holding.ensures.keeps c.in_ok-holding.ensures.files)
      (third_at c.cluster.view_is c.requires.running c.cluster.invariant)
      c.show.new.self c.args.at (Opened c.args.n c.args.t (record { 0 = c.version.result })) c.show.ensures.log c.show.ensures.nodes c.show.ensures.cut refl,
)

pub is_fresh-requires : goal.is_fresh-requires
is_fresh-requires g c = asked_of (λ (l : Log). entries_of_line c.args.at (printed l) ≡ []) c.cluster.view_is c.book-book.ensures.log c.requires.fresh

pub show-requires-clause-turn : goal.show-requires-clause-turn
show-requires-clause-turn g c = fresh_turn_at c.cluster.inside.ledger c.reserve.new.self c.args.at (Opened c.args.n c.args.t (record { 0 = c.version.result })) c.in_ok-reserve.ensures.log (fresh_of c.book-book.ensures.log c.is_fresh.ensures) tt

pub returns-clause-ok : goal.returns-clause-ok
returns-clause-ok g c =
    let v = told_of c.book-book.ensures.log (version_of c.args.n.0) c.version.ensures ∙ ap (λ (r : Run). version_of c.args.n.0 (printed r.log)) c.cluster.view_is in
    record {
      running = refl;
      nodes = c.show.ensures.nodes ∙ (c.in_ok-reserve.ensures.nodes ∙ nodes_is c.args.cluster.now _ c.cluster.inside.ledger c.cluster.view_is);
      log = c.show.ensures.log ∙ λ i. shown c.args.at (Opened c.args.n c.args.t (record { 0 = v i })) ∷ (c.in_ok-reserve.ensures.log ∙ log_is c.args.cluster.now _ c.cluster.inside.ledger c.cluster.view_is) i;
    }

pub version-requires : goal.version-requires
version-requires g c = asked_size (λ (k : ℕ). IsNode k c.args.n.0) c.cluster.view_is c.book-book.ensures.nodes c.requires.node

pub returns-clause-plans : goal.returns-clause-plans
returns-clause-plans g c =
    put_each g.D.Dir.cells (place_plans g.D.FaultDir.planned) c.cluster.inside.places.items c.take-place.new.places.items c.put.new.places.items c.args.n.0 c.hold_ticket-holding.new.place c.take-place.result
    (record { count = c.take-place.ensures.count; taken = c.take-place.ensures.places; again = c.put.ensures.count; there = c.put.ensures.places })
    c.take-place.ensures.place (ap g.D.FaultDir.planned c.in_ok-holding.ensures.dir)
    ∙ ap (λ (r : Run). r.rest.plans) c.cluster.view_is

pub returns-clause-names : goal.returns-clause-names
returns-clause-names g c =
    put_each g.D.Dir.cells (place_names g.D.FaultDir.names) c.cluster.inside.places.items c.take-place.new.places.items c.put.new.places.items c.args.n.0 c.hold_ticket-holding.new.place c.take-place.result
    (record { count = c.take-place.ensures.count; taken = c.take-place.ensures.places; again = c.put.ensures.count; there = c.put.ensures.places })
    c.take-place.ensures.place (ap g.D.FaultDir.names c.in_ok-holding.ensures.dir)
    ∙ ap (λ (r : Run). r.rest.names) c.cluster.view_is

pub returns-clause-rest : goal.returns-clause-rest
returns-clause-rest g c =
    put_keeps g.D.Dir.cells c.args.cluster.now c.cluster.inside.ledger c.reserve.new.self c.show.new.self c.cluster.inside.tasks _ c.cluster.inside.places.items c.take-place.new.places.items c.put.new.places.items c.args.n.0 c.hold_ticket-holding.new.place c.take-place.result
    c.cluster.view_is c.in_ok-reserve.ensures.cut c.show.ensures.cut (record { count = c.take-place.ensures.count; taken = c.take-place.ensures.places; again = c.put.ensures.count; there = c.put.ensures.places })
    c.take-place.ensures.place (node_tells g.D.Dir.cells c.take-place.result c.hold_ticket-holding.new.place c.in_ok-holding.ensures.keeps)
