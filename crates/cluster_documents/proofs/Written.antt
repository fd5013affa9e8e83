-- A primary with the tickets of it that are held, after it accepted an operation, started a publish or ended one.
use Rattle.std.proofs.Common.{◌≡◌, ◌≢◌, ◌+◌, ℕ, false, List, [], ◌∷◌, ◌++◌, Some, None, Option, Vec, Global, refl, ap, sym, subst}
use Rattle.nrt_base.specs.declared.numbers.At.{At}
use Rattle.nrt_base.specs.declared.numbers.Gen.{Gen}
use Rattle.nrt_base.specs.declared.numbers.SegNo.{SegNo}
use Rattle.nrt_base.specs.declared.numbers.Version.{Version}
use Rattle.documents.specs.declared.operation.Op.{Op}
use Rattle.disk_model.specs.Disk.{Cells}
use Rattle.seg_reader.specs.Shown.{Shown}
use Rattle.searcher_switch.specs.declared.open.Open.{Open}
use Rattle.history_rules.specs.declared.entry.Event.{Event}
use Rattle.history_rules.specs.declared.entry.Event.TheVariants.{Accepted, Publishing, Published}
use Rattle.history_rules.specs.Nodes.{Past, newest_version}
use Rattle.history_rules.specs.Lines.{start_entry, publish_in_flight}
use Rattle.history_rules.specs.Legal.{KeepsRule, IsLegalPast}
use Rattle.history_book.specs.Log.{Log, printed, shown, kept}
use Rattle.history_book.specs.declared.inner.Inner.TheVariants.{FlushOut}
use Rattle.history_book.specs.Turns.{AreInTurn}
use Rattle.index_primary.specs.declared.parts.PrimaryParts.{PrimaryParts}
use Rattle.index_primary.specs.Primary.{IsPrimary}
use Rattle.index_primary.specs.Calls.{IsPublished}
use Rattle.index_primary.specs.Work.{AreOfCut}
use Rattle.index_primary.specs.Cut.{infos_drawn, noted, has_put}
use Rattle.segment_steps.specs.declared.flushing.FlushWork.{FlushWork}
use Rattle.cluster_nodes.specs.declared.held.HeldTicket.{HeldTicket}
use Rattle.cluster_nodes.specs.declared.nodes.Node.TheVariants.{Primary}
use Rattle.cluster_state.specs.Lookups.{flush_out}
use Rattle.cluster_state.specs.State.{HoldsTickets, PlaceShows}
use Rattle.cluster_state.specs.Writes.{IsFlushed}
use Rattle.cluster_state.specs.Moves.{moves_tickets}
use Rattle.cluster_state.proofs.Growing.{lasts, fewer}
use Rattle.cluster_state.proofs.Frames.{holds_same}
use Rattle.cluster_documents.proofs.Writing.{accepted_primary, started_primary, published_primary}

tickets_next : (size : ℕ) (past : Past) (at : At) (e : Event) (n : ℕ) (old new : List (Open Shown)) (held : List HeldTicket) → IsLegalPast size past → KeepsRule size past at e → moves_tickets e n ≡ false
    → new ≡ old → HoldsTickets past n old held → HoldsTickets (record { at = at; event = e } ∷ past) n new held
tickets_next size past at e n old new held legal keeps apart is was =
    subst (λ (ts : List (Open Shown)). HoldsTickets (record { at = at; event = e } ∷ past) n ts held) (sym is)
    (holds_same past (record { at = at; event = e } ∷ past) n old held (lasts size past at e legal keeps) (fewer past at e n apart) was)

module _ {D : Type 0} (cells : D → Cells) where
  pub accepted_place : (size : ℕ) (log : Log) (at : At) (seq : ℕ) (op : Op) (n : ℕ) (p q : PrimaryParts D) (held : Vec HeldTicket Global) → IsLegalPast size (printed log) → AreInTurn (printed log)
      → KeepsRule size (printed log) at (Accepted seq op) → start_entry at (printed log) ≢ Some Publishing
      → q ≡ record p { waiting = p.waiting ++ op ∷ []; accepted = p.accepted + 1 } → IsPrimary cells q
      → PlaceShows cells log n (record { node = Primary p; held = held }) → PlaceShows cells (shown at (Accepted seq op) ∷ log) n (record { node = Primary q; held = held })
  accepted_place size log at seq op n p q held legal turns keeps line is whole was = record {
    node_shows = accepted_primary cells size log at seq op n p q legal turns keeps line is whole was.node_shows;
    tickets = tickets_next size (printed log) at (Accepted seq op) n p.searchers.tickets q.searchers.tickets held.items legal keeps refl (ap (λ (z : PrimaryParts D). z.searchers.tickets) is) was.tickets;
  }

  pub started_place : (size : ℕ) (log : Log) (at : At) (seg : Option SegNo) (segs : List Shown) (n : ℕ) (p q : PrimaryParts D) (held : Vec HeldTicket Global) → IsLegalPast size (printed log)
      → KeepsRule size (printed log) at Publishing → flush_out at log ≡ None → segs ≡ p.segs
      → q ≡ record p { infos = infos_drawn (has_put p.waiting) p.infos; publish = noted seg p.waiting } → IsPrimary cells q
      → PlaceShows cells log n (record { node = Primary p; held = held }) → PlaceShows cells (kept (FlushOut at seg segs) ∷ shown at Publishing ∷ log) n (record { node = Primary q; held = held })
  started_place size log at seg segs n p q held legal keeps none same is whole was = record {
    node_shows = started_primary cells size log at seg segs n p q legal keeps none same is whole was.node_shows;
    tickets = tickets_next size (printed log) at Publishing n p.searchers.tickets q.searchers.tickets held.items legal keeps refl (ap (λ (z : PrimaryParts D). z.searchers.tickets) is) was.tickets;
  }

  pub published_place : (size : ℕ) (log : Log) (at : At) (g : Gen) (v : Version) (n : ℕ) (p q : PrimaryParts D) (work : FlushWork) (held : Vec HeldTicket Global) → IsLegalPast size (printed log) → AreInTurn (printed log)
      → KeepsRule size (printed log) at (Published g v) → publish_in_flight (printed log) ≡ Some at → v.0 ≡ newest_version (printed log) + 1
      → IsFlushed at log work → IsPublished p work q → AreOfCut p q → q.accepted ≡ p.accepted → q.merges ≡ p.merges → IsPrimary cells q
      → PlaceShows cells log n (record { node = Primary p; held = held }) → PlaceShows cells (shown at (Published g v) ∷ log) n (record { node = Primary q; held = held })
  published_place size log at g v n p q work held legal turns keeps flight next flushed published of_cut accepted calm whole was = record {
    node_shows = published_primary cells size log at g v n p q work legal turns keeps flight next flushed published of_cut accepted calm whole was.node_shows;
    tickets = tickets_next size (printed log) at (Published g v) n p.searchers.tickets q.searchers.tickets held.items legal keeps refl published.point.tickets was.tickets;
  }
