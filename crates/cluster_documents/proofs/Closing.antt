-- What a node holds after a ticket of it was closed.
use Rattle.std.proofs.Common.{◌≡◌, ◌≢◌, ℕ, Bool, true, false, true≢false, List, ◌∷◌, Some, None, Option, refl, ap, ◌∙◌, sym, subst, if◌then◌else◌}
use Rattle.std.specs.Prelude.{IsSomeAnd}
use Rattle.seg_reader.specs.Shown.{Shown}
use Rattle.searcher_switch.specs.declared.open.Open.{Open}
use Rattle.searcher_switch.specs.Tickets.{ticket_at, tickets_without}
use Rattle.history_rules.specs.Nodes.{Past, primary_of}
use Rattle.history_rules.specs.Tickets.{open_ticket, IsTicketOf}
use Rattle.nrt_base.specs.declared.numbers.At.{At}
use Rattle.history_tables.proofs.RowLemmas.{by_test}
use Rattle.cluster_nodes.specs.declared.held.HeldTicket.{HeldTicket}
use Rattle.cluster_nodes.specs.declared.held.HeldKey.{HeldKey}
use Rattle.cluster_nodes.specs.declared.held.HeldKey.TheVariants.{Search}
use Rattle.cluster_nodes.specs.Held.{same_key, held_number}
use Rattle.cluster_state.specs.Lookups.{IsSearching}
use Rattle.cluster_state.specs.TicketsOut.{is_ticket_out}
use Rattle.cluster_state.specs.State.{StandForVersion, HoldsAt, ticket_key, HoldsTickets, PlaceShows}
use Rattle.disk_model.specs.Disk.{Cells}
use Rattle.history_rules.specs.declared.entry.Event.{Event}
use Rattle.history_rules.specs.declared.entry.Event.TheVariants.{Publishing}
use Rattle.history_rules.specs.Lines.{start_entry}
use Rattle.history_rules.specs.Legal.{KeepsRule, IsLegalPast}
use Rattle.history_book.specs.Log.{Log, printed, shown}
use Rattle.history_book.specs.Turns.{AreInTurn}
use Rattle.cluster_nodes.specs.declared.nodes.Node.{Node}
use Rattle.cluster_nodes.specs.declared.nodes.NodePlace.{NodePlace}
use Rattle.cluster_nodes.specs.Places.{tickets_of}
use Rattle.cluster_nodes.specs.Changes.{KeepsNode, ClosesTicket, HoldsLess}
use Rattle.cluster_state.specs.Moves.{moves, EndsKey}
use Rattle.cluster_state.proofs.Growing.{stands_more, same, not_flying}
use Rattle.cluster_state.proofs.Frames.{some_then, node_same}
use Rattle.cluster_documents.proofs.Holding.{ticket_left, node_kept}

some_with : {A : Type 0} {P Q : A → Type 0} (o : Option A) → IsSomeAnd o P → ((x : A) → o ≡ Some x → P x → Q x) → IsSomeAnd o Q
some_with None h step = h
some_with (Some x) h step = step x refl h

-- the tickets after the one with this number, where there is one, was closed
abbrev pub AreClosed : Option ℕ → List (Open Shown) → List (Open Shown) → Type 0
AreClosed None tickets after = after ≡ tickets
AreClosed (Some number) tickets after = after ≡ tickets_without number tickets

left_by : (P : Open Shown → Type 0) (o : Option ℕ) (m : ℕ) (tickets after : List (Open Shown)) → AreClosed o tickets after → o ≢ Some m → IsSomeAnd (ticket_at m tickets) P → IsSomeAnd (ticket_at m after) P
left_by P None m tickets after closed other is = subst (λ (ts : List (Open Shown)). IsSomeAnd (ticket_at m ts) P) (sym closed) is
left_by P (Some number) m tickets after closed other is =
    subst (λ (ts : List (Open Shown)). IsSomeAnd (ticket_at m ts) P) (sym closed) (ticket_left P m number tickets (λ same. other (ap Some (sym same))) is)

module _ (past now : Past) (n : ℕ) (key : HeldKey) (tickets after : List (Open Shown)) (held rows : List HeldTicket)
    (closed : AreClosed (held_number held key) tickets after) (less : (k : HeldKey) → held_number rows k ≡ (if same_key key k then None else held_number held k)) where
  row_left : (k : HeldKey) → same_key key k ≡ false → held_number rows k ≡ held_number held k
  row_left k apart = less k ∙ ap (λ (b : Bool). if b then None else held_number held k) apart

  -- what is still held was held, and not for this
  row_was : (k : HeldKey) (m : ℕ) → held_number rows k ≡ Some m → (same_key key k ≡ false) × (held_number held k ≡ Some m)
  row_was k m is =
      by_test (same_key key k) (λ b. same_key key k ≡ b → (same_key key k ≡ false) × (held_number held k ≡ Some m))
      (λ same q. let none : None ≡ Some m = sym (ap (λ (b : Bool). if b then None else held_number held k) same) ∙ (sym (less k) ∙ is) in absurd (cc))
      (λ apart q. (apart, sym (row_left k apart) ∙ is)) refl

  other_number : HoldsTickets past n tickets held → (k : HeldKey) (m : ℕ) → same_key key k ≡ false → held_number held k ≡ Some m → held_number held key ≢ Some m
  other_number was k m apart is mine = true≢false (sym (was.apart key k m mine is) ∙ apart)

  held_left : HoldsTickets past n tickets held → (k : HeldKey) (w : ℕ) → same_key key k ≡ false → HoldsAt tickets held k w → HoldsAt after rows k w
  held_left was k w apart is =
      subst (λ (o : Option ℕ). IsSomeAnd o (λ m. IsSomeAnd (ticket_at m after) (λ t. t.point.version.0 ≡ w))) (sym (row_left k apart))
      (some_with (held_number held k) is (λ m here open_is. left_by (λ t. t.point.version.0 ≡ w) (held_number held key) m tickets after closed (other_number was k m apart here) open_is))

  pub holds_less : ((w : ℕ) (segs : List Shown) → StandForVersion past w segs → StandForVersion now w segs)
      → ((lane t w : ℕ) → IsTicketOf n w (open_ticket lane t now) → (same_key key (ticket_key lane t) ≡ false) × IsTicketOf n w (open_ticket lane t past))
      → ((a : At) (w : ℕ) → IsSearching now a n w → (same_key key (Search a) ≡ false) × IsSearching past a n w)
      → ((k : HeldKey) → same_key key k ≡ false → is_ticket_out n k past ≡ true → is_ticket_out n k now ≡ true)
      → HoldsTickets past n tickets held → HoldsTickets now n after rows
  holds_less stands opened searched out was = record {
    each = λ k m is. let old = row_was k m is in
        left_by (λ o. StandForVersion now o.point.version.0 o.point.readers) (held_number held key) m tickets after closed (other_number was k m old.0 old.1) (some_then (ticket_at m tickets) (was.each k m old.1) (λ o s. stands o.point.version.0 o.point.readers s));
    out = λ k m is. let old = row_was k m is in out k old.0 (was.out k m old.1);
    apart = λ a b m is is'. was.apart a b m (row_was a m is).1 (row_was b m is').1;
    opened = λ lane t w is. let old = opened lane t w is in held_left was (ticket_key lane t) w old.0 (was.opened lane t w old.1);
    searched = λ a w is. let old = searched a w is in held_left was (Search a) w old.0 (was.searched a w old.1);
  }

module _ {D : Type 0} (cells : D → Cells) where
  closes : (o : Option ℕ) (x y : Node D) → ClosesTicket o x y → AreClosed o (tickets_of x) (tickets_of y)
  closes None x y closed = closed
  closes (Some number) x y closed = closed

  -- a node of which a ticket was given back
  pub closed_place : (size : ℕ) (log : Log) (at : At) (e : Event) (n : ℕ) (key : HeldKey) (old new : NodePlace D) → IsLegalPast size (printed log) → AreInTurn (printed log)
      → KeepsRule size (printed log) at e → start_entry at (printed log) ≢ Some Publishing → moves e (primary_of (printed log)) n ≡ false
      → KeepsNode cells old.node new.node → HoldsLess key old new → EndsKey (printed log) (printed (shown at e ∷ log)) n key
      → PlaceShows cells log n old → PlaceShows cells (shown at e ∷ log) n new
  closed_place size log at e n key old new legal turns keeps line still kept less ends was = record {
    node_shows = node_kept cells (shown at e ∷ log) n old.node new.node kept
        (node_same cells log (shown at e ∷ log) n old.node (same size n (printed log) at e legal turns keeps (λ _. not_flying size (printed log) at legal turns line) still) (λ a h there. there) was.node_shows);
    tickets = holds_less (printed log) (printed (shown at e ∷ log)) n key (tickets_of old.node) (tickets_of new.node) old.held.items new.held.items
        (closes (held_number old.held.items key) old.node new.node less.closed) less.rows
        (λ w segs stands. stands_more size (printed log) (record { at = at; event = e }) w segs (keeps, legal) stands)
        ends.tickets ends.searches ends.out was.tickets;
  }
