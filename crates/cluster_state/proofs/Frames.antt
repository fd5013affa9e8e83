-- What stays of a node, and of all of them, at one more entry.
use Rattle.std.proofs.Common.{◌≡◌, ◌≢◌, ◌≤◌, ◌==◌, ◌&&◌, ℕ, Bool, true, false, true≢false, List, ◌∷◌, Some, None, Option, refl, ap, ◌∙◌, sym, subst, arith, if◌then◌else◌, length, drop}
use Rattle.std.specs.Prelude.{IsSomeAnd}
use Rattle.std.proofs.lemmas.Bool.{eqb-true}
use Rattle.nrt_base.specs.declared.numbers.At.{At}
use Rattle.nrt_base.specs.declared.numbers.NodeNo.{NodeNo}
use Rattle.documents.specs.declared.operation.Op.{Op}
use Rattle.disk_model.specs.Disk.{Cells}
use Rattle.seg_reader.specs.Shown.{Shown}
use Rattle.seg_reader.specs.Stands.{AreSegmentsOf}
use Rattle.segment_infos.specs.declared.infos.Infos.{Infos}
use Rattle.searcher_switch.specs.declared.open.Open.{Open}
use Rattle.searcher_switch.specs.declared.open.SearchPoint.{SearchPoint}
use Rattle.searcher_switch.specs.Tickets.{ticket_at}
use Rattle.history_rules.specs.declared.entry.Entry.{Entry}
use Rattle.history_rules.specs.declared.entry.Event.{Event}
use Rattle.history_rules.specs.declared.entry.Event.TheVariants.{Publishing}
use Rattle.history_rules.specs.Nodes.{Past, IsNode, is_at, primary_of, newest_version, version_of}
use Rattle.history_rules.specs.Lines.{same_at, is_start, start_entry, publish_in_flight}
use Rattle.history_rules.specs.Points.{documents_at, cut_of}
use Rattle.history_rules.specs.Legal.{KeepsRule, IsLegalPast}
use Rattle.history_tables.proofs.RowLemmas.{by_test}
use Rattle.history_book.specs.Log.{Log, printed, shown, kept}
use Rattle.merge_tasks.specs.Merging.{Sheet}
use Rattle.history_book.specs.declared.inner.Inner.TheVariants.{FlushOut}
use Rattle.nrt_base.specs.declared.numbers.SegNo.{SegNo}
use Rattle.history_book.specs.Told.{IsSo}
use Rattle.history_book.specs.Turns.{AreInTurn}
use Rattle.index_primary.specs.declared.parts.PrimaryParts.{PrimaryParts}
use Rattle.index_primary.specs.declared.parts.Publish.{Publish}
use Rattle.replica_node.specs.declared.parts.ReplicaParts.{ReplicaParts}
use Rattle.cluster_nodes.specs.declared.held.HeldTicket.{HeldTicket}
use Rattle.cluster_nodes.specs.declared.nodes.Node.{Node}
use Rattle.cluster_nodes.specs.declared.nodes.Node.TheVariants.{Primary, Replica, Down}
use Rattle.cluster_nodes.specs.declared.nodes.NodePlace.{NodePlace}
use Rattle.cluster_state.specs.Lookups.{Handed, handed_by, or_older, flush_out}
use Rattle.cluster_nodes.specs.Places.{place_of, IsSlot, tickets_of}
use Rattle.cluster_state.specs.Run.{Rest, Run}
use Rattle.cluster_state.specs.State.{StandForVersion, IsPointAt, HoldsTickets, FlightShows, WritesAt, PrimaryShows, ReplicaShows, NodeShows, PlaceShows, Shows}
use Rattle.cluster_state.specs.Moves.{moves, moves_tickets, FlightStays, Lasts, Fewer, WritesOn, Same}
use Rattle.cluster_state.proofs.Growing.{same, fewer, not_flying}

-- ---- facts under an option

pub some_then : {A : Type 0} {P Q : A → Type 0} (o : Option A) → IsSomeAnd o P → ((x : A) → P x → Q x) → IsSomeAnd o Q
some_then None h step = h
some_then (Some x) h step = step x h

pub some_at : {A : Type 0} (P : A → Type 0) (o : Option A) (x : A) → o ≡ Some x → IsSomeAnd o P → P x
some_at {A = A} P o x is h = subst (λ (o' : Option A). IsSomeAnd o' P) is h

-- before a line started, nothing is handed out for it: so it is after an entry
pub start_back : (at : At) (e : Entry) (past : Past) → start_entry at (e ∷ past) ≡ None → start_entry at past ≡ None
start_back at e past none = go (is_start e.event && same_at e.at at) none
  where
    go : (b : Bool) → (if b then Some e.event else start_entry at past) ≡ None → start_entry at past ≡ None
    go true got = absurd (cc)
    go false got = got

-- ---- tickets

point_more : (past now : Past) (v w : ℕ) (p : SearchPoint Shown) → Lasts past now → w ≡ v → IsPointAt past v p → IsPointAt now w p
point_more past now v w p g same was = record { version = was.version ∙ sym same; stands = subst (λ (k : ℕ). StandForVersion now k p.readers) (sym same) (g.stands v p.readers was.stands) }

pub holds_same : (past now : Past) (n : ℕ) (tickets : List (Open Shown)) (held : List HeldTicket) → Lasts past now → Fewer past now n → HoldsTickets past n tickets held → HoldsTickets now n tickets held
holds_same past now n tickets held g f was = record {
  each = λ key number is. some_then (ticket_at number tickets) (was.each key number is) (λ o stands. g.stands o.point.version.0 o.point.readers stands);
  out = λ key number is. f.out key ∙ was.out key number is;
  apart = was.apart;
  opened = λ lane t v is. was.opened lane t v (f.tickets lane t v is);
  searched = λ at v is. was.searched at v (f.searches at v is);
}

-- ---- the writer

cut_same : (past now : Past) → WritesOn past now → cut_of now ≡ cut_of past
cut_same past now s = λ i. drop (s.published i) (s.operations i)

writes_more : (past now : Past) (infos : Infos) (segs : List Shown) → Lasts past now → WritesOn past now → WritesAt past infos segs → WritesAt now infos segs
writes_more past now infos segs g s was =
    let stands = g.stands (newest_version past) segs (record { known = omega arith; documents = was.documents }) in
    record {
      documents = subst (λ (k : ℕ). AreSegmentsOf (documents_at now k) segs) (sym s.newest) stands.documents;
      generation = was.generation ∙ sym s.generation;
      version = was.version ∙ sym s.newest;
      counter = was.counter ∙ sym s.names;
      few = subst (λ (k : ℕ). length infos.segs ≤ k) (sym s.puts) was.few;
      live = λ none. was.live (sym s.merges ∙ none);
    }

-- what was handed out stays so
abbrev pub KeepsHanded : Log → Log → Type 0
KeepsHanded log now = (at : At) (h : Handed) → flush_out at log ≡ Some h → flush_out at now ≡ Some h

flight_at : (log now : Log) (publish : Option Publish) (segs : List Shown) (o : Option At) → publish_in_flight (printed log) ≡ o → FlightStays (printed log) (printed now) → KeepsHanded log now
    → FlightShows log o publish segs → FlightShows now o publish segs
flight_at log now publish segs None is s out was = was
flight_at log now publish segs (Some at) is s out was =
    some_then publish was (λ f flying. record {
      out = out at (record { seg = f.seg; segs = segs }) flying.out;
      count = flying.count ∙ ap (λ (start : Past). length (cut_of start)) (sym (s.start at is));
    })

pub flight_same : (log now : Log) (publish : Option Publish) (segs : List Shown) → FlightStays (printed log) (printed now) → KeepsHanded log now
    → FlightShows log (publish_in_flight (printed log)) publish segs → FlightShows now (publish_in_flight (printed now)) publish segs
flight_same log now publish segs s out was =
    subst (λ (o : Option At). FlightShows now o publish segs) (sym s.flight) (flight_at log now publish segs (publish_in_flight (printed log)) refl s out was)

-- ---- rules, in the terms of a call

-- the rule of an entry at what a call has of the book after it made room
pub rule_at : (r : Run) (ended : Bool) (b0 b1 : Sheet) (at : At) (e : Event) → {left : Rest} → record { ended = ended; nodes = b0.nodes; log = b0.log; rest = left } ≡ r
    → b1.log ≡ b0.log → b1.nodes ≡ b0.nodes → KeepsRule r.nodes (printed r.log) at e → KeepsRule b1.nodes (printed b1.log) at e
rule_at r ended b0 b1 at e view same_log same_size keeps =
    let log : b1.log ≡ r.log = same_log ∙ ap (λ (x : Run). x.log) view in
    let size : b1.nodes ≡ r.nodes = same_size ∙ ap (λ (x : Run). x.nodes) view in
    subst (λ (x : Log × ℕ). KeepsRule x.1 (printed x.0) at e) (λ i. (sym log i, sym size i)) keeps

-- and what it tells is so
pub told_at : (r : Run) (ended : Bool) (b0 b1 : Sheet) (at : At) (e : Event) → {left : Rest} → record { ended = ended; nodes = b0.nodes; log = b0.log; rest = left } ≡ r
    → b1.log ≡ b0.log → IsSo r.log at e → IsSo b1.log at e
told_at r ended b0 b1 at e view same_log so = subst (λ (l : Log). IsSo l at e) (sym (same_log ∙ ap (λ (x : Run). x.log) view)) so

-- ---- nodes

module _ {D : Type 0} (cells : D → Cells) where
  primary_same : (log now : Log) (n : ℕ) (p : PrimaryParts D) → Same (printed log) (printed now) n → KeepsHanded log now → PrimaryShows cells log n p → PrimaryShows cells now n p
  primary_same log now n p s out was =
      let writer = s.writer was.primary in
      record {
        running = s.running ∙ was.running;
        primary = s.primary ∙ was.primary;
        whole = was.whole;
        point = point_more (printed log) (printed now) (version_of n (printed log)) (version_of n (printed now)) p.searchers.point s.lasts s.version was.point;
        writer = writes_more (printed log) (printed now) p.infos p.segs s.lasts writer was.writer;
        waiting = was.waiting ∙ sym (cut_same (printed log) (printed now) writer);
        accepted = was.accepted ∙ ap (λ (ops : List Op). length ops) (sym writer.operations);
        uncut = λ none. was.uncut (sym writer.merges ∙ none);
        calm = λ none. was.calm (sym writer.merges ∙ none);
        flight = flight_same log now p.publish p.segs (s.flight was.primary) out was.flight;
      }

  replica_same : (past now : Past) (n : ℕ) (r : ReplicaParts D) → Same past now n → ReplicaShows cells past n r → ReplicaShows cells now n r
  replica_same past now n r s was = record {
    running = s.running ∙ was.running;
    other = s.primary ∙ was.other;
    whole = was.whole;
    standing = was.standing;
    point = point_more past now (version_of n past) (version_of n now) r.searchers.point s.lasts s.version was.point;
    seen = omega (arith, was.seen, s.lasts.generation);
  }

  pub node_same : (log now : Log) (n : ℕ) (x : Node D) → Same (printed log) (printed now) n → KeepsHanded log now → NodeShows cells log n x → NodeShows cells now n x
  node_same log now n (Primary p) s out was = primary_same log now n p s out was
  node_same log now n (Replica r) s out was = replica_same (printed log) (printed now) n r s was
  node_same log now n (Down d) s out was = record { down = s.running ∙ was.down; other = s.primary ∙ was.other }

  -- a node that the entry does not move stays as it was
  pub place_same : (log now : Log) (n : ℕ) (x : NodePlace D) → Same (printed log) (printed now) n → Fewer (printed log) (printed now) n → KeepsHanded log now → PlaceShows cells log n x → PlaceShows cells now n x
  place_same log now n x s f out was = record {
    node_shows = node_same log now n x.node s out was.node_shows;
    tickets = holds_same (printed log) (printed now) n (tickets_of x.node) x.held.items s.lasts f was.tickets;
  }

  -- ---- all of them

  -- one place was taken out of its number, and another was put there
  pub record PutsBack (old mid new : List (Option (NodePlace D))) (n : ℕ) (x : NodePlace D) : Type 0 where
    pub count : length mid ≡ length old
    pub taken : (m : ℕ) → place_of mid m ≡ (if n == m then None else place_of old m)
    pub again : length new ≡ length mid
    pub there : (m : ℕ) → place_of new m ≡ (if n == m then Some x else place_of mid m)

  -- the other places show what they showed
  each_moved : (size : ℕ) (log now : Log) (old mid new : List (Option (NodePlace D))) (n : ℕ) (x : NodePlace D)
      → ((m : ℕ) → (n == m) ≡ false → Same (printed log) (printed now) m) → ((m : ℕ) → (n == m) ≡ false → Fewer (printed log) (printed now) m) → KeepsHanded log now → PutsBack old mid new n x → PlaceShows cells now n x
      → ((m : ℕ) → IsNode size m → IsSomeAnd (place_of old m) (PlaceShows cells log m)) → (m : ℕ) → IsNode size m → IsSomeAnd (place_of new m) (PlaceShows cells now m)
  each_moved size log now old mid new n x others fewers out put mine was m node =
      by_test (n == m) (λ b. (n == m) ≡ b → IsSomeAnd (place_of new m) (PlaceShows cells now m))
      (λ here q. subst (λ (o : Option (NodePlace D)). IsSomeAnd o (PlaceShows cells now m)) (sym (put.there m ∙ ap (λ (b : Bool). if b then Some x else place_of mid m) here))
      (subst (λ (k : ℕ). PlaceShows cells now k x) (eqb-true n m here) mine))
      (λ apart q. subst (λ (o : Option (NodePlace D)). IsSomeAnd o (PlaceShows cells now m))
      (sym ((put.there m ∙ ap (λ (b : Bool). if b then Some x else place_of mid m) apart) ∙ (put.taken m ∙ ap (λ (b : Bool). if b then None else place_of old m) apart)))
      (some_then (place_of old m) (was m node) (λ y shows. place_same log now m y (others m apart) (fewers m apart) out shows)))
      refl

  pub shows_moved : (size : ℕ) (log now : Log) (old mid new : List (Option (NodePlace D))) (n : ℕ) (x : NodePlace D)
      → ((m : ℕ) → (n == m) ≡ false → Same (printed log) (printed now) m) → ((m : ℕ) → (n == m) ≡ false → Fewer (printed log) (printed now) m) → KeepsHanded log now → ((at : At) → start_entry at (printed now) ≡ None → flush_out at now ≡ None)
      → PutsBack old mid new n x → PlaceShows cells now n x → Shows cells log size old → Shows cells now size new
  shows_moved size log now old mid new n x others fewers out handed put mine was = record {
    some = was.some;
    count = put.again ∙ (put.count ∙ was.count);
    each = each_moved size log now old mid new n x others fewers out put mine was.each;
    handed = handed;
  }

  -- the entry moved no place
  pub shows_still : (size : ℕ) (log now : Log) (places : List (Option (NodePlace D)))
      → ((m : ℕ) → Same (printed log) (printed now) m) → ((m : ℕ) → Fewer (printed log) (printed now) m) → KeepsHanded log now → ((at : At) → start_entry at (printed now) ≡ None → flush_out at now ≡ None)
      → Shows cells log size places → Shows cells now size places
  shows_still size log now places others fewers out handed was = record {
    some = was.some;
    count = was.count;
    each = λ m node. some_then (place_of places m) (was.each m node) (λ y shows. place_same log now m y (others m) (fewers m) out shows);
    handed = handed;
  }

  -- ---- in the terms of a call

  -- what a cluster that runs shows, in the words of its callers
  pub was : (r : Run) (ended : Bool) (size : ℕ) (log : Log) (places : List (Option (NodePlace D)))
      → {left : Rest} → record { ended = ended; nodes = size; log = log; rest = left } ≡ r → r.ended ≡ false → (ended ≡ false → Shows cells log size places) → Shows cells r.log r.nodes places
  was r ended size log places e f g = subst (λ (x : Run). x.ended ≡ false → Shows cells x.log x.nodes places) e g f

  pub now_is : (log now : Log) (size size' : ℕ) (places : List (Option (NodePlace D))) → now ≡ log → size' ≡ size → Shows cells log size places → Shows cells now size' places
  now_is log now size size' places e f s = subst (λ (x : Log × ℕ). Shows cells x.0 x.1 places) (λ i. (sym e i, sym f i)) s

  -- the entry that a call appended moved no place
  pub noted : (r : Run) (ended : Bool) (b0 b1 b2 : Sheet) (places : List (Option (NodePlace D))) (at : At) (e : Event)
      → {left : Rest} → record { ended = ended; nodes = b0.nodes; log = b0.log; rest = left } ≡ r → r.ended ≡ false → (ended ≡ false → Shows cells b0.log b0.nodes places)
      → b1.log ≡ b0.log → b1.nodes ≡ b0.nodes → b2.log ≡ shown at e ∷ b1.log → b2.nodes ≡ b1.nodes → IsLegalPast b1.nodes (printed b1.log) → AreInTurn (printed b1.log)
      → KeepsRule r.nodes (printed r.log) at e → publish_in_flight (printed r.log) ≢ Some at → ((p : Option NodeNo) (m : ℕ) → moves e p m ≡ false) → ((m : ℕ) → moves_tickets e m ≡ false)
      → Shows cells b2.log b2.nodes places
  noted r ended b0 b1 b2 places at e view running shows e1 n1 e2 n2 legal turns keeps line still apart =
      let s = was r ended b0.nodes b0.log places view running shows in
      let log : b1.log ≡ r.log = e1 ∙ ap (λ (x : Run). x.log) view in
      let size : b1.nodes ≡ r.nodes = n1 ∙ ap (λ (x : Run). x.nodes) view in
      let all : IsLegalPast r.nodes (printed r.log) = subst (λ (x : Log × ℕ). IsLegalPast x.1 (printed x.0)) (λ i. (log i, size i)) legal in
      let order : AreInTurn (printed r.log) = subst (λ (l : Log). AreInTurn (printed l)) log turns in
      now_is (shown at e ∷ r.log) b2.log r.nodes b2.nodes places (e2 ∙ ap (λ (l : Log). shown at e ∷ l) log) (n2 ∙ size)
      (shows_still r.nodes r.log (shown at e ∷ r.log) places
      (λ m. same r.nodes m (printed r.log) at e all order keeps (λ _. line) (still (primary_of (printed r.log)) m)) (λ m. fewer (printed r.log) at e m (apart m)) (λ a h is. is)
      (λ a none. s.handed a (start_back a (record { at = at; event = e }) (printed r.log) none)) s)

  -- the entry that a call appended moved one place
  pub moved_at : (r : Run) (ended : Bool) (b0 b1 b2 : Sheet) (old mid new : List (Option (NodePlace D))) (at : At) (e : Event) (n : ℕ) (x y : NodePlace D)
      → {left : Rest} → record { ended = ended; nodes = b0.nodes; log = b0.log; rest = left } ≡ r → r.ended ≡ false → (ended ≡ false → Shows cells b0.log b0.nodes old)
      → b1.log ≡ b0.log → b1.nodes ≡ b0.nodes → b2.log ≡ shown at e ∷ b1.log → b2.nodes ≡ b1.nodes → IsLegalPast b1.nodes (printed b1.log) → AreInTurn (printed b1.log)
      → KeepsRule r.nodes (printed r.log) at e
      → ((m : ℕ) → (n == m) ≡ false → is_at (primary_of (printed r.log)) m ≡ true → start_entry at (printed r.log) ≢ Some Publishing)
      → ((m : ℕ) → (n == m) ≡ false → moves e (primary_of (printed r.log)) m ≡ false) → ((m : ℕ) → (n == m) ≡ false → moves_tickets e m ≡ false)
      → PutsBack old mid new n x → IsNode r.nodes n → place_of old n ≡ Some y
      → (IsLegalPast r.nodes (printed r.log) → AreInTurn (printed r.log) → PlaceShows cells r.log n y → PlaceShows cells (shown at e ∷ r.log) n x)
      → Shows cells b2.log b2.nodes new
  moved_at r ended b0 b1 b2 old mid new at e n x y view running shows e1 n1 e2 n2 legal turns keeps line other far put node there mine =
      let s = was r ended b0.nodes b0.log old view running shows in
      let log : b1.log ≡ r.log = e1 ∙ ap (λ (z : Run). z.log) view in
      let size : b1.nodes ≡ r.nodes = n1 ∙ ap (λ (z : Run). z.nodes) view in
      let all : IsLegalPast r.nodes (printed r.log) = subst (λ (z : Log × ℕ). IsLegalPast z.1 (printed z.0)) (λ i. (log i, size i)) legal in
      let order : AreInTurn (printed r.log) = subst (λ (l : Log). AreInTurn (printed l)) log turns in
      now_is (shown at e ∷ r.log) b2.log r.nodes b2.nodes new (e2 ∙ ap (λ (l : Log). shown at e ∷ l) log) (n2 ∙ size)
      (shows_moved r.nodes r.log (shown at e ∷ r.log) old mid new n x
      (λ m apart. same r.nodes m (printed r.log) at e all order keeps (λ here. not_flying r.nodes (printed r.log) at all order (line m apart here)) (other m apart)) (λ m apart. fewer (printed r.log) at e m (far m apart)) (λ a h is. is)
      (λ a none. s.handed a (start_back a (record { at = at; event = e }) (printed r.log) none)) put
      (mine all order (some_at (PlaceShows cells r.log n) (place_of old n) y there (s.each n node))) s)

  -- what was handed out of a publish stands behind its start
  out_more : (at a : At) (seg : Option SegNo) (segs : List Shown) (log : Log) (h : Handed) → flush_out a log ≡ Some h → flush_out a (kept (FlushOut at seg segs) ∷ shown at Publishing ∷ log) ≡ Some h
  out_more at a seg segs log h is = ap (λ (o : Option Handed). or_older o (handed_by a (FlushOut at seg segs))) is

  out_none : (at a : At) (seg : Option SegNo) (segs : List Shown) (log : Log) → ((b : At) → start_entry b (printed log) ≡ None → flush_out b log ≡ None)
      → start_entry a (printed (shown at Publishing ∷ log)) ≡ None → flush_out a (kept (FlushOut at seg segs) ∷ shown at Publishing ∷ log) ≡ None
  out_none at a seg segs log was none = go (same_at at a) none
    where
      go : (b : Bool) → (if b then Some Publishing else start_entry a (printed log)) ≡ None → or_older (flush_out a log) (if b then Some (record { seg = seg; segs = segs }) else None) ≡ None
      go true got = absurd (cc)
      go false got = ap (λ (o : Option Handed). or_older o None) (was a got)

  -- the entry that starts a publish moved the primary's place, and what is handed out stands behind it
  pub moved_out : (r : Run) (ended : Bool) (b0 b1 b2 b3 : Sheet) (old mid new : List (Option (NodePlace D))) (at : At) (seg : Option SegNo) (segs : List Shown) (n : ℕ) (x y : NodePlace D)
      → {left : Rest} → record { ended = ended; nodes = b0.nodes; log = b0.log; rest = left } ≡ r → r.ended ≡ false → (ended ≡ false → Shows cells b0.log b0.nodes old)
      → b1.log ≡ b0.log → b1.nodes ≡ b0.nodes → b2.log ≡ shown at Publishing ∷ b1.log → b2.nodes ≡ b1.nodes → IsLegalPast b1.nodes (printed b1.log) → AreInTurn (printed b1.log)
      → b3.log ≡ kept (FlushOut at seg segs) ∷ b2.log → b3.nodes ≡ b2.nodes
      → KeepsRule r.nodes (printed r.log) at Publishing → start_entry at (printed r.log) ≡ None
      → ((m : ℕ) → (n == m) ≡ false → is_at (primary_of (printed r.log)) m ≡ false)
      → PutsBack old mid new n x → IsNode r.nodes n → place_of old n ≡ Some y
      → (IsLegalPast r.nodes (printed r.log) → AreInTurn (printed r.log) → flush_out at r.log ≡ None → PlaceShows cells r.log n y → PlaceShows cells (kept (FlushOut at seg segs) ∷ shown at Publishing ∷ r.log) n x)
      → Shows cells b3.log b3.nodes new
  moved_out r ended b0 b1 b2 b3 old mid new at seg segs n x y view running shows e1 n1 e2 n2 legal turns e3 n3 keeps begun other put node there mine =
      let s = was r ended b0.nodes b0.log old view running shows in
      let log : b1.log ≡ r.log = e1 ∙ ap (λ (z : Run). z.log) view in
      let size : b1.nodes ≡ r.nodes = n1 ∙ ap (λ (z : Run). z.nodes) view in
      let all : IsLegalPast r.nodes (printed r.log) = subst (λ (z : Log × ℕ). IsLegalPast z.1 (printed z.0)) (λ i. (log i, size i)) legal in
      let order : AreInTurn (printed r.log) = subst (λ (l : Log). AreInTurn (printed l)) log turns in
      now_is (kept (FlushOut at seg segs) ∷ shown at Publishing ∷ r.log) b3.log r.nodes b3.nodes new
      (e3 ∙ ap (λ (l : Log). kept (FlushOut at seg segs) ∷ l) (e2 ∙ ap (λ (l : Log). shown at Publishing ∷ l) log)) (n3 ∙ (n2 ∙ size))
      (shows_moved r.nodes r.log (kept (FlushOut at seg segs) ∷ shown at Publishing ∷ r.log) old mid new n x
      (λ m apart. same r.nodes m (printed r.log) at Publishing all order keeps (λ here. absurd (true≢false (sym here ∙ other m apart))) (other m apart))
      (λ m apart. fewer (printed r.log) at Publishing m refl) (λ a h is. out_more at a seg segs r.log h is)
      (λ a none. out_none at a seg segs r.log s.handed none) put
      (mine all order (s.handed at begun) (some_at (PlaceShows cells r.log n) (place_of old n) y there (s.each n node))) s)

  -- ---- what is there

  pub slot_of : (log : Log) (size n : ℕ) (places : List (Option (NodePlace D))) → IsNode size n → Shows cells log size places → IsSlot places n
  slot_of log size n places node s = (node.0, subst (λ (k : ℕ). n ≤ k) (sym s.count) node.1)

  pub there_of : (log : Log) (size n : ℕ) (places : List (Option (NodePlace D))) → IsNode size n → Shows cells log size places → place_of places n ≢ None
  there_of log size n places node s none = subst (λ (o : Option (NodePlace D)). IsSomeAnd o (PlaceShows cells log n)) none (s.each n node)

  pub place_shows : (log : Log) (size n : ℕ) (places : List (Option (NodePlace D))) (x : NodePlace D) → IsNode size n → place_of places n ≡ Some x → Shows cells log size places → PlaceShows cells log n x
  place_shows log size n places x node there s = some_at (PlaceShows cells log n) (place_of places n) x there (s.each n node)

  -- ---- the same in the terms of a call

  pub slot_at : (r : Run) (ended : Bool) (size n : ℕ) (log : Log) (places : List (Option (NodePlace D))) → {left : Rest} → record { ended = ended; nodes = size; log = log; rest = left } ≡ r → r.ended ≡ false
      → (ended ≡ false → Shows cells log size places) → IsNode r.nodes n → IsSlot places n
  slot_at r ended size n log places view running shows node = slot_of r.log r.nodes n places node (was r ended size log places view running shows)

  -- a place that was emptied is still one
  pub slot_kept : (old mid : List (Option (NodePlace D))) (n : ℕ) → length mid ≡ length old → IsSlot old n → IsSlot mid n
  slot_kept old mid n same slot = (slot.0, subst (λ (k : ℕ). n ≤ k) (sym same) slot.1)

  pub there_at : (r : Run) (ended : Bool) (size n : ℕ) (log : Log) (places : List (Option (NodePlace D))) → {left : Rest} → record { ended = ended; nodes = size; log = log; rest = left } ≡ r → r.ended ≡ false
      → (ended ≡ false → Shows cells log size places) → IsNode r.nodes n → place_of places n ≢ None
  there_at r ended size n log places view running shows node = there_of r.log r.nodes n places node (was r ended size log places view running shows)

  pub place_at : (r : Run) (ended : Bool) (size n : ℕ) (log : Log) (places : List (Option (NodePlace D))) (x : NodePlace D) → {left : Rest} → record { ended = ended; nodes = size; log = log; rest = left } ≡ r → r.ended ≡ false
      → (ended ≡ false → Shows cells log size places) → IsNode r.nodes n → place_of places n ≡ Some x → PlaceShows cells r.log n x
  place_at r ended size n log places x view running shows node there = place_shows r.log r.nodes n places x node there (was r ended size log places view running shows)
