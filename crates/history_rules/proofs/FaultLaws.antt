-- A fault of a disk in front of the past breaks no rule but those that ask for none.
use Rattle.std.proofs.Common.{◌≡◌, ◌<◌, ◌||◌, ◌&&◌, ◌==◌, ℕ, List, [], ◌∷◌, Bool, true, false, true≢false, Option, Some, None, if◌then◌else◌, refl, sym, ap, ◌∙◌, subst}
use Rattle.std.proofs.lemmas.Bool.{not-true, or_right}
use Rattle.std.specs.Prelude.{IsSomeAnd, is_some, nat_lt, not}
use Rattle.std.specs.List.{list_any}
use Rattle.nrt_base.specs.SegNumbers.{segment_generation, segment_place}
use Rattle.nrt_base.specs.declared.numbers.At.{At}
use Rattle.nrt_base.specs.declared.numbers.NodeNo.{NodeNo}
use Rattle.history_rules.specs.declared.cause.Cause.{Cause}
use Rattle.history_rules.specs.declared.cause.Cause.TheVariants.{Cancelled, LinkFault, Damaged, DiskFault}
use Rattle.history_rules.specs.declared.cause.FaultKind.{FaultKind}
use Rattle.history_rules.specs.declared.cause.FaultKind.TheVariants.{Link, Damage, Disk, Stop}
use Rattle.history_rules.specs.declared.entry.Entry.{Entry}
use Rattle.history_rules.specs.declared.entry.Event.{Event}
use Rattle.history_rules.specs.declared.entry.Event.TheVariants.{Publishing, Published, Copying, Switched, Settling, Settled, Opened, Asking, Answered, Closed, Committing, Committed, Crashed, Promoted, Fault, Refused}
use Rattle.history_rules.specs.Nodes.{Past, generation_of, version_of}
use Rattle.history_rules.specs.Lines.{same_at, start_entry, before_start, highest_switched}
use Rattle.history_rules.specs.Points.{names_drawn, names_drawn_in, IsDrawnFile}
use Rattle.history_rules.specs.Tickets.{Ticket, last_opened, while_alive, open_ticket}
use Rattle.history_rules.specs.Commits.{is_disk_fault, was_searched_since}
use Rattle.history_rules.specs.Faults.{has_fault, has_file_fault, has_damage, same_kind, is_of_disk}
use Rattle.history_rules.specs.Rules.{StartedCopy, MayBreakOff, MayRefuseLine}
use Rattle.history_rules.specs.Started.{is_node_of, is_lost, is_copy}
use Rattle.history_rules.proofs.AnyLemmas.{any_more}
use Rattle.history_rules.specs.FaultLaws.{faulted, KeepsOver}

-- either way it is one
pub both : {X : Type 0} → (b : Bool) (x : X) → (if b then x else x) ≡ x
both true x = refl
both false x = refl

names_over : (g : ℕ) (past : Past) (by : At) (n : NodeNo) (kind : FaultKind) → names_drawn_in g (faulted by n kind past) ≡ names_drawn_in g past
names_over g [] by n kind = both (1 == g) 0
names_over g (e ∷ past) by n kind = cases (generation_of (e ∷ past) == g) (names_drawn (e ∷ past)) (names_drawn_in g past)
  where
    cases : (b : Bool) (x y : ℕ) → (if b then x else (if b then x else y)) ≡ (if b then x else y)
    cases true x y = refl
    cases false x y = refl

switched_over : (at : At) (past : Past) (by : At) (n : NodeNo) (kind : FaultKind) → highest_switched at (faulted by n kind past) ≡ highest_switched at past
switched_over at past by n kind = both (same_at by at) (highest_switched at past)

-- a ticket lives over it as before
pub alive_over : (past : Past) (by : At) (n : NodeNo) (kind : FaultKind) (o : Option Ticket) → while_alive (faulted by n kind past) o ≡ while_alive past o
alive_over past by n kind None = refl
alive_over past by n kind (Some ticket) = refl

ticket_over : (past : Past) (by : At) (n : NodeNo) (kind : FaultKind) (lane t : ℕ) → open_ticket lane t (faulted by n kind past) ≡ open_ticket lane t past
ticket_over past by n kind lane t = ap (λ (o : Option Ticket). if t == 0 then None else o) (alive_over past by n kind (last_opened lane t past))

drawn_over : (past : Past) (by : At) (n : NodeNo) (kind : FaultKind) (name : List ℕ) → IsDrawnFile past name → IsDrawnFile (faulted by n kind past) name
drawn_over past by n kind name d =
    (d.0, ap (λ (k : ℕ). nat_lt (segment_place d.0) k) (names_over (segment_generation d.0) past by n kind) ∙ d.1, d.2)

started_over : (past start : Past) (by : At) (m : NodeNo) (kind : FaultKind) (n v : ℕ) (begun : Option Event)
    → StartedCopy past start n v begun → StartedCopy (faulted by m kind past) start n v begun
started_over past start by m kind n v None s = s
started_over past start by m kind n v (Some (Copying k w)) s = s
started_over past start by m kind n v (Some (Settling w)) s = s
started_over past start by m kind n v (Some e) s = s

lost_over : (past start : Past) (by : At) (m : NodeNo) (kind : FaultKind) (begun : Event) → is_lost (faulted by m kind past) start begun ≡ is_lost past start begun
lost_over past start by m kind Publishing = refl
lost_over past start by m kind (Copying n v) = refl
lost_over past start by m kind (Settling v) = refl
lost_over past start by m kind (Opened n t v) = refl
lost_over past start by m kind (Asking n t v) = refl
lost_over past start by m kind (Committing n v) = refl
lost_over past start by m kind e = refl

no_file : (b k s old : Bool) → k ≡ true → old ≡ false → (((b && not k) && s) || old) ≡ false
no_file true true s old disk none = none
no_file false true s old disk none = none
no_file b false s old disk none = absurd (true≢false (sym disk))

no_link : (b s old : Bool) (kind : FaultKind) → is_of_disk kind ≡ true → (((b && same_kind Link kind) && s) || old) ≡ old
no_link true s old Disk disk = refl
no_link false s old Disk disk = refl
no_link true s old Stop disk = refl
no_link false s old Stop disk = refl
no_link b s old kind disk = absurd (true≢false (sym disk))

whole_over : (past : Past) (at by : At) (m : NodeNo) (kind : FaultKind) (n : ℕ) → is_of_disk kind ≡ true → has_file_fault n at past ≡ false
    → has_file_fault n at (faulted by m kind past) ≡ false
whole_over past at by m kind n disk none = no_file (m.0 == n) (is_of_disk kind) (same_at by at) (has_file_fault n at past) disk none

link_over : (past : Past) (at by : At) (m : NodeNo) (kind : FaultKind) (n : ℕ) → is_of_disk kind ≡ true
    → has_fault (λ k. k == n) (same_kind Link) at (faulted by m kind past) ≡ has_fault (λ k. k == n) (same_kind Link) at past
link_over past at by m kind n disk = no_link (m.0 == n) (same_at by at) (has_fault (λ k. k == n) (same_kind Link) at past) kind disk

-- whether an event is a damage at such a node, which these show to have met no fault of the link
abbrev damage_by : (ℕ → Bool) → At → Past → Event → Bool
damage_by node at all e = elim e [ Fault k met ↦ (node k.0 && not (has_fault (λ i. i == k.0) (same_kind Link) at all)) && same_kind Damage met | _ ↦ false ]

still_by : (node : ℕ → Bool) (past : Past) (at by : At) (m : NodeNo) (kind : FaultKind) → is_of_disk kind ≡ true → (e : Event)
    → damage_by node at (faulted by m kind past) e ≡ damage_by node at past e
still_by node past at by m kind disk (Fault k met) = ap (λ (b : Bool). (node k.0 && not b) && same_kind Damage met) (link_over past at by m kind k.0 disk)
still_by node past at by m kind disk e = refl

-- an entry is still one
still : (node : ℕ → Bool) (past : Past) (at by : At) (m : NodeNo) (kind : FaultKind) → is_of_disk kind ≡ true → (x : Entry)
    → (damage_by node at past x.event && same_at x.at at) ≡ true → (damage_by node at (faulted by m kind past) x.event && same_at x.at at) ≡ true
still node past at by m kind disk x there = ap (λ (b : Bool). b && same_at x.at at) (still_by node past at by m kind disk x.event) ∙ there

damage_over : (node : ℕ → Bool) (past : Past) (at by : At) (m : NodeNo) (kind : FaultKind) → is_of_disk kind ≡ true → has_damage node at past ≡ true
    → has_damage node at (faulted by m kind past) ≡ true
damage_over node past at by m kind disk there =
    or_right (((node m.0 && not (has_fault (λ i. i == m.0) (same_kind Link) at (faulted by m kind past))) && same_kind Damage kind) && same_at by at)
    (list_any (λ x. damage_by node at (faulted by m kind past) x.event && same_at x.at at) past)
    (any_more (λ x. damage_by node at past x.event && same_at x.at at) (λ x. damage_by node at (faulted by m kind past) x.event && same_at x.at at)
    (still node past at by m kind disk) past there)

break_over : (size : ℕ) (past : Past) (at by : At) (m : NodeNo) (kind : FaultKind) (start : Past) (begun : Event) (cause : Cause) → is_of_disk kind ≡ true → is_disk_fault cause ≡ false
    → MayBreakOff size past at start begun cause → MayBreakOff size (faulted by m kind past) at start begun cause
break_over size past at by m kind start begun (Cancelled v) disk other b = record { point = b.point; above = b.above; beside = b.beside }
break_over size past at by m kind start begun LinkFault disk other b =
    or_right (is_node_of size start begun m.0 && same_kind Link kind && same_at by at) (has_fault (is_node_of size start begun) (same_kind Link) at past) b
break_over size past at by m kind start begun (Damaged name) disk other b =
    (damage_over (is_node_of size start begun) past at by m kind disk b.0, drawn_over past by m kind name b.1)
break_over size past at by m kind start begun DiskFault disk other b = absurd (true≢false other)
break_over size past at by m kind start begun cause disk other b = b

refused_over : (size : ℕ) (past : Past) (at by : At) (m : NodeNo) (kind : FaultKind) (begun : Option Event) (cause : Cause) → is_of_disk kind ≡ true → (is_some begun && not (is_disk_fault cause)) ≡ true
    → MayRefuseLine size past at begun cause → MayRefuseLine size (faulted by m kind past) at begun cause
refused_over size past at by m kind None cause disk none r = absurd (true≢false (sym none))
refused_over size past at by m kind (Some begun) cause disk some r = record {
  lost = r.lost ∙ sym (lost_over past (before_start at past) by m kind begun);
  met = λ apart. break_over size past at by m kind (before_start at past) begun cause disk (not-true (is_disk_fault cause) some) (r.met apart);
  unswitched = ap (λ (k : ℕ). is_copy begun && nat_lt 0 k) (switched_over at past by m kind) ∙ r.unswitched;
}

pub keeps_over : KeepsOver
keeps_over size past at (Published g v) by m kind disk over k =
    record { started = k.started; survives = record { source = k.survives.source }; present = k.present; next = k.next; merged = k.merged }
keeps_over size past at (Copying n v) by m kind disk over k =
    record { node = k.node; replica = record { running = k.replica.running; other = k.replica.other }; source = k.source; newest = k.newest; alone = k.alone }
keeps_over size past at (Switched n v) by m kind disk over k = record {
  node = k.node;
  replica = record { running = k.replica.running; other = k.replica.other };
  made = k.made;
  above = k.above;
  latest = k.latest;
  ordered = subst (λ (h : ℕ). h < n.0) (sym (switched_over at past by m kind)) k.ordered;
  started = started_over past (before_start at past) by m kind n.0 v.0 (start_entry at past) k.started;
  whole = λ i node alive. whole_over past at by m kind i disk (k.whole i node (record { node = alive.node }));
  survives = record { node = k.survives.node };
  source = record { source = k.source.source };
}
keeps_over size past at (Settled v) by m kind disk over k = record {
  started = k.started;
  source = record { source = k.source.source };
  reached = λ i node replica alive. k.reached i node replica (record { node = alive.node });
  whole = λ i node alive. whole_over past at by m kind i disk (k.whole i node (record { node = alive.node }));
}
keeps_over size past at (Answered n t v query answer) by m kind disk over k =
    record { node = k.node; started = k.started; survives = record { node = k.survives.node }; right = k.right }
keeps_over size past at (Closed n t) by m kind disk over k = record {
  node = k.node;
  held = subst (λ (o : Option Ticket). IsSomeAnd o (λ ticket. ticket.node ≡ n.0)) (sym (ticket_over past by m kind at.lane.0 t.0)) k.held;
}
keeps_over size past at (Committed n v) by m kind disk over k = record {
  node = k.node;
  started = k.started;
  survives = record { node = k.survives.node };
  searched = or_right (version_of n.0 past == v.0) (was_searched_since at n.0 v.0 past) k.searched;
  exact = k.exact;
}
keeps_over size past at (Crashed n) by m kind disk over k = record { node = k.node; running = k.running }
keeps_over size past at (Promoted n g f v) by m kind disk over k =
    record { node = k.node; running = k.running; vacant = k.vacant; next = k.next; high = k.high; low = k.low; above = k.above }
keeps_over size past at (Refused cause) by m kind disk over k = refused_over size past at by m kind (start_entry at past) cause disk over k
keeps_over size past at e by m kind disk over k = absurd (true≢false (sym over))
