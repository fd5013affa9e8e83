-- What a drawing remembers of a run: since when each node is as it is, and which lines and tickets are open.
use Rattle.std.specs.Prelude.{ℕ, ◌≡◌, List, [], ◌∷◌, ◌++◌, map, length, Bool, true, false, ◌&&◌, ◌||◌, not, ◌==◌, nat_lt, if◌then◌else◌, Option}
use Rattle.std.specs.List.{filter, list_any, range_with_len}
use Rattle.nrt_base.specs.declared.numbers.At.{At}
use Rattle.nrt_base.specs.declared.numbers.NodeNo.{NodeNo}
use Rattle.nrt_base.specs.declared.numbers.TicketNo.{TicketNo}
use Rattle.history_rules.specs.declared.entry.Entry.{Entry}
use Rattle.history_rules.specs.declared.entry.Event.{Event}
use Rattle.history_rules.specs.declared.entry.Event.TheVariants.{Published, Switched, Opened, Closed, Crashed, Reopened, Promoted}
use Rattle.history_rules.specs.Nodes.{Past, over, is_at, primary_of}
use Rattle.history_rules.specs.Lines.{same_at, is_start, is_reply}
use Rattle.run_picture.specs.Views.{heads_of, view_of, heads_by, view_by}
use Rattle.run_drawing.specs.declared.scene.Band.{Band}
use Rattle.run_drawing.specs.declared.scene.OpenBar.{OpenBar}
use Rattle.run_drawing.specs.declared.scene.Kind.TheVariants.{Line, Ticket}
use Rattle.run_drawing.specs.declared.scene.Scene.{Scene}

-- the event changes what is shown of a node: its version, the newest, whether it runs, or who is the primary
abbrev pub changes_node : Event → Option NodeNo → ℕ → Bool
changes_node (Published g v) primary n = true
changes_node (Promoted m g f v) primary n = true
changes_node (Crashed m) primary n = (m.0 == n) || is_at primary m.0
changes_node (Reopened m v) primary n = m.0 == n
changes_node (Switched m v) primary n = m.0 == n
changes_node e primary n = false

-- the place since which a node is as it is
abbrev pub since_of : Past → ℕ → ℕ
since_of past n = over 0 (λ e past since. if changes_node e.event (primary_of past) n then length past else since) past

-- what is shown of a node, and since which place
abbrev pub band_of : Past → ℕ → Band
band_of past n = record { view = view_of past n; since = since_of past n }

-- that of each node, of so many
abbrev pub bands_of : ℕ → Past → List Band
bands_of size past = map (band_of past) (range_with_len 1 size)

-- the bar is that of a line
abbrev pub is_line_of : At → OpenBar → Bool
is_line_of at bar = elim bar.kind [ Line ↦ same_at bar.at at | Ticket n t v ↦ false ]

-- an opened ticket has a bar, where fewer than 32 are drawn
abbrev pub ticket_begun : Entry → ℕ → List OpenBar → List OpenBar
ticket_begun e place bars = elim e.event [
  | Opened n t v ↦
      if not (t.0 == 0) && nat_lt (length bars) 32
      then bars ++ (record { at = e.at; kind = Ticket n t v; since = place }) ∷ [] else bars
  | _ ↦ bars
]

-- the line of an entry has a bar, from its first entry to its reply
abbrev pub line_begun : Entry → ℕ → List OpenBar → List OpenBar
line_begun e place bars =
    if (is_start e.event || is_reply e.event) && not (list_any (is_line_of e.at) bars)
    then bars ++ (record { at = e.at; kind = Line; since = place }) ∷ [] else bars

-- the bars that are open, with those that an entry opens
abbrev pub bars_begun : Entry → ℕ → List OpenBar → List OpenBar
bars_begun e place bars = line_begun e place (ticket_begun e place bars)

-- an entry of this lane closes the ticket, or crashes its node
abbrev pub ends_ticket : Event → Bool → NodeNo → TicketNo → Bool
ends_ticket (Closed m u) own n t = own && (u.0 == t.0)
ends_ticket (Crashed m) own n t = m.0 == n.0
ends_ticket e own n t = false

-- a bar ends: a line with its reply; a ticket where it is closed, or its node crashes
abbrev pub is_over : Entry → OpenBar → Bool
is_over e bar = elim bar.kind [
  | Line ↦ is_reply e.event && same_at bar.at e.at
  | Ticket n t v ↦ ends_ticket e.event (bar.at.lane.0 == e.at.lane.0) n t
]

-- the bars that are open
abbrev pub bars_of : Past → List OpenBar
bars_of = over [] (λ e past bars. filter (λ bar. not (is_over e bar)) (bars_begun e (length past) bars))

-- what is remembered is what the entries show
pub record ShowsScene (size : ℕ) (past : Past) (scene : Scene) : Type 0 where
  pub heads : scene.heads ≡ heads_of past
  pub bands : scene.bands.items ≡ bands_of size past
  pub bars : scene.bars.items ≡ bars_of past

abbrev pub band_by : Event → Option NodeNo → ℕ → Band → Band
band_by e primary place band =
    record { view = view_by e primary band.view; since = if changes_node e primary band.view.node.0 then place else band.since }

-- the bars that an entry opens are open, and all else is as before
pub record AreBarsBegun (e : Entry) (place : ℕ) (old new : Scene) : Type 0 where
  pub heads : new.heads ≡ old.heads
  pub bands : new.bands.items ≡ old.bands.items
  pub bars : new.bars.items ≡ bars_begun e place old.bars.items

-- the entry happened, once its bars were open
pub record IsStepped (e : Entry) (place : ℕ) (old new : Scene) : Type 0 where
  pub heads : new.heads ≡ heads_by e.event old.heads
  pub bands : new.bands.items ≡ map (band_by e.event old.heads.primary place) old.bands.items
  pub bars : new.bars.items ≡ filter (λ bar. not (is_over e bar)) old.bars.items
