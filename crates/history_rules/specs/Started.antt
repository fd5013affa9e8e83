-- What a line that has started stands on: its nodes, its source, and what became of them since.
use Rattle.std.specs.Prelude.{ℕ, ◌≡◌, [], ◌∷◌, Bool, true, false, ◌&&◌, ◌||◌, not, ◌==◌, nat_lt, nat_le, if◌then◌else◌, Option, Some}
use Rattle.std.specs.List.{list_any}
use Rattle.nrt_base.specs.declared.numbers.At.{At}
use Rattle.nrt_base.specs.declared.numbers.NodeNo.{NodeNo}
use Rattle.nrt_base.specs.declared.numbers.TicketNo.{TicketNo}
use Rattle.nrt_base.specs.declared.numbers.Version.{Version}
use Rattle.history_rules.specs.declared.cause.Cause.{Cause}
use Rattle.history_rules.specs.declared.cause.Cause.TheVariants.{Lost}
use Rattle.history_rules.specs.declared.entry.Event.{Event}
use Rattle.history_rules.specs.declared.entry.Event.TheVariants.{Publishing, Copying, Settling, Opened, Asking, Committing}
use Rattle.history_rules.specs.Nodes.{Past, is_at, primary_of, primary_crashes, is_running, crashes}
use Rattle.history_rules.specs.Lines.{same_at, is_start, is_answered}

-- the line started as a search with this node, ticket and version
abbrev pub StartedSearch : NodeNo → TicketNo → Version → Option Event → Type 0
StartedSearch n t v (Some (Opened m u w)) = (m ≡ n) × (u ≡ t) × (w ≡ v)
StartedSearch n t v (Some (Asking m u w)) = (m ≡ n) × (u ≡ t) × (w ≡ v)
StartedSearch n t v e = ⊥

-- a node of a line that started with this event after this past: the replica of a copy, each replica of a settle, the primary of a publish
abbrev pub is_node_of : ℕ → Past → Event → ℕ → Bool
is_node_of size start Publishing n = is_at (primary_of start) n
is_node_of size start (Copying m v) n = m.0 == n
is_node_of size start (Settling v) n = nat_le 1 n && nat_le n size && is_running n start && not (is_at (primary_of start) n)
is_node_of size start (Opened m t v) n = m.0 == n
is_node_of size start (Asking m t v) n = m.0 == n
is_node_of size start (Committing m v) n = m.0 == n
is_node_of size start e n = false

-- the source of such a line: the primary at the start of a copy or a settle
abbrev pub is_source_of : Past → Event → ℕ → Bool
is_source_of start (Copying m v) n = is_at (primary_of start) n
is_source_of start (Settling v) n = is_at (primary_of start) n
is_source_of start e n = false

-- the node of such a line, or its source, has crashed since; of a settle its source
abbrev pub is_lost : Past → Past → Event → Bool
is_lost past start Publishing = not (primary_crashes past == primary_crashes start)
is_lost past start (Copying n v) = not (crashes n.0 past == crashes n.0 start) || not (primary_crashes past == primary_crashes start)
is_lost past start (Settling v) = not (primary_crashes past == primary_crashes start)
is_lost past start (Opened n t v) = not (crashes n.0 past == crashes n.0 start)
is_lost past start (Asking n t v) = not (crashes n.0 past == crashes n.0 start)
is_lost past start (Committing n v) = not (crashes n.0 past == crashes n.0 start)
is_lost past start e = false

-- the version is above the one in a start entry
abbrev pub is_above : ℕ → Event → Bool
is_above v (Copying n w) = nat_lt w.0 v
is_above v (Settling w) = nat_lt w.0 v
is_above v (Opened n t w) = nat_lt w.0 v
is_above v (Asking n t w) = nat_lt w.0 v
is_above v (Committing n w) = nat_lt w.0 v
is_above v e = false

-- since the start entry of a line another line started a copy at this version to such a node
abbrev pub is_copied_beside : (ℕ → Bool) → ℕ → At → Past → Bool
is_copied_beside node v at [] = false
is_copied_beside node v at (e ∷ past) =
    if is_start e.event && same_at e.at at then false
    else elim e.event [ Copying n w ↦ node n.0 && (w.0 == v) | _ ↦ false ] && not (same_at e.at at)
    || is_copied_beside node v at past

-- another line started a settle, and had no reply before this line's start
abbrev pub is_settled_beside : Past → At → Past → Bool
is_settled_beside start at past =
    list_any (λ e. elim e.event [ Settling v ↦ true | _ ↦ false ]
    && not (same_at e.at at) && not (is_answered e.at start)) past

-- the line started as a copy
abbrev pub is_copy : Event → Bool
is_copy (Copying n v) = true
is_copy e = false

-- the cause is that the line is lost
abbrev pub is_loss : Cause → Bool
is_loss Lost = true
is_loss cause = false
