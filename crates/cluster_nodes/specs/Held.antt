-- The tickets of a node that are held.
use Rattle.std.specs.Prelude.{ℕ, List, [], ◌∷◌, Bool, false, ◌&&◌, ◌==◌, if◌then◌else◌, Option, Some, None}
use Rattle.std.specs.Option.{option_or}
use Rattle.history_rules.specs.Lines.{same_at}
use Rattle.cluster_nodes.specs.declared.held.HeldTicket.{HeldTicket}
use Rattle.cluster_nodes.specs.declared.held.HeldKey.{HeldKey}
use Rattle.cluster_nodes.specs.declared.held.HeldKey.TheVariants.{Ticket, Search}

-- the two are one ticket of a lane, or one search
abbrev pub same_key : HeldKey → HeldKey → Bool
same_key (Ticket lane t) (Ticket l u) = (lane.0 == l.0) && (t.0 == u.0)
same_key (Search at) (Search b) = same_at at b
same_key k l = false

-- the number of the ticket that is held for this; of several the last
abbrev pub held_number : List HeldTicket → HeldKey → Option ℕ
held_number [] key = None
held_number (row ∷ rows) key = option_or (held_number rows key) (if same_key row.key key then Some row.number else None)
