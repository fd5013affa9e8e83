-- What is known of the entries before a place.
use Rattle.std.specs.Prelude.{ℕ, ◌≡◌}
use Rattle.nrt_base.specs.declared.numbers.At.{At}
use Rattle.history_rules.specs.Nodes.{Past}
use Rattle.history_rules.specs.Tickets.{last_opened}
use Rattle.history_facts.specs.Generations.{ShowsDrawn}
use Rattle.history_tables.specs.Numbering.{NumbersTell}
use Rattle.history_tables.specs.Openings.{TicketRows, opened_of}
use Rattle.known_past.specs.declared.past.KnownPast.{KnownPast}
use Rattle.known_past.specs.Lines.{line_known, LineIsKnown}
use Rattle.known_past.specs.Nodes.{AreNodesKnown}
use Rattle.known_past.specs.Versions.{VersionsAreKnown}

-- what is known of each ticket is what these entries show
abbrev pub TicketsAreKnown : Past → TicketRows → Type 0
TicketsAreKnown past tickets = (lane t : ℕ) → opened_of tickets.rows lane t ≡ last_opened lane t past

-- what is known is what these entries show
pub record IsKnown (past : Past) (known : KnownPast) : Type 0 where
  pub numbers : NumbersTell past known.numbers
  pub lines : (at : At) → LineIsKnown past at (line_known known.lines at)
  pub nodes : AreNodesKnown past known.nodes
  pub tickets : TicketsAreKnown past known.tickets
  pub versions : VersionsAreKnown past known.versions
  pub drawn : ShowsDrawn past known.drawn
