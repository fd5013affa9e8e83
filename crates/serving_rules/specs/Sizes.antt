-- How many documents there are where a line is refused for too many segments.
use Rattle.std.specs.Prelude.{ℕ, ◌≡◌, length}
use Rattle.history_rules.specs.declared.cause.Cause.TheVariants.{TooManySegments}
use Rattle.history_rules.specs.declared.entry.Event.{Event}
use Rattle.history_rules.specs.declared.entry.Event.TheVariants.{Refused}
use Rattle.history_rules.specs.Nodes.{Past, newest_version}
use Rattle.history_rules.specs.Points.{documents_at}

-- where the entry refuses a line for too many segments, the newest version has so many documents
abbrev pub CountsNewest : Past → Event → ℕ → Type 0
CountsNewest past e count = e ≡ Refused TooManySegments → count ≡ length (documents_at past (newest_version past))
