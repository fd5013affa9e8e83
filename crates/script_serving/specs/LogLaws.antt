-- What a log is worth: in a history that serves a script with a log, no accepted operation is lost.
use Rattle.std.specs.Prelude.{ℕ, ◌≡◌, [], ◌∷◌, reverse, ⊤}
use mathlib.Core.List.{IsPrefix}
use Rattle.nrt_base.specs.declared.numbers.At.{At}
use Rattle.documents.specs.Documents.{documents_after}
use Rattle.history_rules.specs.declared.entry.Event.{Event}
use Rattle.history_rules.specs.declared.entry.Event.TheVariants.{Published}
use Rattle.history_rules.specs.declared.entry.History.{History}
use Rattle.history_rules.specs.Nodes.{Past}
use Rattle.history_rules.specs.Lines.{before_start}
use Rattle.history_rules.specs.Points.{documents_at, operations_at, operations_written}
use Rattle.script_serving.specs.Replays.{logged_operations}

-- the operations of each point are the first of those that the log has
abbrev pub PointsAreLogged : History → Type 0
PointsAreLogged h = (v : ℕ) → IsPrefix (operations_at (reverse h.entries) v) (logged_operations (reverse h.entries))

-- all operations that the log has are written, in order, on which the next point will be made
abbrev pub NothingIsLost : History → Type 0
NothingIsLost h = operations_written (reverse h.entries) ≡ logged_operations (reverse h.entries)

-- where the entry is a publish, its point is what all operations leave that were logged before its start
abbrev pub IsPublishWhole : At → Event → Past → Type 0
IsPublishWhole at (Published g v) past =
    documents_at (record { at = at; event = Published g v } ∷ past) v.0 ≡ documents_after (logged_operations (before_start at past))
IsPublishWhole at e past = ⊤

-- the point of each publish is what all operations leave that were logged before its start
abbrev pub PublishesAreWhole : Past → Type 0
PublishesAreWhole [] = ⊤
PublishesAreWhole (e ∷ past) = IsPublishWhole e.at e.event past × PublishesAreWhole past
