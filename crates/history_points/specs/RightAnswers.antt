-- What is noted of the answers of a history.
use Rattle.std.specs.Prelude.{ℕ, ◌≡◌, ◌<◌, ◌≤◌, ◌↔◌, List, Bool, Option, Some, ⊤, length, reverse, take, get_or, IsTrue}
use Rattle.std.specs.Ordering.{nat_cmp}
use Rattle.std.specs.BTreeMap.{BTreeMap, get}
use Rattle.documents.specs.Ranking.{scan_of}
use Rattle.history_rules.specs.declared.entry.Entry.{Entry}
use Rattle.history_rules.specs.declared.entry.Event.{Event}
use Rattle.history_rules.specs.declared.entry.Event.TheVariants.{Answered}
use Rattle.history_rules.specs.Nodes.{Past}
use Rattle.history_rules.specs.Points.{operations_written, operations_at, documents_at}
use Rattle.history_points.specs.declared.right.Request.{Request}

-- the operations of the version of a search, behind so many entries, are those that so many of the first ones wrote
pub record IsRequest (entries : List Entry) (r : Request) : Type 0 where
  pub within : r.at < length entries
  pub low : r.place ≤ length entries
  pub operations : operations_at (reverse (take r.at entries)) r.version.0 ≡ operations_written (reverse (take r.place entries))

-- what is noted of the answer behind so many entries
abbrev pub told_at : BTreeMap ℕ Bool → ℕ → Option Bool
told_at told at = get nat_cmp told at

-- an answer is the scan of the documents of its version
abbrev pub IsRightAnswer : Past → Event → Type 0
IsRightAnswer past (Answered n t v query answer) = answer ≡ scan_of (documents_at past v.0) query
IsRightAnswer past e = ⊤

-- what is noted of an answer is whether it is right
abbrev pub AreTold : List Entry → BTreeMap ℕ Bool → Type 0
AreTold entries told =
    (at : ℕ) (right : Bool) (e : Entry) → told_at told at ≡ Some right → at < length entries → e ≡ get_or entries at e → IsTrue right ↔ IsRightAnswer (reverse (take at entries)) e.event
