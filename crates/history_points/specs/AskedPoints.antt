-- What is kept of the documents that searches ask for.
use Rattle.std.specs.Prelude.{ℕ, ◌≡◌, ◌≤◌, [], ◌∷◌, length, nat_le, if◌then◌else◌, unwrap_or}
use Rattle.std.specs.Ordering.{nat_cmp}
use Rattle.std.specs.BTreeMap.{BTreeMap, get}
use Rattle.documents.specs.Documents.{documents_in, documents_after}
use Rattle.history_rules.specs.Nodes.{Past}
use Rattle.history_rules.specs.Points.{operations_written, operations_at}
use Rattle.history_points.specs.declared.asked.AskedPoint.{AskedPoint}
use Rattle.history_points.specs.declared.reached.Reached.{Reached}
use Rattle.history_points.specs.Kept.{IsSearched}

-- so many of the oldest entries
abbrev pub oldest : ℕ → Past → Past
oldest k [] = []
oldest k (e ∷ past) = if nat_le k (length past) then oldest k past else e ∷ past

-- how many of the oldest entries are noted for a version, 0 where nothing is
abbrev pub place_at : BTreeMap ℕ ℕ → ℕ → ℕ
place_at places v = unwrap_or (get nat_cmp places v) 0

-- the operations of the version are those that so many of the oldest entries wrote
pub record IsPlaceOfPoint (past : Past) (v place : ℕ) : Type 0 where
  pub low : place ≤ length past
  pub operations : operations_at past v ≡ operations_written (oldest place past)

-- the same of what is noted for each version
abbrev pub ArePlacesOfPoints : Past → BTreeMap ℕ ℕ → Type 0
ArePlacesOfPoints past places = (v : ℕ) → IsPlaceOfPoint past v (place_at places v)

-- the texts are those that so many of the oldest entries wrote
pub record IsReachedBy (past : Past) (reached : Reached) : Type 0 where
  pub low : reached.count ≤ length past
  pub kept : IsSearched reached.searched
  pub texts : documents_in reached.searched.texts ≡ documents_after (operations_written (oldest reached.count past))

-- places are noted, and the texts are those that some of the oldest entries wrote
pub record IsAskedPoint (past : Past) (asked : AskedPoint) : Type 0 where
  pub places : ArePlacesOfPoints past asked.places
  pub reached : IsReachedBy past asked.reached
