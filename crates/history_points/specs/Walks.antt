-- What a walk over a history knows of the entries that it has passed.
use Rattle.std.specs.Prelude.{ℕ, ◌≡◌, ◌==◌, ◌++◌, if◌then◌else◌, List, [], ◌∷◌, map, unwrap_or, ⊤, Some}
use Rattle.std.specs.Ordering.{nat_cmp}
use Rattle.std.specs.BTreeMap.{BTreeMap, IsOrdered, get}
use Rattle.nrt_base.specs.declared.doc.Doc.{Doc}
use Rattle.nrt_base.specs.declared.numbers.At.{At}
use Rattle.nrt_base.specs.declared.numbers.Gen.{Gen}
use Rattle.nrt_base.specs.declared.numbers.NodeNo.{NodeNo}
use Rattle.nrt_base.specs.declared.numbers.Version.{Version}
use Rattle.history_rules.specs.declared.entry.Event.{Event}
use Rattle.history_rules.specs.declared.entry.Event.TheVariants.{Publishing, Published}
use Rattle.known_past.specs.Lines.{line_cmp}
use Rattle.history_points.specs.declared.published.Walk.{Walk}
use Rattle.documents.specs.Documents.{key_cmp, document_of, documents_after}
use Rattle.history_rules.specs.Nodes.{Past, primary_of, version_of}
use Rattle.history_rules.specs.Lines.{start_entry}
use Rattle.history_rules.specs.Points.{operations_written, operations_at_start, documents_at, points_of}

-- what the publish of a line found written, nothing where there is no note
abbrev pub begun_at : BTreeMap (ℕ × ℕ) (List Doc) → At → List Doc
begun_at begun at = unwrap_or (get line_cmp begun (at.lane.0, at.line.0)) []

-- the documents noted for a version, none where there is no note
abbrev pub made_at : BTreeMap ℕ (List Doc) → ℕ → List Doc
made_at made v = unwrap_or (get nat_cmp made v) []

-- the version noted for a node, the first where there is no note
abbrev pub searched_by : BTreeMap ℕ ℕ → ℕ → ℕ
searched_by searched n = unwrap_or (get nat_cmp searched n) 1

-- what the rule of a publish says of its line's start
abbrev pub IsStarted : Past → At → Event → Type 0
IsStarted past at (Published g v) = start_entry at past ≡ Some Publishing
IsStarted past at e = ⊤

-- a walk knows what the entries that it has passed show
pub record KnowsPast (past : Past) (walk : Walk) : Type 0 where
  pub ordered : IsOrdered key_cmp walk.texts
  pub written : map document_of walk.texts.entries ≡ documents_after (operations_written past)
  pub begun : (at : At) → start_entry at past ≡ Some Publishing → begun_at walk.begun at ≡ documents_after (operations_at_start at past)
  pub made : (v : ℕ) → made_at walk.made v ≡ documents_at past v
  pub searched : (n : ℕ) → searched_by walk.searched n ≡ version_of n past
  pub primary : walk.primary ≡ primary_of past
  pub points : walk.points.items ≡ points_of past

-- a walk takes the documents of the version that a node searches, as the point of its promotion and as what is written from then on
pub record Promotes (old new : Walk) (n : NodeNo) (g : Gen) (v : Version) : Type 0 where
  pub ordered : IsOrdered key_cmp new.texts
  pub written : map document_of new.texts.entries ≡ made_at old.made (searched_by old.searched n.0)
  pub begun : new.begun ≡ old.begun
  pub made : (u : ℕ) → made_at new.made u ≡ (if v.0 == u then made_at old.made (searched_by old.searched n.0) else made_at old.made u)
  pub searched : (m : ℕ) → searched_by new.searched m ≡ (if n.0 == m then v.0 else searched_by old.searched m)
  pub primary : new.primary ≡ Some n
  pub points :
      new.points.items ≡ old.points.items ++ record { generation = g; version = v; docs = made_at old.made (searched_by old.searched n.0) } ∷ []
