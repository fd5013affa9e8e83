-- What a primary holds, and what is true of it.
use Rattle.std.specs.Prelude.{◌≡◌, ◌≤◌, ◌<◌, true, is_some, ℕ, List, [], ◌∷◌, ◌++◌, length, Option, Some, None, IfSome}
use Rattle.std.specs.List.{Contains, AllByRecursion}
use Rattle.disk_model.specs.Disk.{Name, Cells, reads_of}
use Rattle.nrt_base.specs.declared.numbers.SegNo.{SegNo}
use Rattle.copy_state.specs.States.{AreShortNames}
use Rattle.searcher_switch.specs.Searching.{searcher_names}
use Rattle.searcher_switch.specs.Node.{IsWholeNode, KeepsBytes}
use Rattle.searcher_switch.specs.Standing.{IsStanding}
use Rattle.index_primary.specs.declared.parts.PrimaryParts.{PrimaryParts}
use Rattle.index_primary.specs.declared.parts.Publish.{Publish}
use Rattle.index_primary.specs.Held.{IsHeld, IsUndrawn, AreUndrawn, AreNumbered}
use Rattle.index_primary.specs.States.{state_names}
use Rattle.index_primary.specs.Merges.{merge_names, merge_loose, merge_filled, IsMerging, AreApartMerges}

-- what holds beside the searchers and the writer's infos: the copy states that are out, and merges in flight
abbrev pub rest_names : {D : Type 0} → PrimaryParts D → List Name
rest_names p = state_names p.states ++ merge_names p.merges

-- the names, with repeats, that a primary's holders name, beside those of the commits
abbrev pub primary_names : {D : Type 0} → PrimaryParts D → List Name
primary_names p = searcher_names p.searchers ++ (p.names ++ rest_names p)

-- the number of a segment that is drawn and is not there yet
abbrev pub loose_in : Option SegNo → List ℕ
loose_in None = []
loose_in (Some seg) = seg.0 ∷ []

-- that of the publish in flight
abbrev pub publish_loose : Option Publish → List ℕ
publish_loose None = []
publish_loose (Some f) = loose_in f.seg

-- those of merges
abbrev pub rest_loose : {D : Type 0} → PrimaryParts D → List ℕ
rest_loose p = merge_loose p.merges

-- the numbers of segments that are drawn and that the writer's infos do not have yet
abbrev pub loose_of : {D : Type 0} → PrimaryParts D → List ℕ
loose_of p = publish_loose p.publish ++ rest_loose p

-- those of them whose parts are written: of merges before their cut-over
abbrev pub filled_of : {D : Type 0} → PrimaryParts D → List ℕ
filled_of p = merge_filled p.merges

-- the name is that of a file of the writer that is not written yet
abbrev pub IsUnwritten : {D : Type 0} → PrimaryParts D → Name → Type 0
IsUnwritten p q = IsUndrawn p.infos (loose_of p) (filled_of p) q

-- a primary: its files are counted as its holders name them, its commits are of documents, and so are the writer's infos and the point that is searched;
-- nobody holds a file that is not written yet
pub record IsPrimary {D : Type 0} (cells : D → Cells) (p : PrimaryParts D) : Type 0 where
  pub node : IsWholeNode (cells p.dir) p.files (primary_names p) p.commits
  pub standing : IsStanding (reads_of (cells p.dir)) p.commits
  pub writer : IsHeld (reads_of (cells p.dir)) p.infos p.segs p.names
  pub searched : IsHeld (reads_of (cells p.dir)) p.point_infos p.searchers.point.readers p.searchers.point.names
  pub version : p.point_infos.version ≡ p.searchers.point.version
  pub versions : p.infos.version ≡ p.point_infos.version
  pub undrawn : AreUndrawn p.files p.infos (loose_of p) (filled_of p)
  pub numbered : AreNumbered p.infos (loose_of p)
  pub waits : IfSome p.publish (λ f. f.count ≤ length p.waiting)
  -- a publish that drew a name has a place for its segment
  pub few : IfSome p.publish (λ f. is_some f.seg ≡ true → length p.segs < 256)
  -- and no merge drew that name
  pub alone : IfSome p.publish (λ f. (n : ℕ) → Contains (loose_in f.seg) n → Contains (rest_loose p) n → ⊥)
  -- each merge in flight is one of the writer's segments, and no two have anything in common
  pub merging : AllByRecursion (IsMerging (reads_of (cells p.dir)) p.infos.segs p.segs) p.merges
  pub merges_apart : AreApartMerges p.merges
  -- the files of the merges that were cut over
  pub completed : AreShortNames p.completed

-- a file that is held before and after reads the same
abbrev pub KeepsHeldBytes : {D : Type 0} → (D → Cells) → PrimaryParts D → PrimaryParts D → Type 0
KeepsHeldBytes cells old new = KeepsBytes old.files new.files (cells old.dir) (cells new.dir)
