-- The deleter's own tables, and what they keep.
use Rattle.std.specs.Prelude.{◌≡◌, ◌≢◌, if◌then◌else◌, nat_eq, ℕ, ◌+◌, ◌≤◌, ◌&&◌, not, nat_lt, true, List, [], None, is_some, vec_len}
use Rattle.std.specs.Map.{lookup}
use Rattle.std.specs.Vec.{vec_capacity}
use Rattle.std.specs.Cmp.Lexicographic.{slice_cmp}
use Rattle.std.specs.Ordering.{nat_cmp}
use Rattle.std.specs.List.Sorted.{IsStrictlySortedBy, IsSorted}
use Rattle.indexmap.specs.IndexMap.{spare, index_map_len}
use Rattle.disk_model.specs.Disk.{Name, Cells, same, is_among}
use Rattle.file_deleter.specs.declared.tally.Tally.{Tally}
use Rattle.file_deleter.specs.Removals.{Directory, Removals}
use Rattle.file_deleter.specs.Moves.{Retries}
use Rattle.file_deleter.specs.Holdings.{Holdings, count_in, count_of, is_due, times}

-- what the tables hold
abbrev pub holdings_of : Tally → Holdings
holdings_of t = record { counts = t.counts.entries; due = t.due.items; room = t.places }

-- a table of counts: each count in it is above 0
pub record IsPositive (counts : List (Name × ℕ)) : Type 0 where
  pub each : (q : Name) → is_some (lookup (same q) counts) ≡ nat_lt 0 (count_in counts q)

-- one count more of each name in the list, as often as it stands there
abbrev pub CountsMore : List Name → (old new : List (Name × ℕ)) → Type 0
CountsMore names old new = (q : Name) → count_in new q ≡ count_in old q + times names q

-- one count less of each name in the list, as often as it stands there
abbrev pub CountsFewer : List Name → (old new : List (Name × ℕ)) → Type 0
CountsFewer names old new = (q : Name) → count_in new q + times names q ≡ count_in old q

-- due names ascend, and none is counted
pub record IsInOrder (counts : List (Name × ℕ)) (due : List Name) : Type 0 where
  pub positive : IsPositive counts
  pub apart : (q : Name) → is_among due q ≡ true → lookup (same q) counts ≡ None
  pub ascending : IsStrictlySortedBy (slice_cmp nat_cmp) due

-- there is room for this many more names, and for every counted name to become due
pub record HasRoom (t : Tally) (places : ℕ) : Type 0 where
  pub counts : places ≤ spare t.counts
  pub due : vec_len t.due + (index_map_len t.counts + places) ≤ vec_capacity t.due
  pub fallen : index_map_len t.counts + places ≤ vec_capacity t.fallen

-- between calls: all is in order, there is room, and no name is falling
pub record IsTallySound (t : Tally) : Type 0 where
  pub order : IsInOrder t.counts.entries t.due.items
  pub room : HasRoom t t.places
  pub fallen : t.fallen.items ≡ []

-- a try of the due removal of one name
pub record Retried (name : Name) (old new : Holdings) (before after : Cells) : Type 0 where
  pub counts : (q : Name) → count_of new q ≡ count_of old q
  pub tries : (q : Name) → Retries (is_due old q) (is_due new q) (before q) (after q)
  pub others : (q : Name) → name ≢ q → (is_due new q ≡ is_due old q) × (after q ≡ before q)

-- a release, step by step: the counts fall; the names that are counted no more are tried in order, then those that were due; what failed is due
pub record Released (names : List Name) (old new : Holdings) (before after : Directory) : Type 0 where
  pub fallen : List Name
  pub first_failed : List Name
  pub then_failed : List Name
  pub between : Directory
  pub order : IsInOrder old.counts old.due
  pub counts : (q : Name) → count_of new q + times names q ≡ count_of old q
  pub positive : IsPositive new.counts
  pub fell : (q : Name) → times fallen q ≡ (if is_among names q && nat_eq (count_of new q) 0 then 1 else 0)
  pub sorted : IsSorted (slice_cmp nat_cmp) fallen
  pub first : Removals fallen first_failed before between
  pub second : Removals old.due then_failed between after
  pub merged : (q : Name) → times new.due q ≡ times then_failed q + times first_failed q
  pub now_sorted : IsSorted (slice_cmp nat_cmp) new.due

-- one count more of each name; what is counted is no longer due
pub record Adds (names : List Name) (old new : Holdings) : Type 0 where
  pub counts : (q : Name) → count_of new q ≡ count_of old q + times names q
  pub due : (q : Name) → is_due new q ≡ (is_due old q && not (nat_lt 0 (count_of new q)))
