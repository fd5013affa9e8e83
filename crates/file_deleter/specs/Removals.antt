-- Removals in a row, and which of them failed.
use Rattle.std.specs.Prelude.{◌≡◌, ◌↔◌, ◌⊎◌, ◌&&◌, ◌++◌, ℕ, nat_eq, List, [], ◌∷◌, Option, None, Result, Ok, Err, IsErrOf}
use Rattle.std.specs.Cmp.Lexicographic.{slice_cmp}
use Rattle.std.specs.Ordering.{nat_cmp}
use Rattle.std.specs.List.Sorted.{IsStrictlySortedBy}
use Rattle.disk_model.specs.Disk.{Name, Cells, is_among, after_remove}
use Rattle.disk_model.specs.Faults.{Plans, FailsByPlans, CountsFaults}
use Rattle.disk_model.specs.declared.dir.DirFault.{DirFault}
use Rattle.disk_model.specs.declared.dir.DirFault.TheVariants.{Missing, Failed}
use Rattle.file_deleter.specs.Holdings.{Holdings, count_of, is_due}

-- what a directory shows: its cells, its planned faults where they are known, and how often it has failed
pub record Directory : Type 0 where
  pub cells : Cells
  pub plans : Option Plans
  pub faults : ℕ

-- what a directory of this kind shows
abbrev pub directory_of : {D : Type 0} → (D → Cells) → (D → Option Plans) → (D → ℕ) → D → Directory
directory_of cells plans faults dir = record { cells = cells dir; plans = plans dir; faults = faults dir }

-- one removal, by its answer
pub record Removes (name : Name) (answer : Result (Unit {0}) DirFault) (before after : Directory) : Type 0 where
  pub cells : after.cells ≡ after_remove before.cells name answer
  pub missing : IsErrOf answer Missing ↔ ((before.cells name).now ≡ None)
  pub plans : FailsByPlans before.plans after.plans answer
  pub faults : CountsFaults before.faults after.faults answer

-- the file is gone: it was removed, or it was not there
abbrev pub RemovesOrLacks : Name → Directory → Directory → Type 0
RemovesOrLacks name before after = Removes name (Ok tt) before after ⊎ Removes name (Err Missing) before after

-- removals of these names in this order, which of them failed, and the directory before and after; a name that is not there is gone too
pub data Removals : List Name → List Name → Directory → Directory → Type 0 where
  no_more : (here : Directory) → Removals [] [] here here
  gone : (name : Name) (names failed : List Name) (before between after : Directory)
      → Removes name (Ok tt) before between → Removals names failed between after → Removals (name ∷ names) failed before after
  absent : (name : Name) (names failed : List Name) (before between after : Directory)
      → Removes name (Err Missing) before between → Removals names failed between after → Removals (name ∷ names) failed before after
  stays : (name : Name) (names failed : List Name) (before between after : Directory)
      → Removes name (Err Failed) before between → Removals names failed between after → Removals (name ∷ names) (name ∷ failed) before after

-- how a release goes about its removals: first the names that fell to 0, ascending, then the older due ones, ascending, each once
pub record RemovesInOrder (names : List Name) (old new : Holdings) (before after : Directory) : Type 0 where
  pub fallen : List Name
  pub failed : List Name
  -- the names that fell to 0 are those of the list that are counted no more
  pub fell : (q : Name) → is_among fallen q ≡ (is_among names q && nat_eq (count_of new q) 0)
  pub ascending : IsStrictlySortedBy (slice_cmp nat_cmp) fallen
  pub removals : Removals (fallen ++ old.due) failed before after
  -- due is just what failed
  pub due : (q : Name) → is_due new q ≡ is_among failed q
