-- What the deleter's calls do to the counts and to the directory, in the words that the crates above carry from call to call.
use Rattle.std.specs.Prelude.{◌≡◌, ◌≢◌, ◌⊎◌, ℕ, ◌+◌, ◌<◌, Bool, true, false, ◌||◌, List, [], ◌∷◌, Some, None, Result, OnOk, OnErr}
use Rattle.disk_model.specs.Disk.{Name, Content, Cell, Cells, is_among, may_leave}
use Rattle.file_deleter.specs.Holdings.{Holdings, count_of, is_due, times, IsWhole}

-- one name over tries of due removals, due before and after: where no removal was due nothing changed; a due one is done and the
-- file is gone, or it is still due and the file reads as before; and a crash may leave nothing in the place of what it left before
pub record Retries (had has : Bool) (old new : Cell) : Type 0 where
  pub kept : had ≡ false → (has ≡ false) × (new ≡ old)
  pub tried : had ≡ true → ((has ≡ false) × (new.now ≡ None)) ⊎ ((has ≡ true) × (new.now ≡ old.now))
  pub crash : (c : Content) → may_leave new c ≡ true → (may_leave old c ≡ true) ⊎ (c ≡ None)

-- What calls that write or rename only these names do: a whole directory stays whole, a file that is counted before and after reads the same,
-- and under other names such a file stays as it was, nothing appears and a crash leaves nothing new.
pub record KeepsFiles (written : List Name) (old new : Holdings) (before after : Cells) : Type 0 where
  pub whole : IsWhole before old → IsWhole after new
  pub kept : (q : Name) → is_among written q ≡ false → 0 < count_of old q → 0 < count_of new q → after q ≡ before q
  pub reads : (q : Name) → 0 < count_of old q → 0 < count_of new q → (after q).now ≡ (before q).now
  pub crash : (q : Name) (c : Content) → is_among written q ≡ false → may_leave (after q) c ≡ true → (may_leave (before q) c ≡ true) ⊎ (c ≡ None)
  pub none : (q : Name) → is_among written q ≡ false → (before q).now ≡ None → (after q).now ≡ None

-- What any call does that is lent the deleter and a value that holds files: as many counts come and go as the value names more and fewer files,
-- and what the call does not write is kept. `from` and `to` are the names of the value before and after.
pub record MovesCounts (written from to : List Name) (old new : Holdings) (before after : Cells) : Type 0 where
  pub balance : (q : Name) → count_of new q + times from q ≡ count_of old q + times to q
  pub keeps : KeepsFiles written old new before after

-- What a step of a commit does, which may change what a crash leaves of every file: as many counts come and go as its names change,
-- a whole directory stays whole, a file that is counted before and after reads the same, and a file appears only under a name that it then has.
pub record Shifts (from to : List Name) (old new : Holdings) (before after : Cells) : Type 0 where
  pub balance : (q : Name) → count_of new q + times from q ≡ count_of old q + times to q
  pub whole : IsWhole before old → IsWhole after new
  pub reads : (q : Name) → 0 < count_of old q → 0 < count_of new q → (after q).now ≡ (before q).now
  pub none : (q : Name) → times to q ≡ 0 → (before q).now ≡ None → (after q).now ≡ None

-- one more count of each name
pub record HoldsFiles (names : List Name) (old new : Holdings) (cells : Cells) : Type 0 where
  pub counts : (q : Name) → count_of new q ≡ count_of old q + times names q
  pub keeps : KeepsFiles [] old new cells cells

-- one count less of each name
pub record LetsGo (names : List Name) (old new : Holdings) (before after : Cells) : Type 0 where
  pub counts : (q : Name) → count_of new q + times names q ≡ count_of old q
  pub keeps : KeepsFiles [] old new before after

-- a release of names, name by name
pub record Releases (names : List Name) (old new : Holdings) (before after : Cells) : Type 0 where
  pub counts : (q : Name) → count_of new q + times names q ≡ count_of old q
  -- the file of a name that is still counted stays as it is
  pub held : (q : Name) → 0 < count_of new q → after q ≡ before q
  -- so does that of a name that was neither given back nor due
  pub others : (q : Name) → (is_among names q || is_due old q) ≡ false → after q ≡ before q
  -- what is counted no more, or was due, is gone, or its removal is due
  pub gone : (q : Name) → (is_among names q || is_due old q) ≡ true → count_of new q ≡ 0 → is_due new q ≡ false → (after q).now ≡ None
  -- what is due was given back to its last count or was due before, and reads as before
  pub due : (q : Name) → is_due new q ≡ true → ((is_among names q || is_due old q) ≡ true) × (count_of new q ≡ 0) × ((after q).now ≡ (before q).now)
  -- a crash may leave nothing in the place of what it left before
  pub crash : (q : Name) (c : Content) → may_leave (after q) c ≡ true → (may_leave (before q) c ≡ true) ⊎ (c ≡ None)

-- a file that was written and counted once, or not
pub record Creates {T E : Type 0} (name : Name) (bytes : List ℕ) (old new : Holdings) (before after : Cells) (result : Result T E) : Type 0 where
  pub counts : OnOk result ((q : Name) → count_of new q ≡ count_of old q + times (name ∷ []) q)
  pub same : OnErr result ((q : Name) → count_of new q ≡ count_of old q)
  pub reads : OnOk result ((after name).now ≡ Some bytes)
  pub due : (q : Name) → name ≢ q → is_due new q ≡ is_due old q
  pub keeps : KeepsFiles (name ∷ []) old new before after

-- the count of one name moves to another
pub record RenamesCount (from to : Name) (old new : Holdings) : Type 0 where
  pub at_from : count_of new from ≡ 0
  pub at_to : count_of new to ≡ count_of old from
  pub others : (q : Name) → from ≢ q → to ≢ q → count_of new q ≡ count_of old q

-- a file that was renamed, with its count, or not
pub record Renames {T E : Type 0} (from to : Name) (old new : Holdings) (before after : Cells) (result : Result T E) : Type 0 where
  pub moves : OnOk result (RenamesCount from to old new)
  pub same : OnErr result ((q : Name) → count_of new q ≡ count_of old q)
  pub reads : OnOk result ((after to).now ≡ (before from).now)
  pub due : (q : Name) → to ≢ q → is_due new q ≡ is_due old q
  pub keeps : KeepsFiles (from ∷ to ∷ []) old new before after
