-- A directory, as what reads now under each name and what a crash may leave there.
use Rattle.std.specs.Prelude.{◌≡◌, ℕ, Bool, true, false, ◌||◌, not, if◌then◌else◌, nat_eq, List, find, Option, Some, None, IsSome, is_some, is_none, Result, Ok, Err}
use Rattle.std.specs.Cmp.Lexicographic.{pointwise}
use Rattle.std.specs.List.{list_any}
use Rattle.disk_model.specs.declared.dir.DirFault.{DirFault}
use Rattle.disk_model.specs.declared.dir.DirFault.TheVariants.{Failed}

-- the bytes of a file's name
abbrev pub Name : Type 0
Name = List ℕ

-- what stands under a name: nothing, or bytes
abbrev pub Content : Type 0
Content = Option (List ℕ)

-- the test whether two names are one
abbrev pub same : Name → Name → Bool
same = pointwise nat_eq

-- the test whether a name is among names
abbrev pub is_among : List Name → Name → Bool
is_among names q = list_any (λ x. same x q) names

-- the test whether a content is this one
abbrev pub is_content : Content → Content → Bool
is_content None o = is_none o
is_content (Some bytes) None = false
is_content (Some bytes) (Some other) = pointwise nat_eq bytes other

-- one name: what reads now, whether that is synced (false where nothing reads), and the past outcomes, as the test whether a content is one of them
pub record Cell : Type 0 where
  pub now : Content
  pub synced : Bool
  pub past : Content → Bool

-- the outcome of a current state: nothing of nothing, its bytes of synced bytes, any bytes of others
abbrev pub left_by : Content → Bool → Content → Bool
left_by None synced = is_none
left_by (Some bytes) true = is_content (Some bytes)
left_by (Some bytes) false = is_some

-- a crash may leave this content: it is a past outcome, or one of the current state
abbrev pub may_leave : Cell → Content → Bool
may_leave c o = c.past o || left_by c.now c.synced o

-- a directory: a cell under each name
abbrev pub Cells : Type 0
Cells = Name → Cell

-- a table of names with another entry under this one
abbrev pub put : {X : Type 0} → (Name → X) → Name → X → Name → X
put table name x q = if same name q then x else table q

-- ---- what each call does to a cell
-- bytes were written: they read, they are not synced, and the state before is a past outcome
abbrev pub written : List ℕ → Cell → Cell
written bytes c = record { now = Some bytes; synced = false; past = may_leave c }

-- a write failed: any bytes are an outcome
abbrev pub half_written : Cell → Cell
half_written c = record { now = c.now; synced = c.synced; past = λ o. c.past o || is_some o }

-- the file was removed: nothing reads, and the state before is a past outcome
abbrev pub removed : Cell → Cell
removed c = record { now = None; synced = false; past = may_leave c }

-- a removal failed: nothing is an outcome
abbrev pub half_removed : Cell → Cell
half_removed c = record { now = c.now; synced = c.synced; past = λ o. c.past o || is_none o }

-- a file was renamed to this name: the source's state is here, and the state before is a past outcome
abbrev pub replaced : Cell → Cell → Cell
replaced from c = record { now = from.now; synced = from.synced; past = may_leave c }

-- a rename to this name failed: the outcome of the source's state is an outcome
abbrev pub half_replaced : Cell → Cell → Cell
half_replaced from c = record { now = c.now; synced = c.synced; past = λ o. c.past o || left_by from.now from.synced o }

-- the bytes were synced
abbrev pub flushed : Cell → Cell
flushed c = record { now = c.now; synced = true; past = c.past }

-- the names were synced: there are no past outcomes
abbrev pub settled : Cell → Cell
settled c = record { now = c.now; synced = c.synced; past = λ _. false }

-- ---- what each call does to the directory, by its answer
module _ {T : Type 0} where
  -- after a write, as after each call: an answer that is neither Ok nor Failed leaves all as before
  abbrev pub after_write : Cells → Name → List ℕ → Result T DirFault → Cells
  after_write cells name bytes (Ok _) = put cells name (written bytes (cells name))
  after_write cells name bytes (Err Failed) = put cells name (half_written (cells name))
  after_write cells name bytes (Err e) = cells

  -- after a removal
  abbrev pub after_remove : Cells → Name → Result T DirFault → Cells
  after_remove cells name (Ok _) = put cells name (removed (cells name))
  after_remove cells name (Err Failed) = put cells name (half_removed (cells name))
  after_remove cells name (Err e) = cells

  -- after a rename
  abbrev pub after_rename : Cells → Name → Name → Result T DirFault → Cells
  after_rename cells from to (Ok _) = put (put cells to (replaced (cells from) (cells to))) from (removed (cells from))
  after_rename cells from to (Err Failed) = put (put cells to (half_replaced (cells from) (cells to))) from (half_removed (cells from))
  after_rename cells from to (Err e) = cells

  -- after a sync of these names: one that fails syncs none
  abbrev pub after_sync : Cells → List Name → Result T DirFault → Cells
  after_sync cells names (Ok _) = λ q. if is_among names q then flushed (cells q) else cells q
  after_sync cells names (Err e) = cells

  -- after a sync of the names: one that fails takes no past outcome away
  abbrev pub after_sync_names : Cells → Result T DirFault → Cells
  after_sync_names cells (Ok _) = λ q. settled (cells q)
  after_sync_names cells (Err e) = cells

-- ---- what reads
-- what stands under each name, as a crash leaves it
abbrev pub Image : Type 0
Image = Name → Content

-- what reads now under each name
abbrev pub reads_of : Cells → Image
reads_of cells q = (cells q).now

-- the test whether something stands under a name
abbrev pub is_there : Image → Name → Bool
is_there image q = is_some (image q)

-- the first of these names under which nothing stands
abbrev pub first_missing : Image → List Name → Option Name
first_missing image names = find (λ q. not (is_there image q)) names

-- something reads under both names
abbrev pub BothRead : Cells → Name → Name → Type 0
BothRead cells a b = IsSome (cells a).now × IsSome (cells b).now

-- ---- crashes

-- an image: each name, chosen by itself, has a past outcome or one of the current state
abbrev pub IsImage : Cells → Image → Type 0
IsImage cells image = (q : Name) → may_leave (cells q) (image q) ≡ true

-- the directory that starts from an image: all is synced, and there are no past outcomes
abbrev pub restarted : Image → Cells
restarted image q = record { now = image q; synced = is_some (image q); past = λ _. false }

-- the directory starts again from one of its images
abbrev pub HasCrashed : Cells → Cells → Type 0
HasCrashed before after = (image : Image) × IsImage before image × (after ≡ restarted image)

-- a cell over calls that do not name it: it reads the same, and a crash leaves nothing more
pub record IsKept (old new : Cell) : Type 0 where
  pub now : new.now ≡ old.now
  pub fewer : (c : Content) → may_leave new c ≡ true → may_leave old c ≡ true
