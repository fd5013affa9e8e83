-- What the directory and the deleter have of a commit in flight.
use Rattle.std.specs.Prelude.{◌≡◌, ℕ, true, false, List, Some, None, is_some}
use Rattle.disk_model.specs.Disk.{Name, Cell, Cells, is_among}
use Rattle.file_deleter.specs.Holdings.{Holdings, count_of, is_due, AreThere}
use Rattle.commit_steps.specs.declared.states.Flight.{Flight}
use Rattle.commit_steps.specs.Flights.{own_name, pending_name, IsFlight}

-- no file has the name, nobody holds it, and no removal of it is due
pub record IsFree (cells : Cells) (holdings : Holdings) (q : Name) : Type 0 where
  pub none : (cells q).now ≡ None
  pub unheld : count_of holdings q ≡ 0
  pub clear : is_due holdings q ≡ false

-- the bytes stand under the name, synced
pub record IsSynced (cell : Cell) (bytes : List ℕ) : Type 0 where
  pub now : cell.now ≡ Some bytes
  pub synced : cell.synced ≡ true

-- each of these files is there, synced
pub record AreSynced (cells : Cells) (files : List Name) : Type 0 where
  pub each : (q : Name) → is_among files q ≡ true → (is_some (cells q).now ≡ true) × ((cells q).synced ≡ true)

-- before the first call: the files are there, and both names of the commit are free
pub record StandsBegun (cells : Cells) (holdings : Holdings) (f : Flight) : Type 0 where
  pub flight : IsFlight f
  pub files : AreThere cells f.commit.files
  pub pending : IsFree cells holdings (pending_name f.commit)
  pub own : IsFree cells holdings (own_name f.commit)

-- then the files are synced
pub record StandsSynced (cells : Cells) (holdings : Holdings) (f : Flight) : Type 0 where
  pub flight : IsFlight f
  pub files : AreSynced cells f.commit.files
  pub pending : IsFree cells holdings (pending_name f.commit)
  pub own : IsFree cells holdings (own_name f.commit)

-- then the commit's bytes stand under its pending name, which the commit alone holds
pub record StandsWritten (cells : Cells) (holdings : Holdings) (f : Flight) : Type 0 where
  pub flight : IsFlight f
  pub files : AreSynced cells f.commit.files
  pub pending : (cells (pending_name f.commit)).now ≡ Some f.bytes
  pub once : count_of holdings (pending_name f.commit) ≡ 1
  pub own : IsFree cells holdings (own_name f.commit)

-- then they are synced
pub record StandsPending (cells : Cells) (holdings : Holdings) (f : Flight) : Type 0 where
  pub flight : IsFlight f
  pub files : AreSynced cells f.commit.files
  pub pending : IsSynced (cells (pending_name f.commit)) f.bytes
  pub once : count_of holdings (pending_name f.commit) ≡ 1
  pub own : IsFree cells holdings (own_name f.commit)

-- then the names are synced
pub record StandsNamed (cells : Cells) (holdings : Holdings) (f : Flight) : Type 0 where
  pub flight : IsFlight f
  pub pending : IsSynced (cells (pending_name f.commit)) f.bytes
  pub once : count_of holdings (pending_name f.commit) ≡ 1
  pub own : IsFree cells holdings (own_name f.commit)

-- then they stand under the commit's own name
pub record StandsRenamed (cells : Cells) (holdings : Holdings) (f : Flight) : Type 0 where
  pub flight : IsFlight f
  pub own : IsSynced (cells (own_name f.commit)) f.bytes
