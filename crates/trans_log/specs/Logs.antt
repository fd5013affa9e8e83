-- The log in a directory: which records its files are, and what a crash leaves of them.
use Rattle.std.specs.Prelude.{◌≡◌, ◌≢◌, ◌⊎◌, ℕ, suc, ◌<◌, true, List, [], ◌∷◌, ◌++◌, length, Option, Some, None, IsSomeAnd, OnOk, Result, Ok, Err}
use Rattle.disk_model.specs.Disk.{Name, Content, Cell, Cells, Image, IsImage, IsKept, may_leave}
use Rattle.disk_model.specs.Faults.{Plans}
use Rattle.disk_model.specs.declared.dir.DirFault.{DirFault}
use Rattle.disk_model.specs.declared.dir.DirFault.TheVariants.{Memory as DirMemory, Failed as DirFailed}
use Rattle.trans_log.specs.declared.record.LogOp.{LogOp}
use Rattle.trans_log.specs.declared.log.LogFault.{LogFault}
use Rattle.trans_log.specs.declared.log.LogFault.TheVariants.{Failed}
use Rattle.trans_log.specs.Records.{IsRecordFile}
use Rattle.trans_log.specs.Names.{IsRecordNumber, log_name_of, pending_log_name_of}

-- P holds of each record with its number, where the first has the number after n
abbrev pub Numbered : (ℕ → LogOp → Type 0) → ℕ → List LogOp → Type 0
Numbered P n [] = Unit {0}
Numbered P n (r ∷ records) = P (suc n) r × Numbered P (suc n) records

-- a content is the file of the record with this number
abbrev pub IsFileContent : ℕ → LogOp → Content → Type 0
IsFileContent number r content = (bytes : List ℕ) × (content ≡ Some bytes) × IsRecordFile number r bytes

-- the file of the record with this number is in the image
abbrev pub HasRecord : Image → ℕ → LogOp → Type 0
HasRecord image number r = IsFileContent number r (image (log_name_of number))

-- an image reads as these records, in order: each has its file, and no other number has one
pub record ReadsRecords (image : Image) (records : List LogOp) : Type 0 where
  pub each : Numbered (HasRecord image) 0 records
  pub none : (n : ℕ) → length records < n → IsRecordNumber n → image (log_name_of n) ≡ None

-- each image reads as the records, in order, followed at most by the one in flight
pub record ImagesRead (cells : Cells) (records : List LogOp) (flight : Option LogOp) : Type 0 where
  pub each : (image : Image) → IsImage cells image → ReadsRecords image records ⊎ IsSomeAnd flight (λ r. ReadsRecords image (records ++ r ∷ []))

-- ---- the same by cells, which is carried from call to call
-- a crash leaves the file of the record with this number as it is
abbrev pub KeepsRecord : Cells → ℕ → LogOp → Type 0
KeepsRecord cells number r = (bytes : List ℕ) × IsRecordFile number r bytes × ((o : Content) → may_leave (cells (log_name_of number)) o ≡ true → o ≡ Some bytes)

-- a crash leaves each record, maybe the one in flight after them, and no other
pub record IsLogSafe (cells : Cells) (records : List LogOp) (flight : Option LogOp) : Type 0 where
  pub kept : Numbered (KeepsRecord cells) 0 records
  pub next : IsRecordNumber (suc (length records)) → (o : Content) → may_leave (cells (log_name_of (suc (length records)))) o ≡ true
      → (o ≡ None) ⊎ IsSomeAnd flight (λ r. IsFileContent (suc (length records)) r o)
  pub beyond : (n : ℕ) → suc (length records) < n → IsRecordNumber n → (o : Content) → may_leave (cells (log_name_of n)) o ≡ true → o ≡ None

-- each image has under each name of the log what the directory reads there
abbrev pub SameLogs : Cells → Type 0
SameLogs cells = (n : ℕ) → IsRecordNumber n → (o : Content) → may_leave (cells (log_name_of n)) o ≡ true → o ≡ (cells (log_name_of n)).now

-- no file has the pending name of a number above n
abbrev pub IsClear : Cells → ℕ → Type 0
IsClear cells n = (m : ℕ) → n < m → IsRecordNumber m → (cells (pending_log_name_of m)).now ≡ None

-- a log that goes on: the directory reads as its records, and no pending file is in the way of the next
pub record IsOpenLog (cells : Cells) (records : List LogOp) : Type 0 where
  pub reads : ReadsRecords (λ q. (cells q).now) records
  pub clear : IsClear cells (length records)

-- ---- one append
-- what the directory answered, by the log's answer
abbrev pub dir_answer_of : Result (Unit {0}) LogFault → Result (Unit {0}) DirFault
dir_answer_of (Ok x) = Ok x
dir_answer_of (Err Failed) = Err DirFailed
dir_answer_of (Err e) = Err DirMemory

-- the record that a crash may show after an append that answered so: none after Ok
abbrev pub in_flight : {T E : Type 0} → Result T E → LogOp → Option LogOp
in_flight (Ok _) r = None
in_flight (Err _) r = Some r

-- the file of the record stands under the name, synced
abbrev pub IsWritten : ℕ → LogOp → Cell → Type 0
IsWritten number r cell = (bytes : List ℕ) × IsRecordFile number r bytes × (cell.now ≡ Some bytes) × (cell.synced ≡ true)

-- the file was renamed: no file has its pending name, and a crash leaves it under its own
abbrev pub IsPublished : ℕ → LogOp → Cells → Type 0
IsPublished number r cells = ((cells (pending_log_name_of number)).now ≡ None) × KeepsRecord cells number r

-- a rename that was refused, or its sync: a crash leaves under the name what it left before, or the file
abbrev pub MayShow : ℕ → LogOp → Cells → Cells → Type 0
MayShow number r before after = (o : Content) → may_leave (after (log_name_of number)) o ≡ true → (may_leave (before (log_name_of number)) o ≡ true) ⊎ IsFileContent number r o

-- names that are neither of the record's two read as before, and a crash leaves nothing more of them
abbrev pub KeepsOthers : ℕ → Cells → Cells → Type 0
KeepsOthers number before after = (q : Name) → log_name_of number ≢ q → pending_log_name_of number ≢ q → IsKept (before q) (after q)

-- what an append does to the directory, by its answer
pub record Appends {T E : Type 0} (number : ℕ) (r : LogOp) (before after : Cells) (result : Result T E) : Type 0 where
  pub others : KeepsOthers number before after
  pub shows : MayShow number r before after
  pub done : OnOk result (IsPublished number r after)

-- no fault is planned for the directory, as far as its plans are known
abbrev pub IsCalm : Option Plans → Type 0
IsCalm None = ⊥
IsCalm (Some p) = (p.once ≡ 0) × (p.stop ≡ 0)
