-- What an opening of the log finds.
use Rattle.std.specs.Prelude.{◌≡◌, ◌⊎◌, ℕ, suc, ◌<◌, ◌≤◌, true, false, List, [], ◌∷◌, ◌++◌, length, Option, Some, None, IsSome, IsSomeAnd}
use Rattle.codec_frame.specs.Checking.{IsFirstFault}
use Rattle.codec_frame.specs.declared.frame.FileFault.{FileFault}
use Rattle.codec_frame.specs.declared.frame.FileFault.TheVariants.{Frame, Body}
use Rattle.body_forms.specs.File.{IsOfNoValue}
use Rattle.disk_model.specs.Disk.{Name, Cells, Image, is_among}
use Rattle.trans_log.specs.declared.record.LogOp.{LogOp}
use Rattle.trans_log.specs.declared.log.LogFault.{LogFault}
use Rattle.trans_log.specs.declared.log.LogFault.TheVariants.{Memory, Failed, Broken, Gap}
use Rattle.trans_log.specs.Records.{SpellsRecord, log_file_id, record_wanted}
use Rattle.trans_log.specs.Names.{IsRecordNumber, log_name_of, IsPendingLogName}
use Rattle.trans_log.specs.Logs.{Numbered, HasRecord}

-- each number up to this one has a file
abbrev pub HasEach : Image → ℕ → Type 0
HasEach image last = (n : ℕ) → 0 < n → n ≤ last → IsSome (image (log_name_of n))

-- no file has this number, each lesser one has one, and a greater one too
pub record IsGap (image : Image) (n : ℕ) : Type 0 where
  pub number : IsRecordNumber n
  pub missing : image (log_name_of n) ≡ None
  pub before : (m : ℕ) → 0 < m → m < n → IsSome (image (log_name_of m))
  pub greater : (m : ℕ) × (n < m) × IsRecordNumber m × IsSome (image (log_name_of m))

-- bytes are refused as the file of the record with this number, with this fault
abbrev pub IsRefusedRecord : ℕ → List ℕ → FileFault → Type 0
IsRefusedRecord number bytes (Frame fault) = IsFirstFault (record_wanted number) bytes fault
IsRefusedRecord number bytes Body = IsOfNoValue SpellsRecord (record_wanted number) (λ _. log_file_id number) bytes

-- the file of this number has this name, and is refused
abbrev pub IsRefusedAt : Image → ℕ → Name → FileFault → Type 0
IsRefusedAt image number name fault = (name ≡ log_name_of number) × ((bytes : List ℕ) × (image (log_name_of number) ≡ Some bytes) × IsRefusedRecord number bytes fault)

-- the file that has this name is refused, and those of the lesser numbers are of records
pub record IsBrokenRecord (image : Image) (name : Name) (fault : FileFault) : Type 0 where
  pub before : List LogOp
  pub number : IsRecordNumber (suc (length before))
  pub reads : Numbered (HasRecord image) 0 before
  pub refused : IsRefusedAt image (suc (length before)) name fault

-- the first file that is refused has this name, and no number is missing below one that has a file
pub record IsBrokenLog (image : Image) (name : Name) (fault : FileFault) : Type 0 where
  pub first : IsBrokenRecord image name fault
  pub gapless : (n : ℕ) → IsGap image n → ⊥

-- the call was cut off: out of memory, or the disk failed
abbrev pub IsLogCutOff : LogFault → Type 0
IsLogCutOff Memory = Unit {0}
IsLogCutOff Failed = Unit {0}
IsLogCutOff (Broken name fault) = ⊥
IsLogCutOff (Gap n) = ⊥

-- the fault is this one, unless the call was cut off
abbrev pub IsFaultOrCutOff : LogFault → LogFault → Type 0
IsFaultOrCutOff want found = IsLogCutOff found ⊎ (found ≡ want)

-- what refuses the record of this number
abbrev pub SaysRecord : Image → ℕ → LogFault → Type 0
SaysRecord image number Memory = Unit {0}
SaysRecord image number Failed = Unit {0}
SaysRecord image number (Broken name fault) = IsRefusedAt image number name fault
SaysRecord image number (Gap n) = ⊥

-- what refuses one of the records, each of which has a file
abbrev pub SaysRecords : Image → LogFault → Type 0
SaysRecords image Memory = Unit {0}
SaysRecords image Failed = Unit {0}
SaysRecords image (Broken name fault) = IsBrokenRecord image name fault
SaysRecords image (Gap n) = ⊥

-- what refuses the log: a gap, or a broken file where there is no gap, if not memory or the disk
abbrev pub SaysLog : Image → LogFault → Type 0
SaysLog image Memory = Unit {0}
SaysLog image Failed = Unit {0}
SaysLog image (Broken name fault) = IsBrokenLog image name fault
SaysLog image (Gap n) = IsGap image n

-- after a crash the log has these records, or the one in flight behind them
abbrev pub IsAfterCrash : List LogOp → Option LogOp → List LogOp → Type 0
IsAfterCrash records flight found = (found ≡ records) ⊎ IsSomeAnd flight (λ r. found ≡ records ++ r ∷ [])

-- ---- what the steps of an opening find
-- the greatest number of a record that has one of the names; 0 where none has
pub record IsLastNumber (names : List Name) (last : ℕ) : Type 0 where
  pub there : (last ≡ 0) ⊎ (IsRecordNumber last × (is_among names (log_name_of last) ≡ true))
  pub above : (n : ℕ) → last < n → IsRecordNumber n → is_among names (log_name_of n) ≡ false

-- the first of the numbers up to this one that has no file
abbrev pub IsFirstGap : Image → ℕ → Option ℕ → Type 0
IsFirstGap image last None = HasEach image last
IsFirstGap image last (Some n) = (0 < n) × (n ≤ last) × (image (log_name_of n) ≡ None) × ((m : ℕ) → 0 < m → m < n → IsSome (image (log_name_of m)))

-- all names stay as they are but the pending names of records
abbrev pub KeepsButPending : Cells → Cells → Type 0
KeepsButPending before after = (q : Name) → ((m : ℕ) → IsPendingLogName m q → ⊥) → after q ≡ before q
