-- The names of the files of the log.
use Rattle.std.specs.Prelude.{◌≡◌, ℕ, ◌<◌, ◌^◌, List, ◌++◌, codes}
use Rattle.file_names.specs.Base36.{base36_of}

-- a number that a record may have in the log
abbrev pub IsRecordNumber : ℕ → Type 0
IsRecordNumber n = (0 < n) × (n < 2 ^ 32)

-- the name of the file of the record with this number: `log_S`
abbrev pub log_name_of : ℕ → List ℕ
log_name_of n = codes "log_" ++ base36_of n

-- the name that the file has until it is renamed: `pending_log_S`
abbrev pub pending_log_name_of : ℕ → List ℕ
pending_log_name_of n = codes "pending_log_" ++ base36_of n

-- the name is this one, of a record's number
abbrev pub IsLogName : ℕ → List ℕ → Type 0
IsLogName n name = IsRecordNumber n × (name ≡ log_name_of n)

-- the name is this pending one, of a record's number
abbrev pub IsPendingLogName : ℕ → List ℕ → Type 0
IsPendingLogName n name = IsRecordNumber n × (name ≡ pending_log_name_of n)
