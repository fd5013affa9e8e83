-- What the log shows of files that were handed out to jobs.
use Rattle.std.specs.Prelude.{ℕ, [], ◌∷◌, Bool, false, ◌&&◌, ◌==◌, if◌then◌else◌, Option, Some, None, is_none}
use Rattle.nrt_base.specs.declared.numbers.At.{At}
use Rattle.disk_model.specs.Disk.{Name, Content, same}
use Rattle.history_rules.specs.Lines.{same_at}
use Rattle.history_book.specs.Log.{Log}
use Rattle.link_model.specs.declared.fate.Fate.{Fate}
use Rattle.link_model.specs.declared.fate.Fate.TheVariants.{Whole}
use Rattle.history_book.specs.declared.inner.Inner.{Inner}
use Rattle.history_book.specs.declared.inner.Inner.TheVariants.{JobBegun, FileOut}
use Rattle.history_book.specs.declared.inner.Mark.TheVariants.{Kept}

-- the entry is of this line
abbrev pub is_by : At → Option At → Bool
is_by at None = false
is_by at (Some b) = same_at at b

-- the job of a line, by its node and its number there, is this one
abbrev pub is_job : At → ℕ → ℕ → Option At → ℕ → ℕ → Bool
is_job at n number by m k = is_by at by && (n == m) && (number == k)

-- what an entry makes of what was handed out under a name to a job: its beginning takes all away
abbrev pub handed_file : At → ℕ → ℕ → Name → Inner → Content → Content
handed_file at n number q (JobBegun line m k v by) old = if is_job at n number by m.0 k then None else old
handed_file at n number q (FileOut line m k name source fate by) old = if is_job at n number by m.0 k && same name q then Some source else old
handed_file at n number q i old = old

-- the bytes that were handed out under a name, last, to a job of a line since it began
abbrev pub file_out : At → ℕ → ℕ → Name → Log → Content
file_out at n number q [] = None
file_out at n number q (Kept i ∷ log) = handed_file at n number q i (file_out at n number q log)
file_out at n number q (m ∷ log) = file_out at n number q log

-- the job of a line, or with none the copy of a merge, by its node and its number there, is this one
abbrev pub is_job_of : Option At → ℕ → ℕ → Option At → ℕ → ℕ → Bool
is_job_of (Some at) n number by m k = is_job at n number by m k
is_job_of None n number by m k = is_none by && (n == m) && (number == k)

-- what an entry makes of what becomes of the file that was handed out under a name to a job: its beginning takes all away
abbrev pub handed_fate : Option At → ℕ → ℕ → Name → Inner → Fate → Fate
handed_fate line n number q (JobBegun l m k v by) old = if is_job_of line n number by m.0 k then Whole else old
handed_fate line n number q (FileOut l m k name source fate by) old = if is_job_of line n number by m.0 k && same name q then fate else old
handed_fate line n number q i old = old

-- what becomes of the file that was handed out under a name, last, to a job of a line, or with none to a copy of a merge, since that
-- began; whole where none was
abbrev pub fate_out : Option At → ℕ → ℕ → Name → Log → Fate
fate_out line n number q [] = Whole
fate_out line n number q (Kept i ∷ log) = handed_fate line n number q i (fate_out line n number q log)
fate_out line n number q (m ∷ log) = fate_out line n number q log
