-- What printed entries tell of inner work, and that it is so.
use Rattle.std.specs.Prelude.{ℕ, IsSomeAnd, ◌≡◌, ◌≢◌, ◌<◌, ◌⊎◌, ◌+◌, [], ◌∷◌, Bool, true, false, Option, Some, None, ⊤, length, if◌then◌else◌}
use Rattle.nrt_base.specs.declared.numbers.At.{At}
use Rattle.nrt_base.specs.declared.numbers.NodeNo.{NodeNo}
use Rattle.nrt_base.specs.declared.numbers.Version.{Version}
use Rattle.history_rules.specs.declared.cause.Cause.TheVariants.{Cancelled}
use Rattle.history_rules.specs.declared.entry.Event.{Event}
use Rattle.history_rules.specs.declared.entry.Event.TheVariants.{Publishing, Published, Promoted, Crashed, Drained, Refused}
use Rattle.history_rules.specs.Nodes.{Past, is_at, primary_of}
use Rattle.history_rules.specs.Lines.{same_at, start_entry}
use Rattle.history_rules.specs.Points.{cut_of}
use Rattle.history_book.specs.declared.inner.Inner.{Inner}
use Rattle.history_book.specs.declared.inner.Inner.TheVariants.{TaskEnd, MergeEnd}
use Rattle.history_book.specs.declared.inner.Mark.TheVariants.{Shown, TaskFault, Kept}
use Rattle.history_book.specs.Log.{Log, printed}
use Rattle.history_book.specs.Jobs.{job_of}

-- one where a task has ended that counts for one of these drain lines
abbrev pub ends_task_by : (At → Bool) → Inner → ℕ
ends_task_by lines (TaskEnd line seg (Some at) step true) = if lines at then 1 else 0
ends_task_by lines i = 0

-- how many tasks have ended that count for these drain lines
abbrev pub counted_by : (At → Bool) → Log → ℕ
counted_by lines [] = 0
counted_by lines (Kept i ∷ log) = ends_task_by lines i + counted_by lines log
counted_by lines (m ∷ log) = counted_by lines log

-- how many tasks have ended that count for this one
abbrev pub counted_for : At → Log → ℕ
counted_for at log = counted_by (λ b. same_at b at) log

-- whether a cut-over is one since the last point still, after this event: one that makes a point, or ends a reign, ends that
abbrev pub stays_cut : Event → Option NodeNo → Bool → Bool
stays_cut (Published g v) p old = false
stays_cut (Promoted n g f v) p old = false
stays_cut (Crashed n) p old = if is_at p n.0 then false else old
stays_cut e p old = old

-- the entry cuts a merge over
abbrev pub cuts_over : Inner → Bool
cuts_over (MergeEnd seg cut) = cut
cuts_over i = false

-- a merge was cut over since the last point, under the primary that runs
abbrev pub cut_since : Log → Bool
cut_since [] = false
cut_since (Shown e ∷ log) = stays_cut e.event (primary_of (printed log)) (cut_since log)
cut_since (TaskFault e ∷ log) = cut_since log
cut_since (Kept i ∷ log) = if cuts_over i then true else cut_since log

-- the last job of the line was overtaken: a job for this version was the first to begin at its node since
pub record IsOvertaken (at : At) (v : Version) (log : Log) : Type 0 where
  pub job : IsSomeAnd (job_of at.lane.0 log) (λ row. (row.job.at ≡ at) × (row.later ≡ Some v))

-- What an entry of the line tells of inner work is so: a drain counts its tasks, a line that has started was cancelled by the job that overtook its own,
-- and a publish takes an operation or a merge that was cut over since the last point.
abbrev pub IsSo : Log → At → Event → Type 0
IsSo log at (Drained done most) = done ≡ counted_for at log
IsSo log at (Refused (Cancelled v)) = start_entry at (printed log) ≢ None → IsOvertaken at v log
IsSo log at Publishing = (0 < length (cut_of (printed log))) ⊎ (cut_since log ≡ true)
IsSo log at e = ⊤

-- each printed entry tells what is so
abbrev pub IsTold : Log → Type 0
IsTold [] = ⊤
IsTold (Shown e ∷ log) = IsSo log e.at e.event × IsTold log
IsTold (m ∷ log) = IsTold log
