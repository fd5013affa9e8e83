-- What a reader has of what is told.
use Rattle.std.specs.Prelude.{ℕ, ◌≡◌, ◌⊎◌, ◌++◌, [], ◌∷◌, Some}
use Rattle.nrt_base.specs.declared.numbers.At.{At}
use Rattle.nrt_base.specs.declared.numbers.Version.{Version}
use Rattle.history_rules.specs.declared.entry.Event.{Event}
use Rattle.history_book.specs.declared.inner.Inner.{Inner}
use Rattle.history_book.specs.declared.inner.Inner.TheVariants.{JobBegun}
use Rattle.history_book.specs.declared.inner.Mark.TheVariants.{Kept}
use Rattle.history_book.specs.Log.{Log, shown}
use Rattle.history_book.specs.Told.{IsSo, IsTold}
use Rattle.history_tables.specs.declared.jobs.JobRow.{JobRow}
use Rattle.history_book.specs.Jobs.{job_of}

-- what a reader has of it, at each place of the log
abbrev pub ReadsTold : Type 0
ReadsTold = (newer older : Log) (at : At) (e : Event) → IsTold (newer ++ shown at e ∷ older) → IsSo older at e

-- the entry begins a job for this version at this node
abbrev pub BeginsJobFor : ℕ → Version → Inner → Type 0
BeginsJobFor n v (JobBegun line m number (Some w) (Some by)) = (m.0 ≡ n) × (w ≡ v)
BeginsJobFor n v i = ⊥

-- such an entry stands there
abbrev pub HasJob : ℕ → Version → Log → Type 0
HasJob n v [] = ⊥
HasJob n v (Kept i ∷ log) = BeginsJobFor n v i ⊎ HasJob n v log
HasJob n v (m ∷ log) = HasJob n v log

-- where the last job of a lane was overtaken, a job for that version began at its node
abbrev pub LaterWasBegun : Type 0
LaterWasBegun = (lane : ℕ) (log : Log) (row : JobRow) (v : Version) → job_of lane log ≡ Some row → row.later ≡ Some v → HasJob row.job.node.0 v log
