-- What lines have in flight, for which other lines and tasks wait. Workers have no lines, so nothing waits for a worker.
use Rattle.std.specs.Prelude.{ℕ, ◌≢◌, ◌⊎◌, None, IsSome, ⊤}
use Rattle.history_rules.specs.Lines.{publish_in_flight, commit_in_flight}
use Rattle.history_book.specs.Log.{Log, printed}
use Rattle.history_book.specs.Jobs.{job_at}
use Rattle.cluster_state.specs.declared.turn.Turn.{Turn}
use Rattle.cluster_state.specs.declared.turn.Turn.TheVariants.{Busy}

-- the publish of a line is in flight
abbrev pub HasPublish : Log → Type 0
HasPublish log = publish_in_flight (printed log) ≢ None

-- the commit of a line is in flight at the node
abbrev pub HasCommitAt : ℕ → Log → Type 0
HasCommitAt n log = commit_in_flight n (printed log) ≢ None

-- a line copies a point to the node
abbrev pub HasJobAt : ℕ → Log → Type 0
HasJobAt n log = IsSome (job_at n log)

-- a line has in flight what others wait for: a publish, or a commit or a copy at some node
abbrev pub HasFlight : Log → Type 0
HasFlight log = HasPublish log ⊎ ((n : ℕ) × (HasCommitAt n log ⊎ HasJobAt n log))

-- a turn waits only where this is so of the log
abbrev pub WaitsWhere : {W : Type 0} → (Log → Type 0) → Log → Turn W → Type 0
WaitsWhere holds log Busy = holds log
WaitsWhere holds log turn = ⊤
