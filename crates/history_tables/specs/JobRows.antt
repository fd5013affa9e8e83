-- What is remembered of the jobs that copy points to nodes.
use Rattle.std.specs.Prelude.{ℕ, List, [], ◌∷◌, Bool, true, false, Option, Some, None, not, is_some, ◌&&◌, ◌==◌, nat_le, if◌then◌else◌}
use Rattle.history_rules.specs.Nodes.{Past}
use Rattle.history_tables.specs.declared.jobs.Job.{Job}
use Rattle.history_tables.specs.declared.jobs.JobRow.{JobRow}
use Rattle.history_tables.specs.declared.jobs.JobStep.{JobStep}
use Rattle.history_tables.specs.declared.jobs.JobStep.TheVariants.{Begins, Ends, Passes}
use Rattle.history_tables.specs.declared.jobs.KeyedJob.{KeyedJob}
use Rattle.history_tables.specs.NodeRows.{crashed_at}
use Rattle.history_tables.specs.Numbering.{primary_crashed}

-- what is remembered of a job that begins behind so many printed entries
abbrev pub new_job_row : Job → ℕ → JobRow
new_job_row job before = record { job = job; before = before; ended = false; later = None }

-- the step begins a job
abbrev pub is_begin : JobStep → Bool
is_begin (Begins job) = true
is_begin (Ends line n number) = false
is_begin Passes = false

-- the job has neither ended nor been overtaken
abbrev pub is_going : JobRow → Bool
is_going row = not row.ended && not (is_some row.later)

-- what is remembered of a job after one more step: a later job at its node overtakes it while it goes on, and the end of the job
-- of its line with its number there ends it
abbrev pub row_by : JobStep → JobRow → JobRow
row_by (Begins job) row = if (row.job.node.0 == job.node.0) && is_going row then record row { later = Some job.version } else row
row_by (Ends line n number) row = if ((row.job.at.line.0 == line.0) && (row.job.node.0 == n.0)) && (row.job.number == number) then record row { ended = true } else row
row_by Passes row = row

abbrev pub row_if_some : JobStep → Option JobRow → Option JobRow
row_if_some step None = None
row_if_some step (Some row) = Some (row_by step row)

-- the lane of a job, or its node
abbrev pub key_of : Bool → Job → ℕ
key_of true job = job.at.lane.0
key_of false job = job.node.0

-- what is remembered of the last job of a key after one more step
abbrev pub last_job_by : Bool → ℕ → JobStep → ℕ → Option JobRow → Option JobRow
last_job_by lanes k (Begins job) before old = if key_of lanes job == k then Some (new_job_row job before) else row_if_some (Begins job) old
last_job_by lanes k (Ends line n number) before old = row_if_some (Ends line n number) old
last_job_by lanes k Passes before old = row_if_some Passes old

-- the job of a row that has not ended, where neither the node nor a primary has crashed since it began
abbrev pub while_going : ℕ → Past → Option JobRow → Option Job
while_going n past None = None
while_going n past (Some row) =
    if not row.ended && nat_le (crashed_at n past) row.before && nat_le (primary_crashed past) row.before then Some row.job else None

-- a row under its key after one more step
abbrev pub keyed_by : JobStep → KeyedJob → KeyedJob
keyed_by step r = record { key = r.key; row = row_by step r.row }

-- what the rows say of a key
abbrev pub row_under : List KeyedJob → ℕ → Option JobRow
row_under [] k = None
row_under (r ∷ rows) k = if r.key == k then Some r.row else row_under rows k

-- rows of jobs, and for how many more there is room
pub record JobRows : Type 0 where
  pub rows : List KeyedJob
  pub room : ℕ
