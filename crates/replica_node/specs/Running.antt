-- The job or the copy of a merged segment with a number.
use Rattle.std.specs.Prelude.{◌==◌, ◌&&◌, not, ℕ, Bool, false, if◌then◌else◌, Option, Some, None}
use Rattle.std.specs.Option.{option_map}
use Rattle.copy_job.specs.Jobs.{Job}
use Rattle.replica_node.specs.declared.job.PointJob.{PointJob}
use Rattle.replica_node.specs.declared.parts.ReplicaParts.{ReplicaParts}
use Rattle.replica_node.specs.Jobs.{stopped_job}
use Rattle.replica_node.specs.Merges.{copy_at, copies_with, copies_without}

-- the test whether the number is that of the job of a newer point, which runs
abbrev pub is_job_number : ℕ → Option PointJob → Bool
is_job_number number None = false
is_job_number number (Some j) = not j.stopped && (j.copy.number == number)

module _ {D : Type 0} where
  -- the job of a newer point where it has the number, else the copy that has it
  abbrev pub running_job : ℕ → ReplicaParts D → Option Job
  running_job number p = if is_job_number number p.job then option_map (λ (j : PointJob). j.copy) p.job else copy_at number p.copies.running

  -- with this one in its place
  abbrev pub with_job : ℕ → Job → ReplicaParts D → ReplicaParts D
  with_job number job p = if is_job_number number p.job then record p { job = option_map (λ (j : PointJob). record j { copy = job }) p.job } else record p { copies = record p.copies { running = copies_with number job p.copies.running } }

  -- where it does not go on: the job of a newer point is stopped, and a copy of a merged segment is gone
  abbrev pub without_job : ℕ → ReplicaParts D → ReplicaParts D
  without_job number p = if is_job_number number p.job then record p { job = option_map stopped_job p.job } else record p { copies = record p.copies { running = copies_without number p.copies.running } }
