-- The job at a replica is for no version above the newest.
use Rattle.std.proofs.Common.{◌≡◌, ◌≤◌, ℕ, Bool, false, List, Some, None, Option, refl, subst, arith}
use Rattle.std.specs.Prelude.{IfSome}
use Rattle.disk_model.specs.Disk.{Cells}
use Rattle.history_rules.specs.Nodes.{IsNode, IsReplica, newest_version}
use Rattle.history_tables.specs.declared.jobs.Job.{Job}
use Rattle.history_book.specs.Log.{Log, printed}
use Rattle.merge_tasks.specs.Merging.{Sheet}
use Rattle.history_book.specs.Jobs.{job_at}
use Rattle.cluster_nodes.specs.declared.nodes.NodePlace.{NodePlace}
use Rattle.cluster_state.specs.Run.{Rest, Run}
use Rattle.cluster_state.specs.State.{Shows}
use Rattle.cluster_state.specs.Files.{FilesShow}
use Rattle.cluster_state.proofs.FileJobs.{replica_here, job_here}

module _ {D : Type 0} (cells : D → Cells) where
  low_at : (log : Log) (size n : ℕ) (places : List (Option (NodePlace D))) → Shows cells log size places × FilesShow cells log size places → IsNode size n → IsReplica (printed log) n
      → IfSome (job_at n log) (λ job. job.version.0 ≤ newest_version (printed log))
  low_at log size n places both node replica = of (job_at n log) refl
    where
      of : (o : Option Job) → job_at n log ≡ o → IfSome o (λ job. job.version.0 ≤ newest_version (printed log))
      of None is = tt
      of (Some job) is =
          let r = replica_here cells log size n places both.0 both.1 node replica in
          let shows = (job_here cells both.1.source log n job r.at.parts is r.files).shows in
          let known = shows.point.known in
          omega (arith, known, shows.version)

  pub job_below : (r : Run) (ended : Bool) (b : Sheet) (places : List (Option (NodePlace D))) (n : ℕ) → {left : Rest} → record { ended = ended; nodes = b.nodes; log = b.log; rest = left } ≡ r
      → (ended ≡ false → Shows cells b.log b.nodes places × FilesShow cells b.log b.nodes places) → r.ended ≡ false → IsNode r.nodes n → IsReplica (printed r.log) n
      → IfSome (job_at n r.log) (λ job. job.version.0 ≤ newest_version (printed r.log))
  job_below r ended b places n view both =
      subst (λ (x : Run). x.ended ≡ false → IsNode x.nodes n → IsReplica (printed x.log) n → IfSome (job_at n x.log) (λ job. job.version.0 ≤ newest_version (printed x.log))) view
      (λ running node replica. low_at b.log b.nodes n places (both running) node replica)
