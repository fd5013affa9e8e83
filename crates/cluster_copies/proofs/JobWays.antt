-- What a call of a job that runs makes of a cluster whose disk failed: its line is refused, and the job has stopped.
use Rattle.std.proofs.Common.{◌≡◌, ◌∷◌, ℕ, false, true, List, Some, Option, inl, inr, map, refl, ap, ◌∙◌, sym}
use Rattle.std.specs.Prelude.{IfSome}
use Rattle.nrt_base.specs.declared.numbers.NodeNo.{NodeNo}
use Rattle.disk_model.specs.Disk.{Cells}
use Rattle.disk_model.specs.Faults.{Plans}
use Rattle.copy_job.specs.declared.copying.Part.{Part}
use Rattle.history_rules.specs.declared.cause.Cause.TheVariants.{DiskFault}
use Rattle.history_rules.specs.declared.entry.Event.TheVariants.{Refused}
use Rattle.history_rules.specs.Legal.{KeepsRule}
use Rattle.history_tables.specs.declared.jobs.JobRow.{JobRow}
use Rattle.history_book.specs.Log.{printed, shown, kept}
use Rattle.history_book.specs.declared.inner.Inner.TheVariants.{JobEnd}
use Rattle.merge_tasks.specs.Board.{Board}
use Rattle.merge_tasks.specs.Merging.{Sheet}
use Rattle.cluster_nodes.specs.declared.nodes.NodePlace.{NodePlace}
use Rattle.cluster_nodes.specs.JobPlaces.{StopsIn}
use Rattle.cluster_state.specs.Run.{Rest, Run}
use Rattle.cluster_state.specs.Copies.{JobRefused, FailsFor}
use Rattle.cluster_state.specs.FilesOut.{file_out}
use Rattle.cluster_state.specs.JobsIn.{jobs_in}
use Rattle.cluster_state.specs.Met.{met_in, failures_by_plan, has_risen, ClusterStands}
use Rattle.cluster_state.specs.PlansIn.{plans_in}
use Rattle.cluster_state.proofs.Naming.{FilesLast}
use Rattle.cluster_state.proofs.MetStands.{now_behind, fails_as_told}
use Rattle.cluster_copies.specs.Going.{met_since, RefusesForDisk}
use Rattle.cluster_copies.proofs.Calls.{JobCall, refused_path, refused_files}

module _ {D : Type 0} {cells : D → Cells} {r : Run} {b0 b1 : Sheet} {old : List (Option (NodePlace D))} {board : Board} {row : JobRow} {p : NodeNo} (k : JobCall cells r b0 b1 old board row p) (planned : D → Plans) (olds : List (ℕ × ℕ)) (new : List (Option (NodePlace D)))
    (b2 : Sheet) (part : Option Part) (failed : NodeNo) (noted : RefusesForDisk planned row failed olds new b1 b2) (stops : StopsIn cells part p.0 row.job.node.0 old new) (n2 : b2.nodes ≡ b1.nodes) where
  pub refused_stand : b2.cut ≡ b1.cut → FilesLast → (has_risen failed.0 1 olds (map (met_in planned) new) ≡ true → KeepsRule b1.nodes (printed (met_since planned row.job.at olds new b1.log)) row.job.at (Refused DiskFault))
      → IfSome part (λ x. file_out row.job.at row.job.node.0 row.job.number x.name b1.log ≡ Some x.bytes) → ClusterStands cells b2.nodes new b2.cut board b2.log
  refused_stand c2 lasting rule out = refused_path k olds (map (met_in planned) new) DiskFault b2 new part lasting noted.legal noted.turns (rule noted.risen) noted.log n2 c2 out stops

  -- in the terms of callers
  module _ (now : Rest) (olds_are : olds ≡ map (met_in planned) old) (was_plans : r.rest.plans ≡ plans_in planned old) (are_plans : now.plans ≡ plans_in planned new) (was_jobs : r.rest.jobs ≡ jobs_in old) (are_jobs : now.jobs ≡ jobs_in new) where
    abbrev outcome : Run
    outcome = record { ended = false; nodes = b2.nodes; log = b2.log; rest = now }

    left_plans : k.call.left.plans ≡ plans_in planned old
    left_plans = ap (λ (x : Run). x.rest.plans) k.call.view ∙ was_plans

    fails : has_risen failed.0 1 (map failures_by_plan r.rest.plans) (map failures_by_plan now.plans) ≡ true
    fails = fails_as_told planned old new r k.call.ended b0 failed olds (map (met_in planned) new) k.call.view olds_are left_plans refl are_plans noted.risen

    refused_for : FailsFor row.job.node DiskFault r outcome → JobRefused row.job DiskFault r outcome
    refused_for cause = record {
      now = now_behind planned old new r k.call.ended b0 b1 b2 row.job.at olds (map (met_in planned) new) (λ l. kept (JobEnd row.job.at.line row.job.node row.job.number) ∷ shown row.job.at (Refused DiskFault) ∷ l)
          k.call.view k.call.e1 k.call.n1 noted.log n2 olds_are left_plans refl are_plans;
      files = refused_files k outcome new part stops was_jobs are_jobs;
      failed = cause;
    }

    -- the disk is that of its node
    pub refused_by_node : failed ≡ row.job.node → JobRefused row.job DiskFault r outcome
    refused_by_node is = refused_for (inr (ap (λ (n : NodeNo). has_risen n.0 1 (map failures_by_plan r.rest.plans) (map failures_by_plan now.plans)) (sym is) ∙ fails))

    -- or that of its source
    pub refused_by_source : failed ≡ p → JobRefused row.job DiskFault r outcome
    refused_by_source is = refused_for (inl (record {
      p = p;
      primary = k.going.primary;
      risen = ap (λ (n : NodeNo). has_risen n.0 1 (map failures_by_plan r.rest.plans) (map failures_by_plan now.plans)) (sym is) ∙ fails;
    }))
