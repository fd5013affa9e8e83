-- Merges stand where a job goes on and where it ends.
use Rattle.std.proofs.Common.{◌≡◌, ◌∷◌, ℕ, Bool, false, List, Some, Option, refl, ap, ◌∙◌, sym, subst}
use Rattle.std.specs.Prelude.{IfSome}
use Rattle.nrt_base.specs.declared.numbers.NodeNo.{NodeNo}
use Rattle.nrt_base.specs.declared.numbers.Version.{Version}
use Rattle.disk_model.specs.Disk.{Name, Cells}
use Rattle.index_primary.specs.declared.parts.PrimaryParts.{PrimaryParts}
use Rattle.index_primary.specs.States.{out_of}
use Rattle.replica_node.specs.declared.job.PointJob.{PointJob}
use Rattle.replica_node.specs.declared.merges.MergeCopies.{MergeCopies}
use Rattle.replica_node.specs.declared.parts.ReplicaParts.{ReplicaParts}
use Rattle.history_rules.specs.declared.entry.Event.{Event}
use Rattle.history_rules.specs.declared.entry.Event.TheVariants.{Copying, Switched, Copied}
use Rattle.history_rules.specs.Nodes.{IsNode, primary_of}
use Rattle.history_tables.specs.declared.jobs.Job.{Job}
use Rattle.history_tables.specs.declared.jobs.JobRow.{JobRow}
use Rattle.history_book.specs.Log.{Log, printed, shown}
use Rattle.history_book.specs.declared.inner.Inner.TheVariants.{JobEnd}
use Rattle.history_book.specs.Jobs.{job_at, LaneJobShows}
use Rattle.merge_tasks.specs.Merging.{Sheet}
use Rattle.merge_tasks.specs.Board.{Board}
use Rattle.cluster_nodes.specs.declared.nodes.Node.TheVariants.{Primary}
use Rattle.cluster_nodes.specs.declared.nodes.NodePlace.{NodePlace}
use Rattle.cluster_nodes.specs.Places.{place_of}
use Rattle.cluster_nodes.specs.Outs.{jobs_like}
use Rattle.cluster_nodes.specs.JobChanges.{FinishesAt}
use Rattle.cluster_nodes.specs.JobPlaces.{ReadsIn, FinishesIn}
use Rattle.cluster_state.specs.Run.{Run, Rest}
use Rattle.cluster_state.specs.State.{Shows}
use Rattle.cluster_state.specs.Files.{FilesShow}
use Rattle.cluster_state.specs.Copies.{JobRuns, ended_log}
use Rattle.cluster_state.specs.Merging.{RunsNoOther, MergesStand, KeepAllMerges}
use Rattle.cluster_state.proofs.Frames.{some_at}
use Rattle.cluster_state.proofs.FileFrames.{Both, both_of}
use Rattle.cluster_state.proofs.FileJobs.{JobHere, job_here, runs_at}
use Rattle.cluster_state.proofs.Ledgers.{asked_size}
use Rattle.cluster_state.proofs.MergingStill.{runs_same, one_keeps, all_keep, primary_keeps, stand_shown, stand_kept}
use Rattle.cluster_copies.proofs.PartPaths.{there_both}
use Rattle.cluster_copies.proofs.Leaving.{left_merges}
use Rattle.cluster_copies.proofs.Ending.{finished_leaves}

-- ---- the entries of a job's end

module _ {D : Type 0} (board : Board) (places : List (Option (NodePlace D))) (job : Job) where
  pub ended_stand : (b1 b2 : Sheet) (o : Option Event) → b2.log ≡ ended_log job o b1.log → b2.nodes ≡ b1.nodes → b2.cut ≡ b1.cut → MergesStand b1.log b1.cut b1.nodes board places → MergesStand b2.log b2.cut b2.nodes board places
  ended_stand b1 b2 o e n c was = by o e
    where
      one : Sheet
      one = record b1 { log = shown job.at (Switched job.node job.version) ∷ b1.log }

      switched : MergesStand one.log one.cut one.nodes board places
      switched = stand_shown board places places b1 b1 one job.at (Switched job.node job.version) refl refl refl refl refl refl refl (all_keep b1.nodes board b1.log b1.cut places was) was

      two : NodeNo → Version → Sheet
      two m v = record b1 { log = shown job.at (Copied m v) ∷ one.log }

      copied : (m : NodeNo) (v : Version) → MergesStand (two m v).log (two m v).cut (two m v).nodes board places
      copied m v = stand_shown board places places one one (two m v) job.at (Copied m v) refl refl refl refl refl refl refl (all_keep one.nodes board one.log one.cut places switched) switched

      by : (o : Option Event) → b2.log ≡ ended_log job o b1.log → MergesStand b2.log b2.cut b2.nodes board places
      by (Some (Copying m v)) is = stand_kept board places places (two m v) b2 (JobEnd job.at.line job.node job.number) is n c refl (all_keep b1.nodes board (two m v).log b1.cut places (copied m v)) (copied m v)
      by begun is = stand_kept board places places one b2 (JobEnd job.at.line job.node job.number) is n c refl (all_keep one.nodes board one.log one.cut places switched) switched

module _ {D : Type 0} (cells : D → Cells) where
  -- ---- a file was read

  pub read_stand : (board : Board) (r : Run) (ended : Bool) (b0 : Sheet) (old new : List (Option (NodePlace D))) (p : NodeNo) (name : Name) (bytes : List ℕ) {rest : Rest} → record { ended = ended; nodes = b0.nodes; log = b0.log; rest = rest } ≡ r
      → IsNode r.nodes p.0 → ReadsIn cells p.0 name bytes old new → MergesStand b0.log b0.cut b0.nodes board old → KeepAllMerges b0.nodes old new
  read_stand board r ended b0 old new p name bytes view node b was =
      one_keeps b0.nodes board b0.log b0.cut old new p.0 (record { node = Primary b.primary; held = b.at.held }) (record { node = Primary b.at.parts; held = b.at.held }) b.moves (asked_size (λ (k : ℕ). IsNode k p.0) view refl node) b.at.there refl
      (λ jobs count low. primary_keeps jobs count b.at.parts b.primary (ap (λ (z : PrimaryParts D). z.merges) b.alters.others) (ap (λ (z : PrimaryParts D). z.has_cut_over) b.alters.others) b.states low) was

  -- ---- a job has ended

  finished_keeps : (size : ℕ) (log : Log) (old new : List (Option (NodePlace D))) (p : NodeNo) (job : Job) → IsNode size p.0 → primary_of (printed log) ≡ Some p → IsNode size job.node.0 → job_at job.node.0 log ≡ Some job
      → Shows cells log size old → FilesShow cells log size old → FinishesIn cells p.0 job.node.0 old new → KeepAllMerges size old new
  finished_keeps size log old new p job node_p primary node is shows files b =
      left_merges cells size log old new p n q b.primary r b.replica b.both.primary.held b.both.replica.held (out_of here.point.copy.want) b.moves b.both.primary.there b.both.replica.there node_p node primary shows
      (finished_leaves cells log size old p n q b.primary r b.replica b.both.replica.held here.point files.source node b.both.replica.there at_p.1 here.want f)
      (subst (λ (c : MergeCopies). RunsNoOther r.copies.running c.running) (sym f.copies) (runs_same r.copies.running))
    where
      n : ℕ
      n = job.node.0

      q : PrimaryParts D
      q = b.both.primary.parts

      r : ReplicaParts D
      r = b.both.replica.parts

      at_p : Both cells files.source log (λ o. jobs_like old o size) p.0 (record { node = Primary q; held = b.both.primary.held })
      at_p = some_at (Both cells files.source log (λ o. jobs_like old o size) p.0) (place_of old p.0) (record { node = Primary q; held = b.both.primary.held }) b.both.primary.there (both_of cells log size old shows files p.0 node_p)

      here : JobHere cells files.source log n job r
      here = job_here cells files.source log n job r is (there_both cells log size n old shows files r b.both.replica.held node b.both.replica.there).1

      f : FinishesAt cells here.point q b.primary r b.replica
      f = subst (λ (o : Option PointJob). IfSome o (λ j. FinishesAt cells j q b.primary r b.replica)) here.going b.finishes

  pub finished_stand : (r : Run) (ended : Bool) (b0 : Sheet) (old new : List (Option (NodePlace D))) (p : NodeNo) (row : JobRow) {rest : Rest} → record { ended = ended; nodes = b0.nodes; log = b0.log; rest = rest } ≡ r → r.ended ≡ false
      → (ended ≡ false → Shows cells b0.log b0.nodes old × FilesShow cells b0.log b0.nodes old) → IsNode r.nodes p.0 → primary_of (printed r.log) ≡ Some p → JobRuns r.log row → LaneJobShows b0.nodes (printed b0.log) row
      → FinishesIn cells p.0 row.job.node.0 old new → KeepAllMerges b0.nodes old new
  finished_stand r ended b0 old new p row view running pair node_p primary runs lane b =
      let both = pair (ap (λ (x : Run). x.ended) view ∙ running) in
      finished_keeps b0.nodes b0.log old new p row.job (asked_size (λ (k : ℕ). IsNode k p.0) view refl node_p) (ap (λ (x : Run). primary_of (printed x.log)) view ∙ primary) lane.node
      (runs_at b0.nodes b0.log row (subst (λ (l : Log). JobRuns l row) (sym (ap (λ (x : Run). x.log) view)) runs) lane) both.0 both.1 b
