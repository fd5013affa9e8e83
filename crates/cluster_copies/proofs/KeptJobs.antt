-- What callers are told beside the log where a job begins, goes on, takes a part, is stopped, or ends.
use Rattle.std.proofs.Common.{◌≡◌, ℕ, Bool, List, map, Some, Option, refl, ap, ◌∙◌, sym, subst}
use Rattle.std.specs.Prelude.{IfSome, IfOk, OnOk, Result, Ok, Err}
use Rattle.disk_model.specs.Disk.{Name, Cells}
use Rattle.disk_model.specs.Faults.{Plans}
use Rattle.copy_job.specs.declared.copying.Part.{Part}
use Rattle.history_tables.specs.declared.jobs.JobRow.{JobRow}
use Rattle.nrt_base.specs.declared.numbers.At.{At}
use Rattle.nrt_base.specs.declared.numbers.NodeNo.{NodeNo}
use Rattle.history_rules.specs.declared.cause.Cause.{Cause}
use Rattle.index_primary.specs.declared.parts.PrimaryParts.{PrimaryParts}
use Rattle.replica_node.specs.declared.job.PointJob.{PointJob}
use Rattle.replica_node.specs.declared.merges.MergeCopies.{MergeCopies}
use Rattle.replica_node.specs.declared.parts.ReplicaParts.{ReplicaParts}
use Rattle.replica_node.specs.Jobs.{running_point}
use Rattle.merge_tasks.specs.Board.{Board}
use Rattle.merge_tasks.specs.Merging.{Sheet}
use Rattle.cluster_nodes.specs.declared.nodes.Node.TheVariants.{Primary, Replica}
use Rattle.cluster_nodes.specs.declared.nodes.NodePlace.{NodePlace}
use Rattle.cluster_nodes.specs.declared.tasks.CopyTask.{CopyTask}
use Rattle.cluster_nodes.specs.Given.{merge_sizes}
use Rattle.cluster_nodes.specs.Places.{place_of}
use Rattle.cluster_nodes.specs.JobChanges.{AltersStates, FinishesAt, StopsAt}
use Rattle.cluster_nodes.specs.JobPlaces.{IsPrimaryAt, IsReplicaAt, AreBoth, MovesBoth, MovesOne, AltersIn, BeginsIn, ReadsIn, StopsIn, FinishesIn, TakesIn}
use Rattle.cluster_state.specs.Run.{Rest, Run, KeepsRest}
use Rattle.cluster_state.specs.Keeping.{KeepsButFiles, KeepsButBegun}
use Rattle.cluster_state.specs.Calls.{IsRefusedTurn}
use Rattle.cluster_state.specs.declared.turn.Turn.{Turn}
use Rattle.cluster_state.specs.declared.turn.Turn.TheVariants.{Work, Done, Busy}
use Rattle.cluster_state.specs.CallsLeft.{stage_calls, place_calls, calls_in}
use Rattle.cluster_state.specs.JobsIn.{place_files, jobs_in}
use Rattle.cluster_state.specs.MergedCopies.{told_copy, place_copies, copies_in}
use Rattle.cluster_state.specs.Sizes.{sizes_in}
use Rattle.cluster_state.proofs.FileJobs.{job_here, runs_at}
use Rattle.cluster_state.proofs.JobsLeft.{files_are, files_same}
use Rattle.cluster_state.proofs.KeptOthers.{told_beside, told_both, told_apart, told_one, AllTell, TellsButJob, all_tell, all_kept, but_files}
use Rattle.cluster_state.proofs.RestKept.{place_sizes}
use Rattle.cluster_copies.proofs.Calls.{JobCall, going0, refused_files}
use Rattle.cluster_copies.proofs.PartPaths.{there_both}

-- ---- over places

module _ {D : Type 0} (cells : D → Cells) where
  -- the copy states of the primary moved alone
  one_tells : (p : ℕ) (old new : List (Option (NodePlace D))) (at : IsPrimaryAt old p) (q : PrimaryParts D) → MovesOne p (record { node = Primary q; held = at.held }) old new → AltersStates cells at.parts q → AllTell old new
  one_tells p old new at q moves alters =
      let x : NodePlace D = record { node = Primary q; held = at.held } in
      let w : NodePlace D = record { node = Primary at.parts; held = at.held } in
      record {
        count = moves.count;
        each = λ m. record {
          calls = told_one place_calls p x w old new at.there moves (ap (λ (z : PrimaryParts D). stage_calls z.commits.stage) alters.others) m;
          sizes = told_one place_sizes p x w old new at.there moves (ap (λ (z : PrimaryParts D). Some (merge_sizes z)) alters.others) m;
          files = told_one place_files p x w old new at.there moves refl m;
          copies = told_one place_copies p x w old new at.there moves refl m;
        };
      }

  pub altered_tells : (p : ℕ) (old new : List (Option (NodePlace D))) → AltersIn cells p old new → AllTell old new
  altered_tells p old new b = one_tells p old new b.at b.primary b.moves b.alters

  pub read_tells : (p : ℕ) (name : Name) (bytes : List ℕ) (old new : List (Option (NodePlace D))) → ReadsIn cells p name bytes old new → AllTell old new
  read_tells p name bytes old new b = one_tells p old new b.at b.primary b.moves b.alters

  -- the copy states of the primary moved, and a replica, of which the commits are as before
  both_tell : (p n : ℕ) (old new : List (Option (NodePlace D))) (both : AreBoth old p n) (q : PrimaryParts D) (s : ReplicaParts D)
      → MovesBoth p n (record { node = Primary q; held = both.primary.held }) (record { node = Replica s; held = both.replica.held }) old new → AltersStates cells both.primary.parts q → stage_calls s.commits.stage ≡ stage_calls both.replica.parts.commits.stage
      → TellsButJob n old new
  both_tell p n old new both q s moves alters commits =
      let x : NodePlace D = record { node = Primary q; held = both.primary.held } in
      let w : NodePlace D = record { node = Primary both.primary.parts; held = both.primary.held } in
      let y : NodePlace D = record { node = Replica s; held = both.replica.held } in
      let z : NodePlace D = record { node = Replica both.replica.parts; held = both.replica.held } in
      record {
        count = moves.count;
        calls = told_both place_calls p n x y w z old new both.primary.there both.replica.there moves (ap (λ (u : PrimaryParts D). stage_calls u.commits.stage) alters.others) commits;
        sizes = told_both place_sizes p n x y w z old new both.primary.there both.replica.there moves (ap (λ (u : PrimaryParts D). Some (merge_sizes u)) alters.others) refl;
        files = told_beside place_files p n x y w old new both.primary.there moves refl;
        copies = told_beside place_copies p n x y w old new both.primary.there moves refl;
      }

  pub begun_tells : (p n number : ℕ) (old new : List (Option (NodePlace D))) → BeginsIn cells p n number old new → TellsButJob n old new
  begun_tells p n number old new b = both_tell p n old new b.both b.primary b.replica b.moves b.begins.primary (ap (λ (z : ReplicaParts D). stage_calls z.commits.stage) b.begins.replica.others)

  -- a replica moved alone, of which the commits are as before
  pub taken_tells : (n : ℕ) (part : Part) (old new : List (Option (NodePlace D))) → TakesIn cells n part old new → TellsButJob n old new
  taken_tells n part old new b =
      let y : NodePlace D = record { node = Replica b.replica; held = b.at.held } in
      let z : NodePlace D = record { node = Replica b.at.parts; held = b.at.held } in
      record {
        count = b.moves.count;
        calls = told_one place_calls n y z old new b.at.there b.moves (ap (λ (u : ReplicaParts D). stage_calls u.commits.stage) b.takes.others);
        sizes = told_one place_sizes n y z old new b.at.there b.moves refl;
        files = told_apart place_files n y old new b.moves;
        copies = told_apart place_copies n y old new b.moves;
      }

  pub taken_copies : (n : ℕ) (part : Part) (old new : List (Option (NodePlace D))) → TakesIn cells n part old new → place_copies (place_of new n) ≡ place_copies (place_of old n)
  taken_copies n part old new b =
      told_one place_copies n (record { node = Replica b.replica; held = b.at.held }) (record { node = Replica b.at.parts; held = b.at.held }) old new b.at.there b.moves (ap (λ (u : ReplicaParts D). map told_copy u.copies.running) b.takes.others) n

  ended_tells : (p n : ℕ) (old new : List (Option (NodePlace D))) (b : FinishesIn cells p n old new) (j : PointJob) → FinishesAt cells j b.both.primary.parts b.primary b.both.replica.parts b.replica → TellsButJob n old new
  ended_tells p n old new b j f = both_tell p n old new b.both b.primary b.replica b.moves f.primary (ap (λ (z : ReplicaParts D). stage_calls z.commits.stage) f.others)

  ended_copies : (p n : ℕ) (old new : List (Option (NodePlace D))) (b : FinishesIn cells p n old new) (j : PointJob) → FinishesAt cells j b.both.primary.parts b.primary b.both.replica.parts b.replica
      → place_copies (place_of new n) ≡ place_copies (place_of old n)
  ended_copies p n old new b j f =
      told_both place_copies p n (record { node = Primary b.primary; held = b.both.primary.held }) (record { node = Replica b.replica; held = b.both.replica.held })
      (record { node = Primary b.both.primary.parts; held = b.both.primary.held }) (record { node = Replica b.both.replica.parts; held = b.both.replica.held })
      old new b.both.primary.there b.both.replica.there b.moves refl (ap (λ (c : MergeCopies). map told_copy c.running) f.copies) n

  stopped_tells : (p n : ℕ) (part : Option Part) (old new : List (Option (NodePlace D))) (b : StopsIn cells part p n old new) (j : PointJob) → StopsAt cells part j b.both.primary.parts b.primary b.both.replica.parts b.replica
      → place_files (place_of new n) ≡ place_files (place_of old n) → AllTell old new
  stopped_tells p n part old new b j st files =
      all_tell n old new (both_tell p n old new b.both b.primary b.replica b.moves st.primary (ap (λ (z : ReplicaParts D). stage_calls z.commits.stage) st.others)) files
      (told_both place_copies p n (record { node = Primary b.primary; held = b.both.primary.held }) (record { node = Replica b.replica; held = b.both.replica.held })
      (record { node = Primary b.both.primary.parts; held = b.both.primary.held }) (record { node = Replica b.both.replica.parts; held = b.both.replica.held })
      old new b.both.primary.there b.both.replica.there b.moves refl (ap (λ (u : ReplicaParts D). map told_copy u.copies.running) st.others) n)

-- ---- in the terms of a call of a job that runs

module _ {D : Type 0} {cells : D → Cells} {r : Run} {b0 b1 : Sheet} {old : List (Option (NodePlace D))} {board : Board} {row : JobRow} {p : NodeNo} (k : JobCall cells r b0 b1 old board row p)
    (now : Run) (carries : List Bool) (cut later : Bool) (plans next : List Plans) (new : List (Option (NodePlace D))) {named names : List (List Name)}
    (was : record { calls_left = calls_in carries old; cut = cut; sizes = sizes_in old; jobs = jobs_in old; copies = copies_in old; tasks = board; plans = plans; names = named } ≡ r.rest)
    (is : record { calls_left = calls_in carries new; cut = later; sizes = sizes_in new; jobs = jobs_in new; copies = copies_in new; tasks = board; plans = next; names = names } ≡ now.rest) (same : later ≡ cut) where
  abbrev n : ℕ
  n = row.job.node.0

  -- the job that runs at the replica in this place
  point_here : (at : IsReplicaAt old n) → (j : PointJob) × (running_point at.parts.job ≡ Some j)
  point_here at =
      let both = k.call.all (ap (λ (x : Run). x.ended) k.call.view ∙ k.call.running) in
      let is_there = runs_at b0.nodes b0.log row (going0 k).runs (going0 k).lane in
      let h = job_here cells both.1.source b0.log n row.job at.parts is_there (there_both cells b0.log b0.nodes n old both.0 both.1 at.parts at.held (going0 k).lane.node at.there).1 in
      (h.point, h.going)

  -- it was stopped
  pub stopped_kept : (part : Option Part) → StopsIn cells part p.0 n old new → KeepsRest r now
  stopped_kept part b =
      let here = point_here b.both.replica in
      let before : r.rest.jobs ≡ jobs_in old = sym (ap (λ (x : Rest). x.jobs) was) in
      let after : now.rest.jobs ≡ jobs_in new = sym (ap (λ (x : Rest). x.jobs) is) in
      all_kept r now carries cut later board plans next old new was is same
      (stopped_tells cells p.0 n part old new b here.0 (subst (λ (o : Option PointJob). IfSome o (λ j. StopsAt cells part j b.both.primary.parts b.primary b.both.replica.parts b.replica)) here.1 b.stops)
      (sym (files_are n now new after) ∙ (refused_files k now new part b before after ∙ files_are n r old before)))

  -- it ended
  pub ended_kept : FinishesIn cells p.0 n old new → KeepsButFiles n r now
  ended_kept b =
      let here = point_here b.both.replica in
      let f = subst (λ (o : Option PointJob). IfSome o (λ j. FinishesAt cells j b.both.primary.parts b.primary b.both.replica.parts b.replica)) here.1 b.finishes in
      but_files r now carries cut later board plans next old new was is same n (ended_tells cells p.0 n old new b here.0 f) (ended_copies cells p.0 n old new b here.0 f)

-- ---- where nothing changed, nothing did of the files of a job

pub none_moved : (n : ℕ) (old new : Run) → KeepsRest old new → KeepsButFiles n old new
none_moved n old new kept = record {
  rest = kept ∙ ap (λ (x : Rest). record old.rest { jobs = x.jobs; plans = new.rest.plans; names = new.rest.names }) (sym kept);
  files = λ m apart. files_same m old new (ap (λ (x : Rest). x.jobs) kept);
}

pub came_after : (n : ℕ) (a b c : Run) → b ≡ a → KeepsButFiles n b c → KeepsButFiles n a c
came_after n a b c same kept = subst (λ (x : Run). KeepsButFiles n x c) same kept

-- ---- a line that was refused

pub refused_kept : {E : Type 0} (r : Result (Turn CopyTask) E) (at : At) (cause : Cause) (old new : Run) → IfOk r (IsRefusedTurn at cause old new) → OnOk r (KeepsRest old new) → IfOk r (KeepsButBegun old new)
refused_kept (Err e) at cause old new refused kept = tt
refused_kept (Ok (Work task)) at cause old new refused kept = absurd refused
refused_kept (Ok Done) at cause old new refused kept = kept
refused_kept (Ok Busy) at cause old new refused kept = absurd refused
