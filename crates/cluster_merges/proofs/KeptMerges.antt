-- What callers are told beside the log where a step of a merge moved the primary, or a replica, or none.
use Rattle.std.proofs.Common.{◌≡◌, ◌==◌, ◌++◌, ◌∷◌, [], inl, inr, ℕ, suc, Bool, true, false, true≢false, not, List, map, Some, None, Option, Ok, Err, Result, length, refl, ap, ◌∙◌, sym, subst, arith, if◌then◌else◌}
use Rattle.std.specs.Prelude.{IsSome, IfSome, IsSomeAnd}
use Rattle.std.proofs.lemmas.Bool.{eq-eqb}
use Rattle.std.proofs.lemmas.List.{length-append}
use Rattle.disk_model.specs.Disk.{Name, Cells}
use Rattle.disk_model.specs.Faults.{Plans}
use Rattle.commit_steps.specs.declared.stage.CommitBook.{CommitBook}
use Rattle.copy_job.specs.declared.copying.Part.{Part}
use Rattle.copy_job.specs.Jobs.{Job}
use Rattle.merge_tasks.specs.Board.{Board, open_merge, spread_at, without_merge, is_copied}
use Rattle.merge_tasks.specs.declared.tasks.OpenMerge.{OpenMerge}
use Rattle.merge_tasks.proofs.BoardRows.{open_without}
use Rattle.index_primary.specs.declared.parts.PrimaryParts.{PrimaryParts}
use Rattle.index_primary.specs.declared.parts.PublishFault.{PublishFault}
use Rattle.index_primary.specs.declared.parts.PublishFault.TheVariants.{Memory, NamesSpent, TooManySegments}
use Rattle.seg_merge.specs.declared.task.MergeTask.{MergeTask}
use Rattle.cluster_nodes.specs.Given.{AnswersMerge, SettlesCopy, merge_sizes}
use Rattle.nrt_base.specs.declared.numbers.At.{At}
use Rattle.nrt_base.specs.declared.numbers.LineNo.{LineNo}
use Rattle.nrt_base.specs.declared.numbers.NodeNo.{NodeNo}
use Rattle.nrt_base.specs.declared.numbers.SegNo.{SegNo}
use Rattle.merge_tasks.specs.Merging.{Sheet}
use Rattle.node_merges.specs.MergeChanges.{TakesMerged, SettlesMerged}
use Rattle.replica_node.specs.declared.merges.MergeCopies.{MergeCopies}
use Rattle.replica_node.specs.declared.parts.ReplicaParts.{ReplicaParts}
use Rattle.replica_node.specs.Merges.{copy_at, copies_with, copies_without}
use Rattle.cluster_nodes.specs.declared.nodes.Node.TheVariants.{Primary, Replica}
use Rattle.cluster_nodes.specs.declared.nodes.NodePlace.{NodePlace}
use Rattle.cluster_nodes.specs.JobPlaces.{IsPrimaryAt, IsReplicaAt, MovesOne}
use Rattle.cluster_nodes.specs.Places.{place_of}
use Rattle.cluster_state.specs.Run.{MergedCopy, Rest, Run, KeepsRest}
use Rattle.cluster_state.specs.CallsLeft.{stage_calls, place_calls, with_own, calls_in}
use Rattle.cluster_state.specs.JobsIn.{job_files, place_files, jobs_in}
use Rattle.cluster_state.specs.MergedCopies.{told_copy, place_copies, copies_in}
use Rattle.cluster_state.specs.Sizes.{sizes_in}
use Rattle.cluster_state.proofs.RestKept.{first_sizes, place_sizes, sizes_first, map_same, rest_then}
use Rattle.cluster_state.proofs.KeptOthers.{told_apart, told_one, merged_are}
use Rattle.cluster_merges.specs.declared.precopies.CopyTurn.{CopyTurn}
use Rattle.cluster_merges.specs.declared.precopies.CopyTurn.TheVariants.{Waits, Hands, Ends, Fails}
use Rattle.cluster_merges.specs.CopyTurns.{StepsCopyTo}
use Rattle.cluster_merges.specs.MergePaths.{BeginsMerge, CutsOver}
use Rattle.cluster_merges.specs.MergesKept.{copies_but, KeepsButTasks, KeepsButSizes, KeepsButCut, KeepsButCopies, KeepsButEnded, TellsCallsAndJobs, TellsButSizes, TellsButCopies, TellsAll, TellsButEnded}

-- ---- over places

module _ {D : Type 0} where
  pub sizes_same : (old new : List (Option (NodePlace D))) → length new ≡ length old → ((m : ℕ) → place_sizes (place_of new m) ≡ place_sizes (place_of old m)) → sizes_in new ≡ sizes_in old
  sizes_same old new count each = sizes_first new ∙ (ap first_sizes (map_same place_sizes old new count (λ k. each (suc k))) ∙ sym (sizes_first old))

  -- none moved
  pub same_tell : (places : List (Option (NodePlace D))) → TellsAll places places
  same_tell places = record {
    both = record { count = refl; calls = λ m. refl; files = λ m. refl };
    sizes = refl;
    copies = λ m. refl;
  }

  -- the primary did, with the commits of before
  pub primary_told : (p : ℕ) (q : PrimaryParts D) (old new : List (Option (NodePlace D))) (at : IsPrimaryAt old p) → MovesOne p (record { node = Primary q; held = at.held }) old new → q.commits ≡ at.parts.commits → TellsButSizes old new
  primary_told p q old new at moves commits = record {
    both = record {
      count = moves.count;
      calls = told_one place_calls p (record { node = Primary q; held = at.held }) (record { node = Primary at.parts; held = at.held }) old new at.there moves (ap (λ (b : CommitBook). stage_calls b.stage) commits);
      files = told_one place_files p (record { node = Primary q; held = at.held }) (record { node = Primary at.parts; held = at.held }) old new at.there moves refl;
    };
    copies = told_one place_copies p (record { node = Primary q; held = at.held }) (record { node = Primary at.parts; held = at.held }) old new at.there moves refl;
  }

  -- the primary did, and tells the same
  pub primary_all : (p : ℕ) (q : PrimaryParts D) (old new : List (Option (NodePlace D))) (at : IsPrimaryAt old p) → MovesOne p (record { node = Primary q; held = at.held }) old new → q.commits ≡ at.parts.commits → merge_sizes q ≡ merge_sizes at.parts
      → TellsAll old new
  primary_all p q old new at moves commits sizes =
      let told = primary_told p q old new at moves commits in
      let all = told_one place_sizes p (record { node = Primary q; held = at.held }) (record { node = Primary at.parts; held = at.held }) old new at.there moves (ap (λ (l : List (Option ℕ)). Some l) sizes) in
      record {
        both = told.both;
        sizes = sizes_same old new moves.count all;
        copies = told.copies;
      }

  -- a replica did, with the calls, the job, and the copies of before but that of one number
  pub replica_told : (n job : ℕ) (s : ReplicaParts D) (old new : List (Option (NodePlace D))) (at : IsReplicaAt old n) → MovesOne n (record { node = Replica s; held = at.held }) old new → stage_calls s.commits.stage ≡ stage_calls at.parts.commits.stage
      → job_files s.seen.0 s.job ≡ job_files at.parts.seen.0 at.parts.job → copies_but job (map told_copy s.copies.running) ≡ copies_but job (map told_copy at.parts.copies.running) → TellsButCopies n job old new
  replica_told n job s old new at moves calls files own =
      let x : NodePlace D = record { node = Replica s; held = at.held } in
      let y : NodePlace D = record { node = Replica at.parts; held = at.held } in
      record {
        both = record { count = moves.count; calls = told_one place_calls n x y old new at.there moves calls; files = told_one place_files n x y old new at.there moves files };
        sizes = sizes_same old new moves.count (told_one place_sizes n x y old new at.there moves refl);
        copies = told_apart place_copies n x old new moves;
        own =
            ap (λ (o : Option (NodePlace D)). copies_but job (place_copies o)) (moves.there n ∙ ap (λ (b : Bool). if b then Some x else place_of old n) (eq-eqb n n refl))
            ∙ (own ∙ ap (λ (o : Option (NodePlace D)). copies_but job (place_copies o)) (sym at.there));
      }

  pub all_but : (n job : ℕ) (old new : List (Option (NodePlace D))) → TellsAll old new → TellsButCopies n job old new
  all_but n job old new t = record { both = t.both; sizes = t.sizes; copies = λ m apart. t.copies m; own = ap (copies_but job) (t.copies n) }

  -- the primary before a replica
  pub told_then : (n job : ℕ) (a b c : List (Option (NodePlace D))) → TellsAll a b → TellsButCopies n job b c → TellsButCopies n job a c
  told_then n job a b c first second = record {
    both = record {
      count = second.both.count ∙ first.both.count;
      calls = λ m. second.both.calls m ∙ first.both.calls m;
      files = λ m. second.both.files m ∙ first.both.files m;
    };
    sizes = second.sizes ∙ first.sizes;
    copies = λ m apart. second.copies m apart ∙ first.copies m;
    own = second.own ∙ ap (copies_but job) (first.copies n);
  }

  -- a primary that was asked for a merge has the commits of before
  pub asked_commits : (factor : ℕ) (p q : PrimaryParts D) (result : Result (Option MergeTask) PublishFault) → AnswersMerge factor p q result → q.commits ≡ p.commits
  asked_commits factor p q (Ok None) a = ap (λ (z : PrimaryParts D). z.commits) a.1
  asked_commits factor p q (Ok (Some task)) a = ap (λ (z : PrimaryParts D). z.commits) a.next
  asked_commits factor p q (Err Memory) a = ap (λ (z : PrimaryParts D). z.commits) a
  asked_commits factor p q (Err NamesSpent) a = ap (λ (z : PrimaryParts D). z.commits) a.2
  asked_commits factor p q (Err TooManySegments) a = absurd a

  -- one that starts none is as before
  pub asked_none : (factor : ℕ) (p q : PrimaryParts D) (result : Result (Option MergeTask) PublishFault) → result ≡ Ok None → AnswersMerge factor p q result → q ≡ p
  asked_none factor p q result is a = (subst (λ (x : Result (Option MergeTask) PublishFault). AnswersMerge factor p q x) is a).1

  pub asked_spent : (factor : ℕ) (p q : PrimaryParts D) (result : Result (Option MergeTask) PublishFault) (fault : PublishFault) → result ≡ Err fault → fault ≡ NamesSpent → AnswersMerge factor p q result → q ≡ p
  asked_spent factor p q result fault is spent a = (subst (λ (x : Result (Option MergeTask) PublishFault). AnswersMerge factor p q x) (is ∙ ap Err spent) a).2

  pub same_told : (p : ℕ) (q : PrimaryParts D) (old new : List (Option (NodePlace D))) (at : IsPrimaryAt old p) → MovesOne p (record { node = Primary q; held = at.held }) old new → q ≡ at.parts → TellsAll old new
  same_told p q old new at moves same = primary_all p q old new at moves (ap (λ (z : PrimaryParts D). z.commits) same) (ap (λ (z : PrimaryParts D). merge_sizes z) same)

-- ---- the copies but one

pub but_without : (job : ℕ) (cs : List Job) → copies_but job (map told_copy (copies_without job cs)) ≡ copies_but job (map told_copy cs)
but_without job [] = refl
but_without job (c ∷ cs) = by (c.number == job) refl (but_without job cs)
  where
    by : (b : Bool) → (c.number == job) ≡ b → copies_but job (map told_copy (copies_without job cs)) ≡ copies_but job (map told_copy cs)
        → copies_but job (map told_copy (if b then cs else c ∷ copies_without job cs)) ≡ copies_but job (told_copy c ∷ map told_copy cs)
    by true here more = sym (ap (λ (t : Bool). if not t then told_copy c ∷ copies_but job (map told_copy cs) else copies_but job (map told_copy cs)) here)
    by false apart more = ap (λ (l : List MergedCopy). if not (c.number == job) then told_copy c ∷ l else l) more

pub but_with : (job : ℕ) (d : Job) (cs : List Job) → (d.number == job) ≡ true → copies_but job (map told_copy (copies_with job d cs)) ≡ copies_but job (map told_copy cs)
but_with job d [] is = refl
but_with job d (c ∷ cs) is = by (c.number == job) refl (but_with job d cs is)
  where
    by : (b : Bool) → (c.number == job) ≡ b → copies_but job (map told_copy (copies_with job d cs)) ≡ copies_but job (map told_copy cs)
        → copies_but job (map told_copy (if b then d ∷ cs else c ∷ copies_with job d cs)) ≡ copies_but job (told_copy c ∷ map told_copy cs)
    by true here more =
        ap (λ (t : Bool). if not t then told_copy d ∷ copies_but job (map told_copy cs) else copies_but job (map told_copy cs)) is
        ∙ sym (ap (λ (t : Bool). if not t then told_copy c ∷ copies_but job (map told_copy cs) else copies_but job (map told_copy cs)) here)
    by false apart more = ap (λ (l : List MergedCopy). if not (c.number == job) then told_copy c ∷ l else l) more

numbered : (job : ℕ) (d : Job) (cs : List Job) → copy_at job cs ≡ Some d → (d.number == job) ≡ true
numbered job d [] is = absurd (cc)
numbered job d (c ∷ cs) is = by (c.number == job) refl (numbered job d cs) is
  where
    by : (b : Bool) → (c.number == job) ≡ b → (copy_at job cs ≡ Some d → (d.number == job) ≡ true) → (if b then Some c else copy_at job cs) ≡ Some d → (d.number == job) ≡ true
    by true here rest is = let same : ◌≡◌ {A = Job} c d = cc in ap (λ (x : Job). x.number == job) (sym same) ∙ here
    by false apart rest is = rest is

-- the copy has ended at a replica
pub but_ended_copy : {D : Type 0} (job : ℕ) (r s : ReplicaParts D) → s.copies.running ≡ copies_without job r.copies.running → copies_but job (map told_copy s.copies.running) ≡ copies_but job (map told_copy r.copies.running)
but_ended_copy job r s is = ap (λ (cs : List Job). copies_but job (map told_copy cs)) is ∙ but_without job r.copies.running

-- its files are pending
pub but_settled : {D : Type 0} (cells : D → Cells) (job : ℕ) (r s : ReplicaParts D) → IsSome (copy_at job r.copies.running) → SettlesMerged cells job r s → copies_but job (map told_copy s.copies.running) ≡ copies_but job (map told_copy r.copies.running)
but_settled cells job r s runs w = but_ended_copy job r s (by (copy_at job r.copies.running) runs w.settles)
  where
    by : (o : Option Job) → IsSome o → IfSome o (λ c. SettlesCopy job c r s) → s.copies.running ≡ copies_without job r.copies.running
    by None none is = absurd (true≢false (sym none))
    by (Some c) some is = ap (λ (m : MergeCopies). m.running) is.copies

-- a part is in
pub but_taken : {D : Type 0} (cells : D → Cells) (job : ℕ) (part : Part) (r s : ReplicaParts D) → IsSome (copy_at job r.copies.running) → TakesMerged cells job part r s → copies_but job (map told_copy s.copies.running) ≡ copies_but job (map told_copy r.copies.running)
but_taken cells job part r s runs w = by (copy_at job r.copies.running) runs w.copies
  where
    Now : Job → Job → Type 0
    Now c d = (d.want ≡ c.want) × (s.copies.running ≡ copies_with job d r.copies.running)

    at : (c : Job) (o : Option Job) → copy_at job s.copies.running ≡ o → IsSomeAnd o (Now c) → copies_but job (map told_copy s.copies.running) ≡ copies_but job (map told_copy r.copies.running)
    at c None e is = absurd is
    at c (Some d) e is = ap (λ (cs : List Job). copies_but job (map told_copy cs)) is.1 ∙ but_with job d r.copies.running (numbered job d s.copies.running e)

    by : (o : Option Job) → IsSome o → IfSome o (λ c. IsSomeAnd (copy_at job s.copies.running) (Now c)) → copies_but job (map told_copy s.copies.running) ≡ copies_but job (map told_copy r.copies.running)
    by None none is = absurd (true≢false (sym none))
    by (Some c) some is = at c (copy_at job s.copies.running) refl is

-- ---- the rows of merges

-- a merge that was closed is none of them
pub none_open : (rows : List OpenMerge) (seg : ℕ) → open_merge seg (without_merge seg rows) ≡ None
none_open rows seg = open_without rows seg seg ∙ ap (λ (b : Bool). if b then None else open_merge seg rows) (eq-eqb seg seg refl)

-- one that was copied to replicas and has ended had a row, and has none
pub cut_rows : (line : LineNo) (seg : SegNo) (by : Option At) (old new : Run) → is_copied (spread_at (open_merge seg.0 old.rest.tasks.rows)) ≡ true → CutsOver line seg by old new → new.rest.tasks.rows ≡ old.rest.tasks.rows → ⊥
cut_rows line seg by old new copied ends same = closed (elim ends [ inl e ↦ e.ends.rows_are | inr e ↦ e.merge.ends.rows_are ])
  where
    closed : new.rest.tasks.rows ≡ without_merge seg.0 old.rest.tasks.rows → ⊥
    closed gone = true≢false (sym copied ∙ ap (λ (o : Option OpenMerge). is_copied (spread_at o)) (ap (open_merge seg.0) (sym same ∙ gone) ∙ none_open old.rest.tasks.rows seg.0))

-- one that starts has a row more
pub more_rows : (at : At) (factor : ℕ) (old new : Run) → BeginsMerge at factor old new → new.rest.tasks.rows ≡ old.rest.tasks.rows → ⊥
more_rows at factor old new w same =
    let more : length old.rest.tasks.rows ≡ length (old.rest.tasks.rows ++ record { seg = w.seg; line = at.line; spread = None } ∷ []) = ap length (sym same ∙ w.begins.rows_are) in
    let count = length-append old.rest.tasks.rows (record { seg = w.seg; line = at.line; spread = None } ∷ []) in
    absurd (omega (arith, more, count))

-- ---- over what callers see

-- where all is as before, it is but for the sizes
pub none_sized : (old new : Run) → KeepsRest old new → KeepsButSizes old new
none_sized old new kept = record {
  rest = kept ∙ λ i. record old.rest { sizes = (sym sizes) i; tasks = (sym tasks) i; plans = new.rest.plans; names = new.rest.names };
  still = λ same. kept;
}
  where
    sizes : new.rest.sizes ≡ old.rest.sizes
    sizes = ap (λ (x : Rest). x.sizes) kept

    tasks : new.rest.tasks ≡ old.rest.tasks
    tasks = ap (λ (x : Rest). x.tasks) kept

-- a line that was refused behind it
pub sized_then : (a b c : Run) → KeepsButSizes a b → KeepsRest b c → KeepsButSizes a c
sized_then a b c first second = record {
  rest = second ∙ (ap (λ (left : Rest). record left { plans = c.rest.plans; names = c.rest.names }) first.rest ∙ λ i. record a.rest { sizes = (sym sizes) i; tasks = (sym tasks) i; plans = c.rest.plans; names = c.rest.names });
  still = λ same. rest_then a b c (first.still (ap (λ (x : Board). x.rows) (sym tasks) ∙ same)) second;
}
  where
    sizes : c.rest.sizes ≡ b.rest.sizes
    sizes = ap (λ (x : Rest). x.sizes) second

    tasks : c.rest.tasks ≡ b.rest.tasks
    tasks = ap (λ (x : Rest). x.tasks) second

-- ---- in the terms of a call

module _ {D : Type 0} {named names : List (List Name)} (r now : Run) (carries : List Bool) (cut later : Bool) (board after : Board) (plans next : List Plans) (old new : List (Option (NodePlace D)))
    (was : record { calls_left = calls_in carries old; cut = cut; sizes = sizes_in old; jobs = jobs_in old; copies = copies_in old; tasks = board; plans = plans; names = named } ≡ r.rest)
    (is : record { calls_left = calls_in carries new; cut = later; sizes = sizes_in new; jobs = jobs_in new; copies = copies_in new; tasks = after; plans = next; names = names } ≡ now.rest) where
  calls_same : TellsCallsAndJobs old new → calls_in carries new ≡ calls_in carries old
  calls_same t = ap (with_own carries) (map_same place_calls old new t.count (λ k. t.calls (suc k)))

  jobs_same : TellsCallsAndJobs old new → jobs_in new ≡ jobs_in old
  jobs_same t = map_same place_files old new t.count (λ k. t.files (suc k))

  copies_same : length new ≡ length old → ((m : ℕ) → place_copies (place_of new m) ≡ place_copies (place_of old m)) → copies_in new ≡ copies_in old
  copies_same count each = map_same place_copies old new count (λ k. each (suc k))

  -- where the primary moved
  pub but_cut : (now.rest.tasks.rows ≡ r.rest.tasks.rows → KeepsRest r now) → TellsButSizes old new → KeepsButCut r now
  but_cut still t = record {
    rest =
        let calls = calls_same t.both in
        let jobs = jobs_same t.both in
        let copies = copies_same t.both.count t.copies in
        sym is
        ∙ ((λ i. record { calls_left = calls i; cut = later; sizes = sizes_in new; jobs = jobs i; copies = copies i; tasks = after; plans = next; names = names })
        ∙ (λ i. record (was i) { cut = (is i).cut; sizes = (is i).sizes; tasks = (is i).tasks; plans = (is i).plans; names = (is i).names }));
    still = still;
  }

  module _ (same : later ≡ cut) where
    pub but_sizes : (now.rest.tasks.rows ≡ r.rest.tasks.rows → KeepsRest r now) → TellsButSizes old new → KeepsButSizes r now
    but_sizes still t = record {
      rest =
          let calls = calls_same t.both in
          let jobs = jobs_same t.both in
          let copies = copies_same t.both.count t.copies in
          sym is
          ∙ ((λ i. record { calls_left = calls i; cut = same i; sizes = sizes_in new; jobs = jobs i; copies = copies i; tasks = after; plans = next; names = names })
          ∙ (λ i. record (was i) { sizes = (is i).sizes; tasks = (is i).tasks; plans = (is i).plans; names = (is i).names }));
      still = still;
    }

    -- where none did, or all tell the same
    tasks_rest : TellsAll old new → now.rest ≡ record r.rest { tasks = now.rest.tasks; plans = now.rest.plans; names = now.rest.names }
    tasks_rest t =
        let calls = calls_same t.both in
        let jobs = jobs_same t.both in
        let copies = copies_same t.both.count t.copies in
        let sizes = t.sizes in
        sym is
        ∙ ((λ i. record { calls_left = calls i; cut = same i; sizes = sizes i; jobs = jobs i; copies = copies i; tasks = after; plans = next; names = names })
        ∙ (λ i. record (was i) { tasks = (is i).tasks; plans = (is i).plans; names = (is i).names }))

    pub but_tasks : next ≡ plans → names ≡ named → TellsAll old new → KeepsButTasks r now
    but_tasks no_plan no_name t = record {
      rest = tasks_rest t ∙ λ i. record r.rest {
        tasks = now.rest.tasks;
        plans = (sym (ap (λ (x : Rest). x.plans) is) ∙ (no_plan ∙ ap (λ (x : Rest). x.plans) was)) i;
        names = (sym (ap (λ (x : Rest). x.names) is) ∙ (no_name ∙ ap (λ (x : Rest). x.names) was)) i;
      };
    }

    -- where all but a copy at one do
    pub but_copies : (n job : ℕ) → TellsButCopies n job old new → KeepsButCopies n job r now
    but_copies n job t = record {
      rest =
          let calls = calls_same t.both in
          let jobs = jobs_same t.both in
          let sizes = t.sizes in
          sym is
          ∙ ((λ i. record { calls_left = calls i; cut = same i; sizes = sizes i; jobs = jobs i; copies = copies_in new; tasks = after; plans = next; names = names })
          ∙ (λ i. record (was i) { copies = (is i).copies; tasks = (is i).tasks; plans = (is i).plans; names = (is i).names }));
      copies = λ m apart. merged_are m now new (sym (ap (λ (x : Rest). x.copies) is)) ∙ (t.copies m apart ∙ sym (merged_are m r old (sym (ap (λ (x : Rest). x.copies) was))));
      own = ap (copies_but job) (merged_are n now new (sym (ap (λ (x : Rest). x.copies) is))) ∙ (t.own ∙ ap (copies_but job) (sym (merged_are n r old (sym (ap (λ (x : Rest). x.copies) was)))));
    }

-- ---- by what came of the next step of a copy

module _ {D : Type 0} {named names : List (List Name)} (r now : Run) (carries : List Bool) (cut later : Bool) (board after : Board) (plans next : List Plans) (old new : List (Option (NodePlace D)))
    (was : record { calls_left = calls_in carries old; cut = cut; sizes = sizes_in old; jobs = jobs_in old; copies = copies_in old; tasks = board; plans = plans; names = named } ≡ r.rest)
    (is : record { calls_left = calls_in carries new; cut = later; sizes = sizes_in new; jobs = jobs_in new; copies = copies_in new; tasks = after; plans = next; names = names } ≡ now.rest) (same : later ≡ cut) where
  all_kept : after ≡ board → TellsAll old new → KeepsRest r now
  all_kept board_is t =
      tasks_rest r now carries cut later board after plans next old new was is same t
      ∙ λ i. record r.rest { tasks = (sym (ap (λ (x : Rest). x.tasks) is) ∙ (board_is ∙ ap (λ (x : Rest). x.tasks) was)) i; plans = now.rest.plans; names = now.rest.names }

  pub all_sized : after ≡ board → TellsAll old new → KeepsButSizes r now
  all_sized board_is t = none_sized r now (all_kept board_is t)

  pub but_ended : (at : At) (line : LineNo) (seg : SegNo) (by : Option At) (p n : NodeNo) (job : ℕ) (olds news : List (ℕ × ℕ)) (b met ledger : Sheet) (turn : CopyTurn) → StepsCopyTo at line seg by p n job olds news b met ledger board after turn
      → TellsButEnded n.0 job old new turn → KeepsButEnded n.0 job r now turn
  but_ended at line seg by p n job olds news b met ledger Waits steps t = all_kept steps.1 t
  but_ended at line seg by p n job olds news b met ledger (Hands file) steps t = all_kept steps.board_is t
  but_ended at line seg by p n job olds news b met ledger Ends steps t = but_copies r now carries cut later board after plans next old new was is same n.0 job t
  but_ended at line seg by p n job olds news b met ledger Fails steps t = but_copies r now carries cut later board after plans next old new was is same n.0 job t
