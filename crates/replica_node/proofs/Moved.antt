-- A merge copy that a call changes.
use Rattle.std.proofs.Common.{◌≡◌, ℕ, zero, suc, ◌+◌, ◌<◌, ◌≤◌, ◌^◌, true, List, ◌++◌, Option, Some, refl, sym, ap, subst, arith}
use Rattle.std.specs.Prelude.{IfSome}
use Rattle.std.specs.List.{AllByRecursion}
use Rattle.replica_node.proofs.Cancelled.{some_with}
use Rattle.file_names.specs.Names.{temp_name_of, is_pending_name}
use Rattle.disk_model.specs.Disk.{Name, Content, Cells, reads_of}
use Rattle.file_deleter.specs.Holdings.{Holdings, count_of, times}
use Rattle.file_deleter.specs.Moves.{MovesCounts}
use Rattle.file_deleter.proofs.NameLemmas.{times-append}
use Rattle.searcher_switch.specs.Node.{IsWholeNode, IsApart}
use Rattle.searcher_switch.proofs.Carry.{node_moves}
use Rattle.searcher_switch.specs.Tickets.{ticket_names}
use Rattle.searcher_switch.specs.Searching.{searcher_names}
use Rattle.copy_state.specs.declared.meta.FileMetaData.{FileMetaData}
use Rattle.copy_state.specs.States.{meta_names}
use Rattle.copy_job.specs.Jobs.{Job, IsJob, job_names}
use Rattle.replica_opening.specs.Known.{KnowsHeld, IsLasting}
use Rattle.replica_node.specs.declared.job.PointJob.{PointJob}
use Rattle.replica_node.specs.declared.parts.ReplicaParts.{ReplicaParts}
use Rattle.replica_node.specs.Merges.{copy_at, copies_with, copies_without, running_names, copies_names, copied_names, CopyApart}
use Rattle.replica_node.specs.Sources.{CopiesFrom, HeldReadAs, IsSourced}
use Rattle.replica_node.specs.Replica.{IsWholeReplica, IsJobAbove, HasMetas, IsMergeCopy, AreMergeCopies, names_of_job, copying_names, replica_names}
use Rattle.replica_node.proofs.Along.{point_along}
use Rattle.replica_node.proofs.Carried.{job_along}
use Rattle.replica_node.proofs.Cores.{IsCore}
use Rattle.replica_node.proofs.Foreign.{apart_back, merge_foreign}
use Rattle.replica_node.proofs.Keeping.{HasWanted, whole_of, merge_spared, merge_lasts, source_spared, metas_reads, reads_metas, some_map}
use Rattle.replica_node.proofs.Merging.{all_map, all_both, all_at, all_held, all_put, all_without, all_dropped, apart_with, apart_sym, names-with, names-without}
use Rattle.replica_node.proofs.Sparing.{SparesJob, waits_spared, copied_lasts}

module _ {D : Type 0} (cells : D → Cells) (p : ReplicaParts D) (is : IsWholeReplica cells p) (number : ℕ) (c : Job) (e : copy_at number p.copies.running ≡ Some c) (now : Job) (dir : D) (files : Holdings) (written : List Name)
    (moves : MovesCounts written (job_names c) (job_names now) p.files files (cells p.dir) (cells dir)) (apart : IsApart written p.commits) (plain : (q : Name) → is_pending_name q ≡ true → times (job_names now) q ≡ 0) where
  pub is_copy : IsMergeCopy (cells p.dir) p.files p.jobs c
  is_copy = all_at (IsMergeCopy (cells p.dir) p.files p.jobs) number p.copies.running c e is.merges.each

  -- the names of all holders, before and after
  with_names : (q : Name) → times (copies_names (record { running = copies_with number now p.copies.running; pending = p.copies.pending })) q + times (job_names c) q ≡ times (copies_names p.copies) q + times (job_names now) q
  with_names q = omega (arith, names-with number p.copies.running c now q e, times-append (running_names (copies_with number now p.copies.running)) (meta_names p.copies.pending.files) q, times-append (running_names p.copies.running) (meta_names p.copies.pending.files) q)

  was_split : (q : Name) → times (replica_names p) q ≡ times (searcher_names p.searchers) q + (times (names_of_job p.job) q + times (copies_names p.copies) q)
  was_split q = omega (arith, times-append (searcher_names p.searchers) (copying_names p) q, times-append (names_of_job p.job) (copies_names p.copies) q)

  now_split : (q : Name) → times (searcher_names p.searchers ++ (names_of_job p.job ++ copies_names (record { running = copies_with number now p.copies.running; pending = p.copies.pending }))) q
      ≡ times (searcher_names p.searchers) q + (times (names_of_job p.job) q + times (copies_names (record { running = copies_with number now p.copies.running; pending = p.copies.pending })) q)
  now_split q = omega (
    arith,
    times-append (searcher_names p.searchers) (names_of_job p.job ++ copies_names (record { running = copies_with number now p.copies.running; pending = p.copies.pending })) q,
    times-append (names_of_job p.job) (copies_names (record { running = copies_with number now p.copies.running; pending = p.copies.pending })) q,
  )

  node : IsWholeNode (cells dir) files (searcher_names p.searchers ++ (names_of_job p.job ++ copies_names (record { running = copies_with number now p.copies.running; pending = p.copies.pending }))) p.commits
  node = node_moves (cells p.dir) (cells dir) p.files files (replica_names p) (searcher_names p.searchers ++ (names_of_job p.job ++ copies_names (record { running = copies_with number now p.copies.running; pending = p.copies.pending })))
      (job_names c) (job_names now) p.commits written is.node apart moves (λ q. omega (arith, was_split q, now_split q, with_names q))
      (record { each = λ q named. omega (arith, was_split q, now_split q, with_names q, is.node.plain.each q named, plain q named) })

  -- what holds beside the copy is held before and after
  beside_bytes : (names : List Name) → ((q : Name) → times names q + times (job_names c) q ≤ times (replica_names p) q) → (q : Name) → 0 < times names q → (cells dir q).now ≡ (cells p.dir q).now
  beside_bytes names within q some = moves.keeps.reads q (omega (arith, some, within q, is.node.counts q)) (omega (arith, some, within q, is.node.counts q, moves.balance q))

  copy_within : (q : Name) → times (job_names c) q ≤ times (copies_names p.copies) q
  copy_within q = omega (arith, all_within q, times-append (running_names p.copies.running) (meta_names p.copies.pending.files) q)
    where
      all_within : (q : Name) → times (job_names c) q ≤ times (running_names p.copies.running) q
      all_within = all_at (λ k. (q : Name) → times (job_names k) q ≤ times (running_names p.copies.running) q) number p.copies.running c e (all_held p.copies.running (running_names p.copies.running) (λ q. omega arith))

  point_still : (q : Name) → 0 < times p.searchers.point.names q → (cells dir q).now ≡ (cells p.dir q).now
  point_still = beside_bytes p.searchers.point.names (λ q. omega (arith, was_split q, copy_within q, times-append p.searchers.point.names (ticket_names p.searchers.tickets) q))

  module _ (given : now.number ≤ p.jobs) (number_now : now.number ≡ c.number) (foreign : (number : ℕ) → number < 2 ^ 64 → (name : Name) → times (copied_names c) name ≡ 0 → times (job_names now) (temp_name_of name number) ≡ 0)
      (newly : (q : Name) → IsLasting q → count_of p.files q ≡ 0 → 0 < count_of files q → 0 < times (copied_names c) q) where
    same_temporary : (number : ℕ) → number < 2 ^ 64 → (name : Name) → times (copied_names c) name ≡ 0 → count_of files (temp_name_of name number) ≡ count_of p.files (temp_name_of name number)
    same_temporary n fewer name other = omega (arith, moves.balance (temp_name_of name n), foreign n fewer name other, merge_foreign (cells p.dir) p.files p.jobs c is_copy n fewer name other)

    still_unheld : (d : Job) → CopyApart c d → ((q : Name) → 0 < times (copied_names d) q → IsLasting q) → (q : Name) → 0 < times (copied_names d) q → count_of p.files q ≡ 0 → count_of files q ≡ 0
    still_unheld d h lasts q copied none = by (count_of files q) refl
      where
        by : (n : ℕ) → count_of files q ≡ n → count_of files q ≡ 0
        by zero f = f
        by (suc n) f = absurd (let z : times (copied_names d) q ≡ 0 = h.files q (newly q (lasts q copied) none (omega (arith, f))) in omega (arith, copied, z))

    -- ---- the job
    job_apart : (j : PointJob) → p.job ≡ Some j → CopyApart c j.copy
    job_apart j f =
        let all : AllByRecursion (CopyApart j.copy) p.copies.running = subst (λ (o : Option PointJob). IfSome o (λ k. AllByRecursion (CopyApart k.copy) p.copies.running)) f is.merges.beside_job in
        let mine : CopyApart j.copy c = all_at (CopyApart j.copy) number p.copies.running c e all in
        record { numbers = λ same. mine.numbers (sym same); files = λ q some. none q mine some (times (copied_names j.copy) q) refl }
      where
        none : (q : Name) → CopyApart j.copy c → 0 < times (copied_names c) q → (n : ℕ) → times (copied_names j.copy) q ≡ n → times (copied_names j.copy) q ≡ 0
        none q mine some zero z = z
        none q mine some (suc n) z = absurd (omega (arith, some, mine.files q (omega (arith, z))))

    job_spared : (j : PointJob) → p.job ≡ Some j → SparesJob j.copy p.files files (cells p.dir) (cells dir)
    job_spared j f =
        let above : IsJobAbove p.searchers.point.version.0 j = subst (λ (o : Option PointJob). IfSome o (IsJobAbove p.searchers.point.version.0)) f is.newer in
        let same : (q : Name) → times (names_of_job p.job) q ≡ times (job_names j.copy) q = λ q. ap (λ (o : Option PointJob). times (names_of_job o) q) f in
        record {
          temporary = λ name n copied fewer. same_temporary n fewer name (apart_back c j.copy (job_apart j f) name copied);
          unheld = still_unheld j.copy (job_apart j f) (copied_lasts j.infos j.copy above.copy above.state.files);
          bytes = beside_bytes (job_names j.copy) (λ q. omega (arith, was_split q, copy_within q, same q));
        }

    job_is : (j : PointJob) → p.job ≡ Some j → IsJob j.copy
    job_is j f = (subst (λ (o : Option PointJob). IfSome o (IsJobAbove p.searchers.point.version.0)) f is.newer).copy

    pub moved_core : IsCore cells (record p { dir = dir; files = files; copies = record { running = copies_with number now p.copies.running; pending = p.copies.pending } })
    moved_core = record {
      node = node;
      point = point_along (cells p.dir) (cells dir) p.infos p.searchers.point is.point point_still;
      spelled = is.spelled;
      lasting = is.lasting;
      newer = is.newer;
      waits = some_with p.job (λ j f. waits_spared j.copy p.files files (cells p.dir) (cells dir) (job_spared j f)) is.waits;
    }

    -- ---- the other copies
    abbrev Other : Job → Type 0
    Other d = (IsMergeCopy (cells p.dir) p.files p.jobs d × CopyApart c d) × ((q : Name) → times (job_names d) q ≤ times (running_names (copies_without number p.copies.running)) q)

    others : AllByRecursion Other (copies_without number p.copies.running)
    others = all_both (λ d. IsMergeCopy (cells p.dir) p.files p.jobs d × CopyApart c d) (λ d. (q : Name) → times (job_names d) q ≤ times (running_names (copies_without number p.copies.running)) q) (copies_without number p.copies.running)
        (all_without (IsMergeCopy (cells p.dir) p.files p.jobs) number p.copies.running c e is.merges.apart is.merges.each)
        (all_held (copies_without number p.copies.running) (running_names (copies_without number p.copies.running)) (λ q. omega arith))

    other_bytes : (d : Job) → ((q : Name) → times (job_names d) q ≤ times (running_names (copies_without number p.copies.running)) q) → (q : Name) → 0 < times (job_names d) q → (cells dir q).now ≡ (cells p.dir q).now
    other_bytes d within = beside_bytes (job_names d) (λ q. omega (arith, within q, was_split q, names-without number p.copies.running c q e, times-append (running_names p.copies.running) (meta_names p.copies.pending.files) q))

    other_spared : (d : Job) → Other d → SparesJob d p.files files (cells p.dir) (cells dir)
    other_spared d h = record {
      temporary = λ name n copied fewer. same_temporary n fewer name (apart_back c d h.0.1 name copied);
      unheld = still_unheld d h.0.1 (merge_lasts (cells p.dir) p.files p.jobs d h.0.0);
      bytes = other_bytes d h.1;
    }

    module _ (turns : (d : Job) → CopyApart c d → CopyApart now d) (is_now : IsMergeCopy (cells dir) files p.jobs now) where
      now_apart : (j : PointJob) → AllByRecursion (CopyApart j.copy) p.copies.running → AllByRecursion (CopyApart j.copy) (copies_with number now p.copies.running)
      now_apart j h = all_put (CopyApart j.copy) number p.copies.running now (apart_sym now j.copy (turns j.copy (apart_sym j.copy c (all_at (CopyApart j.copy) number p.copies.running c e h)))) (all_dropped (CopyApart j.copy) number p.copies.running h)

      moved_merges : AreMergeCopies (cells dir) files p.jobs p.job (record { running = copies_with number now p.copies.running; pending = p.copies.pending })
      moved_merges = record {
        each = all_put (IsMergeCopy (cells dir) files p.jobs) number p.copies.running now is_now
            (all_map Other (IsMergeCopy (cells dir) files p.jobs) (copies_without number p.copies.running) (λ d h. merge_spared (cells p.dir) (cells dir) p.files files p.jobs p.jobs d (omega arith) (other_spared d h) h.0.0) others);
        apart = apart_with number p.copies.running c now e turns is.merges.apart;
        beside_job = some_map p.job now_apart is.merges.beside_job;
        job_given = is.merges.job_given;
        pending = is.merges.pending;
        unexpected = is.merges.unexpected;
      }

      -- the metadata of the job's files
      job_copied : IfSome p.job (λ j. HasMetas (reads_of (cells dir)) j.copy)
      job_copied = some_with p.job (λ j f h. reads_metas (cells dir) j.copy (job_along (HasWanted j.copy.want.files) (cells p.dir) (cells dir) j.copy (job_is j f) (job_spared j f).bytes (metas_reads (cells p.dir) j.copy h))) is.copied

      pub moved_whole : (known : List (Name × FileMetaData)) → KnowsHeld (reads_of (cells dir)) files known
          → IsWholeReplica cells (record p { dir = dir; files = files; known = known; copies = record { running = copies_with number now p.copies.running; pending = p.copies.pending } })
      moved_whole known knows = whole_of cells (record p { dir = dir; files = files; known = known; copies = record { running = copies_with number now p.copies.running; pending = p.copies.pending } })
          (record { node = moved_core.node; point = moved_core.point; spelled = moved_core.spelled; lasting = moved_core.lasting; newer = moved_core.newer; waits = moved_core.waits }) is.segs knows job_copied is.few moved_merges

    -- what the copies have reads as at the source
    pub moved_sourced : (source : Name → Content) (known : List (Name × FileMetaData)) → HeldReadAs source (cells dir) files → CopiesFrom source (reads_of (cells dir)) now → IsSourced source cells p
        → IsSourced source cells (record p { dir = dir; files = files; known = known; copies = record { running = copies_with number now p.copies.running; pending = p.copies.pending } })
    moved_sourced source known held mine h = record {
      held = held;
      job = some_with p.job (λ j f k. source_spared source (cells p.dir) (cells dir) j.copy (job_is j f) (job_spared j f).bytes k) h.job;
      merges = all_put (CopiesFrom source (reads_of (cells dir))) number p.copies.running now mine
          (all_map (λ d. Other d × CopiesFrom source (reads_of (cells p.dir)) d) (CopiesFrom source (reads_of (cells dir))) (copies_without number p.copies.running) (λ d k. source_spared source (cells p.dir) (cells dir) d k.0.0.0.copy (other_bytes d k.0.1) k.1)
          (all_both Other (CopiesFrom source (reads_of (cells p.dir))) (copies_without number p.copies.running) others (all_dropped (CopiesFrom source (reads_of (cells p.dir))) number p.copies.running h.merges)));
    }
