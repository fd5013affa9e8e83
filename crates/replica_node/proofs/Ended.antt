-- Copies that are given back.
use Rattle.std.proofs.Common.{◌≡◌, ◌+◌, ◌<◌, ◌≤◌, ◌^◌, ℕ, ◌++◌, Option, Some, None, sym, ap, subst, arith}
use Rattle.std.specs.Prelude.{IfSome}
use Rattle.std.specs.List.{AllByRecursion}
use Rattle.file_names.specs.Names.{temp_name_of}
use Rattle.disk_model.specs.Disk.{Name, Cells, reads_of}
use Rattle.file_deleter.specs.Holdings.{Holdings, times, AreCounted}
use Rattle.file_deleter.specs.Moves.{LetsGo}
use Rattle.file_deleter.proofs.NameLemmas.{times-append}
use Rattle.searcher_switch.proofs.Carry.{node_same_names}
use Rattle.searcher_switch.specs.Searching.{searcher_names}
use Rattle.copy_state.specs.States.{meta_names}
use Rattle.copy_job.specs.Jobs.{Job, job_names}
use Rattle.replica_node.specs.declared.job.PointJob.{PointJob}
use Rattle.replica_node.specs.declared.parts.ReplicaParts.{ReplicaParts}
use Rattle.replica_node.specs.Merges.{running_names, copies_names, copied_names, CopyApart}
use Rattle.replica_node.specs.Sources.{CopiesFrom, KeepsSource, HoldsOnly}
use Rattle.replica_node.specs.Waiting.{IsWaiting}
use Rattle.replica_node.specs.Replica.{IsWholeReplica, IsJobAbove, HasMetas, IsMergeCopy, AreMergeCopies, names_of_job, copying_names}
use Rattle.replica_node.proofs.Carried.{held_along}
use Rattle.replica_node.proofs.Cores.{IsCore}
use Rattle.replica_node.proofs.Foreign.{apart_back, point_foreign}
use Rattle.replica_node.proofs.Keeping.{Knows, Matches, core_of, whole_of, knows_reads, reads_known, as_reads, reads_as, source_spared, holds_beside}
use Rattle.replica_node.proofs.Merging.{all_map, all_both, all_held}
use Rattle.replica_node.proofs.GivenBack.{gone_counted, node_rest, point_rest, rest_other, rest_bytes, copy_bytes, copy_stays}

module _ {D : Type 0} (cells : D → Cells) (p : ReplicaParts D) (is : IsWholeReplica cells p) where
  core : IsCore cells p
  core = core_of cells p is

  few64 : (n : ℕ) → n ≤ p.jobs → n < 2 ^ 64
  few64 n le = omega (arith, le, is.few)

  each_given : AllByRecursion (λ c. IsMergeCopy (cells p.dir) p.files p.jobs c × ((q : Name) → times (job_names c) q ≤ times (running_names p.copies.running) q)) p.copies.running
  each_given = all_both (IsMergeCopy (cells p.dir) p.files p.jobs) (λ c. (q : Name) → times (job_names c) q ≤ times (running_names p.copies.running) q) p.copies.running is.merges.each
      (all_held p.copies.running (running_names p.copies.running) (λ q. omega arith))

  -- ---- the job ends
  module _ (j : PointJob) (e : p.job ≡ Some j) where
    job_split : (q : Name) → times (copying_names p) q ≡ times (job_names j.copy) q + times (copies_names p.copies) q
    job_split q =
        let had : times (names_of_job p.job) q ≡ times (job_names j.copy) q = ap (λ (o : Option PointJob). times (names_of_job o) q) e in
        omega (arith, had, times-append (names_of_job p.job) (copies_names p.copies) q)

    pub job_counted : AreCounted (job_names j.copy) p.files
    job_counted = gone_counted cells p core (job_names j.copy) (copies_names p.copies) job_split

    module _ (dir : D) (files : Holdings) (job : Option PointJob) (none : job ≡ None) (lets_go : LetsGo (job_names j.copy) p.files files (cells p.dir) (cells dir)) where
      no_names : (q : Name) → times (names_of_job job) q ≡ 0
      no_names q = ap (λ (x : Option PointJob). times (names_of_job x) q) none

      pub ended_core : IsCore cells (record p { dir = dir; files = files; job = job })
      ended_core = record {
        node = node_same_names (cells dir) files (searcher_names p.searchers ++ copies_names p.copies) (searcher_names p.searchers ++ (names_of_job job ++ copies_names p.copies)) p.commits
            (node_rest cells p core (job_names j.copy) (copies_names p.copies) job_split dir files lets_go)
            (λ q. omega (arith, no_names q, times-append (searcher_names p.searchers) (copies_names p.copies) q, times-append (searcher_names p.searchers) (names_of_job job ++ copies_names p.copies) q, times-append (names_of_job job) (copies_names p.copies) q));
        point = point_rest cells p core (job_names j.copy) (copies_names p.copies) job_split dir files lets_go;
        spelled = is.spelled;
        lasting = is.lasting;
        newer = subst (λ (x : Option PointJob). IfSome x (IsJobAbove p.searchers.point.version.0)) (sym none) tt;
        waits = subst (λ (x : Option PointJob). IfSome x (λ k. IsWaiting files k.copy)) (sym none) tt;
      }

      others_apart : AllByRecursion (CopyApart j.copy) p.copies.running
      others_apart = subst (λ (o : Option PointJob). IfSome o (λ k. AllByRecursion (CopyApart k.copy) p.copies.running)) e is.merges.beside_job

      within_rest : (c : Job) → ((q : Name) → times (job_names c) q ≤ times (running_names p.copies.running) q) → (q : Name) → times (job_names c) q ≤ times (copies_names p.copies) q
      within_rest c within q = omega (arith, within q, times-append (running_names p.copies.running) (meta_names p.copies.pending.files) q)

      foreign : (c : Job) → CopyApart j.copy c → (name : Name) (k : ℕ) → 0 < times (copied_names c) name → k < 2 ^ 64 → times (job_names j.copy) (temp_name_of name k) ≡ 0
      foreign c apart name k copied fewer = point_foreign cells p is k fewer name j e (apart_back j.copy c apart name copied)

      each_apart : AllByRecursion (λ c. (IsMergeCopy (cells p.dir) p.files p.jobs c × ((q : Name) → times (job_names c) q ≤ times (running_names p.copies.running) q)) × CopyApart j.copy c) p.copies.running
      each_apart = all_both (λ c. IsMergeCopy (cells p.dir) p.files p.jobs c × ((q : Name) → times (job_names c) q ≤ times (running_names p.copies.running) q)) (CopyApart j.copy) p.copies.running each_given others_apart

      ended_merges : AreMergeCopies (cells dir) files p.jobs job p.copies
      ended_merges = record {
        each = all_map (λ c. (IsMergeCopy (cells p.dir) p.files p.jobs c × ((q : Name) → times (job_names c) q ≤ times (running_names p.copies.running) q)) × CopyApart j.copy c) (IsMergeCopy (cells dir) files p.jobs) p.copies.running
            (λ c h. copy_stays cells p core (job_names j.copy) (copies_names p.copies) job_split dir files lets_go c (within_rest c h.0.1) (foreign c h.1) p.jobs h.0.0) each_apart;
        apart = is.merges.apart;
        beside_job = subst (λ (x : Option PointJob). IfSome x (λ k. AllByRecursion (CopyApart k.copy) p.copies.running)) (sym none) tt;
        job_given = subst (λ (x : Option PointJob). IfSome x (λ k. k.copy.number ≤ p.jobs)) (sym none) tt;
        pending = is.merges.pending;
        unexpected = is.merges.unexpected;
      }

      pub ended_whole : IsWholeReplica cells (record p { dir = dir; files = files; job = job })
      ended_whole = whole_of cells (record p { dir = dir; files = files; job = job }) ended_core is.segs
          (reads_known (cells dir) files p.known (held_along (Knows p.known) (cells p.dir) (cells dir) p.files files (rest_other cells p core (job_names j.copy) (copies_names p.copies) job_split dir files lets_go)
          (rest_bytes cells p core (job_names j.copy) (copies_names p.copies) job_split dir files lets_go) (knows_reads (cells p.dir) p.files p.known is.known)))
          (subst (λ (o : Option PointJob). IfSome o (λ k. HasMetas (reads_of (cells dir)) k.copy)) (sym none) tt) is.few ended_merges

      pub ended_sourced : KeepsSource cells p (record p { dir = dir; files = files; job = job })
      ended_sourced source h = record {
        held = reads_as source (cells dir) files (held_along (Matches source) (cells p.dir) (cells dir) p.files files (rest_other cells p core (job_names j.copy) (copies_names p.copies) job_split dir files lets_go)
            (rest_bytes cells p core (job_names j.copy) (copies_names p.copies) job_split dir files lets_go) (as_reads source (cells p.dir) p.files h.held));
        job = subst (λ (o : Option PointJob). IfSome o (λ k. CopiesFrom source (reads_of (cells dir)) k.copy)) (sym none) tt;
        merges = all_map (λ c. ((IsMergeCopy (cells p.dir) p.files p.jobs c × ((q : Name) → times (job_names c) q ≤ times (running_names p.copies.running) q)) × CopyApart j.copy c) × CopiesFrom source (reads_of (cells p.dir)) c) (CopiesFrom source (reads_of (cells dir))) p.copies.running
            (λ c k. source_spared source (cells p.dir) (cells dir) c k.0.0.0.copy (copy_bytes cells p core (job_names j.copy) (copies_names p.copies) job_split dir files lets_go c (within_rest c k.0.0.1) (foreign c k.0.1)) k.1)
            (all_both (λ c. (IsMergeCopy (cells p.dir) p.files p.jobs c × ((q : Name) → times (job_names c) q ≤ times (running_names p.copies.running) q)) × CopyApart j.copy c) (CopiesFrom source (reads_of (cells p.dir))) p.copies.running each_apart h.merges);
      }

      pub ended_held : HoldsOnly p (record p { dir = dir; files = files; job = job })
      ended_held = holds_beside p (record p { dir = dir; files = files; job = job }) (rest_other cells p core (job_names j.copy) (copies_names p.copies) job_split dir files lets_go)
