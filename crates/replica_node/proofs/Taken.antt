-- A replica over a part that arrives.
use Rattle.std.proofs.Common.{◌≡◌, ℕ, ◌+◌, ◌<◌, ◌≤◌, ◌^◌, List, [], ◌∷◌, Option, Some, refl, sym, ap, subst, ◌∙◌, arith}
use Rattle.std.specs.Prelude.{IfSome, OnOk, OnErr, Result, Ok, Err}
use Rattle.std.specs.List.{AllByRecursion}
use Rattle.std.proofs.lemmas.Option.{same_Some}
use Rattle.file_names.specs.Names.{temp_name_of}
use Rattle.disk_model.specs.Disk.{Name, Content, Cells, reads_of}
use Rattle.file_deleter.specs.Holdings.{Holdings, count_of, times}
use Rattle.file_deleter.specs.Moves.{MovesCounts}
use Rattle.file_deleter.proofs.NameLemmas.{times-append, once}
use Rattle.searcher_switch.specs.Node.{KeepsBytes}
use Rattle.copy_state.specs.declared.meta.FileMetaData.{FileMetaData}
use Rattle.copy_state.specs.Meta.{IsMetaOf}
use Rattle.copy_state.specs.States.{meta_names, meta_in}
use Rattle.copy_job.specs.Jobs.{Job, IsJob, job_names, with_part}
use Rattle.replica_node.specs.declared.job.PointJob.{PointJob}
use Rattle.replica_node.specs.declared.parts.ReplicaParts.{ReplicaParts}
use Rattle.replica_node.specs.Merges.{running_names, copies_names, copied_names, CopyApart}
use Rattle.replica_node.specs.Sources.{CopiesFrom, IsSourced, KeepsSource, HoldsOnly}
use Rattle.replica_node.specs.Replica.{IsWholeReplica, IsJobAbove, HasMetas, IsMergeCopy, AreMergeCopies}
use Rattle.replica_node.proofs.Carried.{JobReads, HoldsNoOther, job_arrives, held_along}
use Rattle.replica_node.proofs.Cores.{IsCore}
use Rattle.replica_node.proofs.Foreign.{beside_foreign, other_temporary}
use Rattle.replica_node.proofs.Keeping.{Knows, HasWanted, Matches, core_of, whole_of, whole_beside, sourced_beside, holds_beside, knows_reads, reads_known, metas_reads, reads_metas, as_reads, reads_as, copies_reads, reads_copies, merge_spared, merge_lasts, source_spared}
use Rattle.replica_node.proofs.Merging.{all_map, all_both, all_held}
use Rattle.replica_node.proofs.Sparing.{SparesJob, copied_part, copied_missing}
use Rattle.replica_node.proofs.Arrivals.{arrives, stays_out, node_j, held_split, counts_new}
use Rattle.replica_node.proofs.PartsArriving.{part_added}

module _ {D : Type 0} (cells : D → Cells) (p : ReplicaParts D) (is : IsWholeReplica cells p) where
  -- ---- the job's temporary names are held by nobody beside it
  module _ (j : PointJob) (e : p.job ≡ Some j) where
    pub few_job : j.copy.number < 2 ^ 64
    few_job = let given : j.copy.number ≤ p.jobs = subst (λ (o : Option PointJob). IfSome o (λ k. k.copy.number ≤ p.jobs)) e is.merges.job_given in omega (arith, given, is.few)

    pub foreign_job : (name : Name) → 0 < times (copied_names j.copy) name → times (copies_names p.copies) (temp_name_of name j.copy.number) ≡ 0
    foreign_job name copied = beside_foreign cells p is j e j.copy.number few_job name copied

  -- ---- a part that arrives, or does not
  module _ (j : PointJob) (e : p.job ≡ Some j) (name : Name) (missing : IfSome p.job (λ k. 0 < times k.copy.missing name)) (dir : D) (files : Holdings) (now : Job)
      (moves : MovesCounts (temp_name_of name j.copy.number ∷ []) (job_names j.copy) (job_names now) p.files files (cells p.dir) (cells dir)) (is_job : IsJob now) where
    above_j : IsJobAbove p.searchers.point.version.0 j
    above_j = subst (λ (o : Option PointJob). IfSome o (IsJobAbove p.searchers.point.version.0)) e is.newer

    missing_j : 0 < times j.copy.missing name
    missing_j = subst (λ (x : Option PointJob). IfSome x (λ k. 0 < times k.copy.missing name)) e missing

    copied_j : HasMetas (reads_of (cells p.dir)) j.copy
    copied_j = subst (λ (o : Option PointJob). IfSome o (λ k. HasMetas (reads_of (cells p.dir)) k.copy)) e is.copied

    given_j : j.copy.number ≤ p.jobs
    given_j = subst (λ (o : Option PointJob). IfSome o (λ k. k.copy.number ≤ p.jobs)) e is.merges.job_given

    apart_j : AllByRecursion (CopyApart j.copy) p.copies.running
    apart_j = subst (λ (o : Option PointJob). IfSome o (λ k. AllByRecursion (CopyApart k.copy) p.copies.running)) e is.merges.beside_job

    bytes_j : KeepsBytes p.files files (cells p.dir) (cells dir)
    bytes_j = record { held = moves.keeps.reads }

    once_j : (q : Name) → times (meta_names j.copy.want.files) q ≤ 1
    once_j q = once (meta_names j.copy.want.files) q above_j.state.files.ascending

    module _ (made : now ≡ with_part j.copy name) where
      pub arrived_core : IsCore cells (record p { dir = dir; files = files; job = Some (record { copy = now; infos = j.infos; stopped = j.stopped }) })
      arrived_core = arrives cells p (core_of cells p is) j e (few_job j e) (foreign_job j e) name missing dir files now moves is_job made

      arrived_other : HoldsNoOther p.files files
      arrived_other = record { each = λ q lasting z. omega (arith, z, counts_new cells p (core_of cells p is) j e name dir files now moves made q lasting) }

      more : (q : Name) → count_of files q ≡ count_of p.files q + times (temp_name_of name j.copy.number ∷ []) q
      more q = omega (arith, moves.balance q, part_added j.copy now name made q)

      held_bytes : (q : Name) → 0 < count_of p.files q → (cells dir q).now ≡ (cells p.dir q).now
      held_bytes q had = bytes_j.held q had (omega (arith, had, more q))

      job_bytes : (q : Name) → 0 < times (job_names j.copy) q → (cells dir q).now ≡ (cells p.dir q).now
      job_bytes q some = held_bytes q (omega (arith, some, (node_j cells p (core_of cells p is) j e).counts q, held_split cells p (core_of cells p is) j e (job_names j.copy) q))

      arrived_reads : (J : Name → Content → Type 0) → J name (cells dir (temp_name_of name j.copy.number)).now → JobReads J (cells p.dir) j.copy → JobReads J (cells dir) (with_part j.copy name)
      arrived_reads J here h = job_arrives J (cells p.dir) (cells dir) j.copy above_j.copy once_j name missing_j job_bytes here h

      -- ---- the merge copies
      copy_bytes : (c : Job) → ((q : Name) → times (job_names c) q ≤ times (running_names p.copies.running) q) → (q : Name) → 0 < times (job_names c) q → (cells dir q).now ≡ (cells p.dir q).now
      copy_bytes c within q some = held_bytes q (omega (
        arith,
        some,
        within q,
        (node_j cells p (core_of cells p is) j e).counts q,
        held_split cells p (core_of cells p is) j e (job_names j.copy) q,
        times-append (running_names p.copies.running) (meta_names p.copies.pending.files) q,
      ))

      spares : (c : Job) → IsMergeCopy (cells p.dir) p.files p.jobs c → ((q : Name) → times (job_names c) q ≤ times (running_names p.copies.running) q) → CopyApart j.copy c → SparesJob c p.files files (cells p.dir) (cells dir)
      spares c m within apart = record {
        temporary = λ other number copied fewer. omega (
          arith,
          more (temp_name_of other number),
          other_temporary name other j.copy.number number (few_job j e) fewer
              (λ same. (let none : times (copied_names c) name ≡ 0 = apart.files name (copied_missing j.copy name missing_j) in let some : 0 < times (copied_names c) name = subst (λ (n : Name). 0 < times (copied_names c) n) (sym same) copied in absurd (omega (arith, none, some)))),
        );
        unheld = λ q copied none. arrived_other.each q (merge_lasts (cells p.dir) p.files p.jobs c m q copied) none;
        bytes = copy_bytes c within;
      }

      abbrev Stays : Job → Type 0
      Stays c = (IsMergeCopy (cells p.dir) p.files p.jobs c × ((q : Name) → times (job_names c) q ≤ times (running_names p.copies.running) q)) × CopyApart j.copy c

      each_stays : AllByRecursion Stays p.copies.running
      each_stays = all_both (λ c. IsMergeCopy (cells p.dir) p.files p.jobs c × ((q : Name) → times (job_names c) q ≤ times (running_names p.copies.running) q)) (CopyApart j.copy) p.copies.running
          (all_both (IsMergeCopy (cells p.dir) p.files p.jobs) (λ c. (q : Name) → times (job_names c) q ≤ times (running_names p.copies.running) q) p.copies.running is.merges.each
          (all_held p.copies.running (running_names p.copies.running) (λ q. omega arith))) apart_j

      same_number : now.number ≡ j.copy.number
      same_number = ap (λ (k : Job). k.number) made

      now_apart : (c : Job) → CopyApart j.copy c → CopyApart now c
      now_apart c h = record {
        numbers = λ same. h.numbers (sym same_number ∙ same);
        files = λ q some. h.files q (copied_part j.copy name missing_j q (subst (λ (k : Job). 0 < times (copied_names k) q) made some));
      }

      arrived_merges : AreMergeCopies (cells dir) files p.jobs (Some (record { copy = now; infos = j.infos; stopped = j.stopped })) p.copies
      arrived_merges = record {
        each = all_map Stays (IsMergeCopy (cells dir) files p.jobs) p.copies.running (λ c h. merge_spared (cells p.dir) (cells dir) p.files files p.jobs p.jobs c (omega arith) (spares c h.0.0 h.0.1 h.1) h.0.0) each_stays;
        apart = is.merges.apart;
        beside_job = all_map (CopyApart j.copy) (CopyApart now) p.copies.running now_apart apart_j;
        job_given = omega (arith, given_j, same_number);
        pending = is.merges.pending;
        unexpected = is.merges.unexpected;
      }

      pub arrived_held : HoldsOnly p (record p { dir = dir; files = files; job = Some (record { copy = now; infos = j.infos; stopped = j.stopped }) })
      arrived_held = holds_beside p (record p { dir = dir; files = files; job = Some (record { copy = now; infos = j.infos; stopped = j.stopped }) }) arrived_other

      module _ (bytes : List ℕ) (written : (cells dir (temp_name_of name j.copy.number)).now ≡ Some bytes) where
        pub arrived_whole : (meta : FileMetaData) → IsMetaOf bytes meta → meta_in j.copy.want.files name ≡ Some meta → IsWholeReplica cells (record p { dir = dir; files = files; job = Some (record { copy = now; infos = j.infos; stopped = j.stopped }) })
        arrived_whole meta meta_is wanted = whole_of cells (record p { dir = dir; files = files; job = Some (record { copy = now; infos = j.infos; stopped = j.stopped }) }) arrived_core is.segs
            (reads_known (cells dir) files p.known (held_along (Knows p.known) (cells p.dir) (cells dir) p.files files arrived_other bytes_j (knows_reads (cells p.dir) p.files p.known is.known)))
            (subst (λ (k : Job). HasMetas (reads_of (cells dir)) k) (sym made) (reads_metas (cells dir) (with_part j.copy name)
            (arrived_reads (HasWanted j.copy.want.files) (λ m f. record { bytes = bytes; there = written; meta_is = subst (IsMetaOf bytes) (same_Some meta m (sym wanted ∙ f)) meta_is }) (metas_reads (cells p.dir) j.copy copied_j))))
            is.few arrived_merges

        pub arrived_sourced : (source : Name → Content) → source name ≡ Some bytes → IsSourced source cells p → IsSourced source cells (record p { dir = dir; files = files; job = Some (record { copy = now; infos = j.infos; stopped = j.stopped }) })
        arrived_sourced source is_source h = record {
          held = reads_as source (cells dir) files (held_along (Matches source) (cells p.dir) (cells dir) p.files files arrived_other bytes_j (as_reads source (cells p.dir) p.files h.held));
          job = subst (λ (k : Job). CopiesFrom source (reads_of (cells dir)) k) (sym made) (reads_copies source (cells dir) (with_part j.copy name) (arrived_reads (Matches source) (written ∙ sym is_source)
              (copies_reads source (cells p.dir) j.copy (subst (λ (o : Option PointJob). IfSome o (λ k. CopiesFrom source (reads_of (cells p.dir)) k.copy)) e h.job))));
          merges = all_map (λ c. Stays c × CopiesFrom source (reads_of (cells p.dir)) c) (CopiesFrom source (reads_of (cells dir))) p.copies.running
              (λ c k. source_spared source (cells p.dir) (cells dir) c k.0.0.0.copy (copy_bytes c k.0.0.1) k.1) (all_both Stays (CopiesFrom source (reads_of (cells p.dir))) p.copies.running each_stays h.merges);
        }

    module _ (same_job : now ≡ j.copy) where
      out_job : Some (record { copy = now; infos = j.infos; stopped = j.stopped }) ≡ p.job
      out_job = ap (λ (k : Job). Some (record { copy = k; infos = j.infos; stopped = j.stopped })) same_job ∙ sym e

      pub out_core : IsCore cells (record p { dir = dir; files = files; job = Some (record { copy = now; infos = j.infos; stopped = j.stopped }) })
      out_core = stays_out cells p (core_of cells p is) j e (few_job j e) (foreign_job j e) name missing dir files now moves is_job same_job

      out_other : HoldsNoOther p.files files
      out_other = record { each = λ q lasting z. let f : times (job_names now) q ≡ times (job_names j.copy) q = ap (λ (x : Job). times (job_names x) q) same_job in omega (arith, f, z, moves.balance q) }

      pub out_whole : IsWholeReplica cells (record p { dir = dir; files = files; job = Some (record { copy = now; infos = j.infos; stopped = j.stopped }) })
      out_whole = whole_beside cells p (record p { dir = dir; files = files; job = Some (record { copy = now; infos = j.infos; stopped = j.stopped }) }) is out_core out_job refl out_other bytes_j refl refl refl refl

      pub out_sourced : KeepsSource cells p (record p { dir = dir; files = files; job = Some (record { copy = now; infos = j.infos; stopped = j.stopped }) })
      out_sourced = sourced_beside cells p (record p { dir = dir; files = files; job = Some (record { copy = now; infos = j.infos; stopped = j.stopped }) }) is out_core out_job refl out_other bytes_j

      pub out_held : HoldsOnly p (record p { dir = dir; files = files; job = Some (record { copy = now; infos = j.infos; stopped = j.stopped }) })
      out_held = holds_beside p (record p { dir = dir; files = files; job = Some (record { copy = now; infos = j.infos; stopped = j.stopped }) }) out_other

    -- ---- both, by the result
    pub part_core : {T E : Type 0} (result : Result T E) → OnOk result (now ≡ with_part j.copy name) → OnErr result (now ≡ j.copy) → IsCore cells (record p { dir = dir; files = files; job = Some (record { copy = now; infos = j.infos; stopped = j.stopped }) })
    part_core (Ok x) made same = arrived_core made
    part_core (Err x) made same = out_core same

    pub part_held : {T E : Type 0} (result : Result T E) → OnOk result (now ≡ with_part j.copy name) → OnErr result (now ≡ j.copy) → HoldsOnly p (record p { dir = dir; files = files; job = Some (record { copy = now; infos = j.infos; stopped = j.stopped }) })
    part_held (Ok x) made same = arrived_held made
    part_held (Err x) made same = out_held same

    module _ (bytes : List ℕ) where
      pub part_whole : {T E : Type 0} (result : Result T E) → OnOk result (now ≡ with_part j.copy name) → OnErr result (now ≡ j.copy) → OnOk result ((cells dir (temp_name_of name j.copy.number)).now ≡ Some bytes)
          → (meta : FileMetaData) → IsMetaOf bytes meta → meta_in j.copy.want.files name ≡ Some meta → IsWholeReplica cells (record p { dir = dir; files = files; job = Some (record { copy = now; infos = j.infos; stopped = j.stopped }) })
      part_whole (Ok x) made same written meta meta_is wanted = arrived_whole made bytes written meta meta_is wanted
      part_whole (Err x) made same written meta meta_is wanted = out_whole same

      pub part_sourced : {T E : Type 0} (result : Result T E) → OnOk result (now ≡ with_part j.copy name) → OnErr result (now ≡ j.copy) → OnOk result ((cells dir (temp_name_of name j.copy.number)).now ≡ Some bytes)
          → (source : Name → Content) → source name ≡ Some bytes → IsSourced source cells p → IsSourced source cells (record p { dir = dir; files = files; job = Some (record { copy = now; infos = j.infos; stopped = j.stopped }) })
      part_sourced (Ok x) made same written source is_source h = arrived_sourced made bytes written source is_source h
      part_sourced (Err x) made same written source is_source h = out_sourced same source h
