-- A part of a merge copy arrives, or does not.
use Rattle.std.proofs.Common.{◌≡◌, ℕ, ◌+◌, ◌<◌, ◌^◌, Bool, true, false, List, [], ◌∷◌, ◌++◌, Option, Some, None, is_some, true≢false, cond, refl, sym, ap, subst, ◌∙◌, arith}
use Rattle.std.specs.Prelude.{◌==◌, if◌then◌else◌, IfSome, OnOk, OnErr, Result, Ok, Err}
use Rattle.std.specs.List.{AllByRecursion}
use Rattle.std.proofs.lemmas.Option.{same_Some}
use Rattle.file_names.specs.Names.{temp_name_of, is_pending_name}
use Rattle.disk_model.specs.Disk.{Name, Content, Cells, same, is_among, reads_of}
use Rattle.disk_model.proofs.CellLemmas.{same_true}
use Rattle.file_deleter.specs.Holdings.{Holdings, count_of, times}
use Rattle.file_deleter.specs.Moves.{MovesCounts}
use Rattle.file_deleter.proofs.NameLemmas.{times-append, times_one, among_times, once}
use Rattle.segment_infos.specs.Files.{AreFilesOf}
use Rattle.searcher_switch.specs.Appearing.{AppearsOnly}
use Rattle.searcher_switch.proofs.Appearing.{keeps_only}
use Rattle.searcher_switch.specs.Node.{IsApart, KeepsBytes}
use Rattle.searcher_switch.proofs.Carry.{unheld_apart}
use Rattle.commit_steps.specs.Book.{book_names}
use Rattle.searcher_switch.specs.Searching.{searcher_names}
use Rattle.copy_state.specs.declared.meta.FileMetaData.{FileMetaData}
use Rattle.copy_state.specs.Meta.{IsMetaOf}
use Rattle.copy_state.specs.States.{meta_names, meta_in}
use Rattle.copy_job.specs.Jobs.{Job, IsJob, job_names, with_part}
use Rattle.replica_opening.specs.Known.{IsLasting}
use Rattle.replica_node.specs.declared.job.PointJob.{PointJob}
use Rattle.replica_node.specs.declared.parts.ReplicaParts.{ReplicaParts}
use Rattle.copy_job.specs.declared.copying.Part.{Part}
use Rattle.replica_node.specs.Merges.{copy_at, copies_with, copies_without, running_names, copies_names, copied_names, CopyApart, CanTakePart}
use Rattle.replica_node.specs.Moving.{PartComes}
use Rattle.replica_node.specs.Sources.{CopiesFrom, IsSourced, HoldsOnly}
use Rattle.replica_node.specs.Replica.{IsWholeReplica, AreStanding, IsMergeCopy, names_of_job, copying_names, replica_names}
use Rattle.replica_node.proofs.Beside.{standing_on}
use Rattle.replica_node.proofs.Carried.{JobReads, HoldsNoOther, held_along, job_arrives}
use Rattle.replica_node.proofs.Foreign.{apart_back, other_temporary, merge_foreign, point_foreign, running_foreign}
use Rattle.replica_node.proofs.Keeping.{core_of, Knows, HasWanted, Matches, knows_reads, reads_known, as_reads, reads_as, copies_reads, reads_copies, metas_reads, reads_metas, holds_beside, merge_spared, source_spared}
use Rattle.replica_node.proofs.Merging.{all_at, all_map, all_without, names-without, number_at}
use Rattle.replica_node.proofs.PartsArriving.{part_added, temp_plain, temp_none, temp_lasting}
use Rattle.replica_node.proofs.Segments.{segment_infos, segment_files}
use Rattle.replica_node.proofs.Sparing.{copied_part, copied_missing}
use Rattle.replica_node.proofs.Temporary.{book_no_temporary}
use Rattle.replica_node.proofs.Waiting.{temp_free, waits_arrived}
use Rattle.replica_node.proofs.Appears.{only_one}
use Rattle.replica_node.proofs.Moved.{moved_whole, moved_sourced}

-- a copy in its own place
pub with_same : (number : ℕ) (cs : List Job) (c : Job) → copy_at number cs ≡ Some c → copies_with number c cs ≡ cs
with_same number [] c e = refl
with_same number (x ∷ xs) c e = by (with_same number xs c) (x.number == number) e
  where
    by : (copy_at number xs ≡ Some c → copies_with number c xs ≡ xs) → (b : Bool) → (if b then Some x else copy_at number xs) ≡ Some c → (if b then c ∷ xs else x ∷ copies_with number c xs) ≡ x ∷ xs
    by more true g = let here : x ≡ c = cc in ap (λ (y : Job). y ∷ xs) (sym here)
    by more false g = ap (λ (ys : List Job). x ∷ ys) (more g)

module _ {D : Type 0} (cells : D → Cells) (p : ReplicaParts D) (is : IsWholeReplica cells p) (number : ℕ) (c : Job) (e : copy_at number p.copies.running ≡ Some c) (name : Name) (missing : 0 < times c.missing name) where
  m : IsMergeCopy (cells p.dir) p.files p.jobs c
  m = all_at (IsMergeCopy (cells p.dir) p.files p.jobs) number p.copies.running c e is.merges.each

  files_are : AreFilesOf (segment_infos m.segment.seg) (meta_names c.want.files)
  files_are = segment_files c.want m.segment m.copy.state.files.ascending

  few64 : c.number < 2 ^ 64
  few64 = omega (arith, m.given, is.few)

  same_number : c.number ≡ number
  same_number = number_at number p.copies.running c e

  -- ---- nobody holds a file of the part's temporary name
  abbrev others : List Name
  others = (searcher_names p.searchers ++ book_names p.commits) ++ (names_of_job p.job ++ (running_names (copies_without number p.copies.running) ++ meta_names p.copies.pending.files))

  counts_c : (q : Name) → count_of p.files q ≡ times others q + times (job_names c) q
  counts_c q = omega (
    arith,
    is.node.counts q,
    names-without number p.copies.running c q e,
    times-append (searcher_names p.searchers) (copying_names p) q,
    times-append (names_of_job p.job) (copies_names p.copies) q,
    times-append (running_names p.copies.running) (meta_names p.copies.pending.files) q,
    times-append (searcher_names p.searchers ++ book_names p.commits) (names_of_job p.job ++ (running_names (copies_without number p.copies.running) ++ meta_names p.copies.pending.files)) q,
    times-append (searcher_names p.searchers) (book_names p.commits) q,
    times-append (names_of_job p.job) (running_names (copies_without number p.copies.running) ++ meta_names p.copies.pending.files) q,
    times-append (running_names (copies_without number p.copies.running)) (meta_names p.copies.pending.files) q,
  )

  job_none : (o : Option PointJob) → p.job ≡ o → times (names_of_job o) (temp_name_of name c.number) ≡ 0
  job_none None f = refl
  job_none (Some j) f =
      let all : AllByRecursion (CopyApart j.copy) p.copies.running = subst (λ (x : Option PointJob). IfSome x (λ k. AllByRecursion (CopyApart k.copy) p.copies.running)) f is.merges.beside_job in
      point_foreign cells p is c.number few64 name j f (apart_back j.copy c (all_at (CopyApart j.copy) number p.copies.running c e all) name (copied_missing c name missing))

  running_none : times (running_names (copies_without number p.copies.running)) (temp_name_of name c.number) ≡ 0
  running_none =
      let each = all_without (IsMergeCopy (cells p.dir) p.files p.jobs) number p.copies.running c e is.merges.apart is.merges.each in
      running_foreign (cells p.dir) p.files p.jobs (copies_without number p.copies.running)
      (all_map (λ d. IsMergeCopy (cells p.dir) p.files p.jobs d × CopyApart c d) (IsMergeCopy (cells p.dir) p.files p.jobs) (copies_without number p.copies.running) (λ d h. h.0) each) c.number few64 name
      (all_map (λ d. IsMergeCopy (cells p.dir) p.files p.jobs d × CopyApart c d) (λ d. times (copied_names d) name ≡ 0) (copies_without number p.copies.running) (λ d h. h.1.files name (copied_missing c name missing)) each)

  others_none : times others (temp_name_of name c.number) ≡ 0
  others_none =
      let q : Name = temp_name_of name c.number in
      omega (
        arith,
        job_none p.job refl,
        running_none,
        is.merges.pending.each name c.number,
        is.lasting.each name c.number,
        (book_no_temporary (cells p.dir) p.files p.commits is.node.sound).each name c.number,
        times-append (searcher_names p.searchers ++ book_names p.commits) (names_of_job p.job ++ (running_names (copies_without number p.copies.running) ++ meta_names p.copies.pending.files)) q,
        times-append (searcher_names p.searchers) (book_names p.commits) q,
        times-append (names_of_job p.job) (running_names (copies_without number p.copies.running) ++ meta_names p.copies.pending.files) q,
        times-append (running_names (copies_without number p.copies.running)) (meta_names p.copies.pending.files) q,
      )

  pub free_copy : count_of p.files (temp_name_of name c.number) ≡ 0
  free_copy = temp_free (segment_infos m.segment.seg) c m.copy files_are p.files m.waits few64 name missing others others_none counts_c

  module _ (dir : D) (files : Holdings) (now : Job) (moves : MovesCounts (temp_name_of name c.number ∷ []) (job_names c) (job_names now) p.files files (cells p.dir) (cells dir)) (is_job : IsJob now) where
    stays : KeepsBytes p.files files (cells p.dir) (cells dir)
    stays = record { held = moves.keeps.reads }

    apart : IsApart (temp_name_of name c.number ∷ []) p.commits
    apart = unheld_apart (cells p.dir) p.files (replica_names p) (temp_name_of name c.number ∷ []) p.commits is.node (temp_plain name c.number) (λ q there. by q (same (temp_name_of name c.number) q) refl there)
      where
        by : (q : Name) (b : Bool) → same (temp_name_of name c.number) q ≡ b → is_among (temp_name_of name c.number ∷ []) q ≡ true → count_of p.files q ≡ 0
        by q true f there = subst (λ (x : Name). count_of p.files x ≡ 0) (same_true (temp_name_of name c.number) q f) free_copy
        by q false f there = let n = among_times (temp_name_of name c.number ∷ []) q there in absurd (omega (arith, n, times_one (temp_name_of name c.number) q ∙ ap (λ b. cond b 1 0) f))

    copy_plain : (q : Name) → is_pending_name q ≡ true → times (job_names c) q ≡ 0
    copy_plain q named = omega (
      arith,
      is.node.plain.each q named,
      names-without number p.copies.running c q e,
      times-append (searcher_names p.searchers) (copying_names p) q,
      times-append (names_of_job p.job) (copies_names p.copies) q,
      times-append (running_names p.copies.running) (meta_names p.copies.pending.files) q,
    )

    -- ---- it arrives
    module _ (made : now ≡ with_part c name) where
      more : (q : Name) → count_of files q ≡ count_of p.files q + times (temp_name_of name c.number ∷ []) q
      more q = omega (arith, moves.balance q, part_added c now name made q)

      other : HoldsNoOther p.files files
      other = record { each = λ q lasting none. omega (arith, none, more q, temp_lasting name c.number q lasting) }

      now_plain : (q : Name) → is_pending_name q ≡ true → times (job_names now) q ≡ 0
      now_plain q named = omega (arith, copy_plain q named, part_added c now name made q, temp_none name c.number q named)

      now_foreign : (k : ℕ) → k < 2 ^ 64 → (file : Name) → times (copied_names c) file ≡ 0 → times (job_names now) (temp_name_of file k) ≡ 0
      now_foreign k fewer file other = omega (
        arith,
        part_added c now name made (temp_name_of file k),
        merge_foreign (cells p.dir) p.files p.jobs c m k fewer file other,
        other_temporary name file c.number k few64 fewer
            (λ same. absurd (let some : 0 < times (copied_names c) file = subst (λ (n : Name). 0 < times (copied_names c) n) same (copied_missing c name missing) in omega (arith, some, other))),
      )

      newly : (q : Name) → IsLasting q → count_of p.files q ≡ 0 → 0 < count_of files q → 0 < times (copied_names c) q
      newly q lasting none some = absurd (omega (arith, none, some, more q, temp_lasting name c.number q lasting))

      turns : (d : Job) → CopyApart c d → CopyApart now d
      turns d h = record {
        numbers = λ same_d. h.numbers (sym (ap (λ (k : Job). k.number) made) ∙ same_d);
        files = λ q some. h.files q (copied_part c name missing q (subst (λ (k : Job). 0 < times (copied_names k) q) made some));
      }

      copy_bytes : (q : Name) → 0 < times (job_names c) q → (cells dir q).now ≡ (cells p.dir q).now
      copy_bytes q some = let had : 0 < count_of p.files q = omega (arith, some, counts_c q) in stays.held q had (omega (arith, had, more q))

      come : (J : Name → Content → Type 0) → J name (cells dir (temp_name_of name c.number)).now → JobReads J (cells p.dir) c → JobReads J (cells dir) (with_part c name)
      come J here h = job_arrives J (cells p.dir) (cells dir) c m.copy (λ q. once (meta_names c.want.files) q m.copy.state.files.ascending) name missing copy_bytes here h

      module _ (bytes : List ℕ) (written : (cells dir (temp_name_of name c.number)).now ≡ Some bytes) where
        is_now : (meta : FileMetaData) → IsMetaOf bytes meta → meta_in c.want.files name ≡ Some meta → IsMergeCopy (cells dir) files p.jobs now
        is_now meta meta_is wanted = subst (IsMergeCopy (cells dir) files p.jobs) (sym made) (record {
          kind = m.kind;
          copy = subst IsJob made is_job;
          segment = m.segment;
          given = m.given;
          waits = waits_arrived (segment_infos m.segment.seg) c m.copy files_are p.files m.waits few64 name missing files (with_part c name) refl free_copy more;
          copied = reads_metas (cells dir) (with_part c name) (come (HasWanted c.want.files) (λ n f. record { bytes = bytes; there = written; meta_is = subst (IsMetaOf bytes) (same_Some meta n (sym wanted ∙ f)) meta_is }) (metas_reads (cells p.dir) c m.copied));
        })

        pub came_whole : (meta : FileMetaData) → IsMetaOf bytes meta → meta_in c.want.files name ≡ Some meta
            → IsWholeReplica cells (record p { dir = dir; files = files; known = p.known; copies = record { running = copies_with number now p.copies.running; pending = p.copies.pending } })
        came_whole meta meta_is wanted = moved_whole cells p is number c e now dir files (temp_name_of name c.number ∷ []) moves apart now_plain (omega (arith, m.given, ap (λ (k : Job). k.number) made)) (ap (λ (k : Job). k.number) made) now_foreign newly turns (is_now meta meta_is wanted) p.known
            (reads_known (cells dir) files p.known (held_along (Knows p.known) (cells p.dir) (cells dir) p.files files other stays (knows_reads (cells p.dir) p.files p.known is.known)))

        pub came_sourced : (source : Name → Content) → source name ≡ Some bytes → IsSourced source cells p → IsSourced source cells (record p { dir = dir; files = files; known = p.known; copies = record { running = copies_with number now p.copies.running; pending = p.copies.pending } })
        came_sourced source is_source h = moved_sourced cells p is number c e now dir files (temp_name_of name c.number ∷ []) moves apart now_plain (omega (arith, m.given, ap (λ (k : Job). k.number) made)) (ap (λ (k : Job). k.number) made) now_foreign newly source p.known
            (reads_as source (cells dir) files (held_along (Matches source) (cells p.dir) (cells dir) p.files files other stays (as_reads source (cells p.dir) p.files h.held)))
            (subst (CopiesFrom source (reads_of (cells dir))) (sym made) (reads_copies source (cells dir) (with_part c name) (come (Matches source) (written ∙ sym is_source)
            (copies_reads source (cells p.dir) c (all_at (CopiesFrom source (reads_of (cells p.dir))) number p.copies.running c e h.merges)))))
            h

      pub came_held : HoldsOnly p (record p { dir = dir; files = files; known = p.known; copies = record { running = copies_with number now p.copies.running; pending = p.copies.pending } })
      came_held = holds_beside p (record p { dir = dir; files = files; known = p.known; copies = record { running = copies_with number now p.copies.running; pending = p.copies.pending } }) other

    -- ---- it does not arrive
    module _ (out : now ≡ c) where
      none_more : (q : Name) → count_of files q ≡ count_of p.files q
      none_more q = let f : times (job_names now) q ≡ times (job_names c) q = ap (λ (k : Job). times (job_names k) q) out in omega (arith, moves.balance q, f)

      out_other : HoldsNoOther p.files files
      out_other = record { each = λ q lasting none. omega (arith, none, none_more q) }

      out_plain : (q : Name) → is_pending_name q ≡ true → times (job_names now) q ≡ 0
      out_plain q named = ap (λ (k : Job). times (job_names k) q) out ∙ copy_plain q named

      out_foreign : (k : ℕ) → k < 2 ^ 64 → (file : Name) → times (copied_names c) file ≡ 0 → times (job_names now) (temp_name_of file k) ≡ 0
      out_foreign k fewer file other = ap (λ (j : Job). times (job_names j) (temp_name_of file k)) out ∙ merge_foreign (cells p.dir) p.files p.jobs c m k fewer file other

      out_newly : (q : Name) → IsLasting q → count_of p.files q ≡ 0 → 0 < count_of files q → 0 < times (copied_names c) q
      out_newly q lasting none some = absurd (omega (arith, none, some, none_more q))

      out_turns : (d : Job) → CopyApart c d → CopyApart now d
      out_turns d h = subst (λ (k : Job). CopyApart k d) (sym out) h

      out_bytes : (q : Name) → 0 < times (job_names c) q → (cells dir q).now ≡ (cells p.dir q).now
      out_bytes q some = let had : 0 < count_of p.files q = omega (arith, some, counts_c q) in stays.held q had (omega (arith, had, none_more q))

      out_now : IsMergeCopy (cells dir) files p.jobs now
      out_now = subst (IsMergeCopy (cells dir) files p.jobs) (sym out) (merge_spared (cells p.dir) (cells dir) p.files files p.jobs p.jobs c (omega arith)
          (record { temporary = λ n k copied fewer. none_more (temp_name_of n k); unheld = λ q copied none. omega (arith, none, none_more q); bytes = out_bytes }) m)

      pub out_whole : IsWholeReplica cells (record p { dir = dir; files = files; known = p.known; copies = record { running = copies_with number now p.copies.running; pending = p.copies.pending } })
      out_whole = moved_whole cells p is number c e now dir files (temp_name_of name c.number ∷ []) moves apart out_plain (omega (arith, m.given, ap (λ (k : Job). k.number) out)) (ap (λ (k : Job). k.number) out) out_foreign out_newly out_turns out_now p.known
          (reads_known (cells dir) files p.known (held_along (Knows p.known) (cells p.dir) (cells dir) p.files files out_other stays (knows_reads (cells p.dir) p.files p.known is.known)))

      pub out_sourced : (source : Name → Content) → IsSourced source cells p → IsSourced source cells (record p { dir = dir; files = files; known = p.known; copies = record { running = copies_with number now p.copies.running; pending = p.copies.pending } })
      out_sourced source h = moved_sourced cells p is number c e now dir files (temp_name_of name c.number ∷ []) moves apart out_plain (omega (arith, m.given, ap (λ (k : Job). k.number) out)) (ap (λ (k : Job). k.number) out) out_foreign out_newly source p.known
          (reads_as source (cells dir) files (held_along (Matches source) (cells p.dir) (cells dir) p.files files out_other stays (as_reads source (cells p.dir) p.files h.held)))
          (subst (CopiesFrom source (reads_of (cells dir))) (sym out) (source_spared source (cells p.dir) (cells dir) c m.copy out_bytes (all_at (CopiesFrom source (reads_of (cells p.dir))) number p.copies.running c e h.merges)))
          h

      pub out_held : HoldsOnly p (record p { dir = dir; files = files; known = p.known; copies = record { running = copies_with number now p.copies.running; pending = p.copies.pending } })
      out_held = holds_beside p (record p { dir = dir; files = files; known = p.known; copies = record { running = copies_with number now p.copies.running; pending = p.copies.pending } }) out_other

-- ---- both, by the result
module _ {D : Type 0} (cells : D → Cells) (p : ReplicaParts D) (is : IsWholeReplica cells p) (number : ℕ) (c : Job) (e : copy_at number p.copies.running ≡ Some c) (name : Name) (missing : 0 < times c.missing name) {T E : Type 0}
    (dir : D) (files : Holdings) (now : Job) (bytes : List ℕ) (meta : FileMetaData) (meta_is : IsMetaOf bytes meta) (wanted : meta_in c.want.files name ≡ Some meta) where
  pub comes_whole : (result : Result T E) → PartComes c now name bytes p.files files (cells p.dir) (cells dir) result → (running : List Job) → running ≡ copies_with number now p.copies.running
      → IsWholeReplica cells (record p { dir = dir; files = files; copies = record p.copies { running = running } })
  comes_whole (Ok x) comes running made = subst (λ (cs : List Job). IsWholeReplica cells (record p { dir = dir; files = files; copies = record p.copies { running = cs } })) (sym made)
      (came_whole cells p is number c e name missing dir files now comes.moves comes.is comes.ok bytes comes.reads meta meta_is wanted)
  comes_whole (Err x) comes running made = subst (λ (cs : List Job). IsWholeReplica cells (record p { dir = dir; files = files; copies = record p.copies { running = cs } })) (sym made)
      (out_whole cells p is number c e name missing dir files now comes.moves comes.is comes.err)

  pub comes_sourced : (result : Result T E) → PartComes c now name bytes p.files files (cells p.dir) (cells dir) result → (running : List Job) → running ≡ copies_with number now p.copies.running
      → (source : Name → Content) → source name ≡ Some bytes → IsSourced source cells p → IsSourced source cells (record p { dir = dir; files = files; copies = record p.copies { running = running } })
  comes_sourced (Ok x) comes running made source is_source h = subst (λ (cs : List Job). IsSourced source cells (record p { dir = dir; files = files; copies = record p.copies { running = cs } })) (sym made)
      (came_sourced cells p is number c e name missing dir files now comes.moves comes.is comes.ok bytes comes.reads source is_source h)
  comes_sourced (Err x) comes running made source is_source h = subst (λ (cs : List Job). IsSourced source cells (record p { dir = dir; files = files; copies = record p.copies { running = cs } })) (sym made)
      (out_sourced cells p is number c e name missing dir files now comes.moves comes.is comes.err source h)

  pub comes_held : (result : Result T E) → PartComes c now name bytes p.files files (cells p.dir) (cells dir) result → (running : List Job) → running ≡ copies_with number now p.copies.running
      → HoldsOnly p (record p { dir = dir; files = files; copies = record p.copies { running = running } })
  comes_held (Ok x) comes running made = came_held cells p is number c e name missing dir files now comes.moves comes.is comes.ok
  comes_held (Err x) comes running made = out_held cells p is number c e name missing dir files now comes.moves comes.is comes.err

  -- what the copies are
  pub comes_ok : (result : Result T E) → PartComes c now name bytes p.files files (cells p.dir) (cells dir) result → (running : List Job) → running ≡ copies_with number now p.copies.running
      → OnOk result (record p.copies { running = running } ≡ record p.copies { running = copies_with number (with_part c name) p.copies.running })
  comes_ok (Ok x) comes running made = ap (λ (cs : List Job). record p.copies { running = cs }) (made ∙ ap (λ (k : Job). copies_with number k p.copies.running) comes.ok)
  comes_ok (Err x) comes running made = tt

  pub comes_err : (result : Result T E) → PartComes c now name bytes p.files files (cells p.dir) (cells dir) result → (running : List Job) → running ≡ copies_with number now p.copies.running
      → OnErr result (record p.copies { running = running } ≡ p.copies)
  comes_err (Ok x) comes running made = tt
  comes_err (Err x) comes running made = ap (λ (cs : List Job). record p.copies { running = cs }) (made ∙ ap (λ (k : Job). copies_with number k p.copies.running) comes.err ∙ with_same number p.copies.running c e)

  pub comes_reads : (result : Result T E) → PartComes c now name bytes p.files files (cells p.dir) (cells dir) result → OnOk result ((cells dir (temp_name_of name number)).now ≡ Some bytes)
  comes_reads (Ok x) comes = subst (λ (k : ℕ). (cells dir (temp_name_of name k)).now ≡ Some bytes) (number_at number p.copies.running c e) comes.reads
  comes_reads (Err x) comes = tt

  -- the temporary name alone comes to stand
  pub comes_appears : (result : Result T E) → PartComes c now name bytes p.files files (cells p.dir) (cells dir) result → AppearsOnly (λ q. q ≡ temp_name_of name number) (cells p.dir) (cells dir)
  comes_appears result comes = keeps_only (λ q. q ≡ temp_name_of name number) (temp_name_of name c.number ∷ []) p.files files (cells p.dir) (cells dir) comes.moves.keeps
      (λ q there none. sym (only_one (temp_name_of name c.number) q there) ∙ ap (temp_name_of name) (number_at number p.copies.running c e))

  pub comes_stays : (result : Result T E) → PartComes c now name bytes p.files files (cells p.dir) (cells dir) result → KeepsBytes p.files files (cells p.dir) (cells dir)
  comes_stays result comes = record { held = comes.moves.keeps.reads }

  pub comes_standing : (result : Result T E) → PartComes c now name bytes p.files files (cells p.dir) (cells dir) result → (running : List Job) → running ≡ copies_with number now p.copies.running
      → AreStanding cells p → AreStanding cells (record p { dir = dir; files = files; copies = record p.copies { running = running } })
  comes_standing result comes running made = standing_on cells p (record p { dir = dir; files = files; copies = record p.copies { running = running } }) (core_of cells p is)
      (core_of cells (record p { dir = dir; files = files; copies = record p.copies { running = running } }) (comes_whole result comes running made)) refl refl (comes_stays result comes)

-- the one there is
pub some_at : {P : Job → Type 0} (o : Option Job) → is_some o ≡ true → IfSome o P → (c : Job) × (o ≡ Some c) × P c
some_at None there h = absurd (true≢false (sym there))
some_at (Some c) there h = (c, refl, h)

pub some_here : (P : Job → Type 0) (o : Option Job) (c : Job) → o ≡ Some c → P c → IfSome o P
some_here P o c e h = subst (λ (x : Option Job). IfSome x P) (sym e) h

-- what RunningCopies::arrived asks for
pub takes_all : {D : Type 0} (cells : D → Cells) (p : ReplicaParts D) → IsWholeReplica cells p → (number : ℕ) (part : Part) → IfSome (copy_at number p.copies.running) (λ c. 0 < times c.missing part.name)
    → IfSome (copy_at number p.copies.running) (λ c. meta_in c.want.files part.name ≡ Some part.meta) → IfSome (copy_at number p.copies.running) (CanTakePart part p.files)
takes_all cells p is number part missing wanted = by (copy_at number p.copies.running) refl missing wanted
  where
    by : (o : Option Job) → copy_at number p.copies.running ≡ o → IfSome o (λ c. 0 < times c.missing part.name) → IfSome o (λ c. meta_in c.want.files part.name ≡ Some part.meta) → IfSome o (CanTakePart part p.files)
    by None e a b = tt
    by (Some c) e a b = record { missing = a; meta = b; free = free_copy cells p is number c e part.name a }
