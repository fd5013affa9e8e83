-- What is known, and what is read, over the finish of a job.
use Rattle.replica_node.proofs.Renamed.{noted_held, noted_all, holds_refused, job_refused, held_refused}
use Rattle.std.proofs.Common.{◌≡◌, ◌⊎◌, ℕ, zero, suc, ◌+◌, ◌<◌, ◌≤◌, ◌^◌, ◌≢◌, List, [], ◌++◌, Option, Some, None, refl, sym, ap, subst, ◌∙◌, arith, inl, inr, true}
use Rattle.std.specs.Prelude.{Contains, IfSome, IsSomeAnd}
use Rattle.std.specs.List.{flat_map, AllByRecursion}
use Rattle.file_names.specs.Names.{temp_name_of}
use Rattle.searcher_switch.specs.Node.{KeepsBytes}
use Rattle.disk_model.specs.Disk.{Name, Content, Cells, reads_of}
use Rattle.file_deleter.specs.Holdings.{Holdings, count_of, times}
use Rattle.file_deleter.specs.Moves.{LetsGo, MovesCounts}
use Rattle.file_deleter.proofs.NameLemmas.{times-append, once}
use Rattle.segment_infos.specs.declared.infos.Infos.{Infos}
use Rattle.segment_infos.specs.Files.{files_of_segment, AreFilesOf}
use Rattle.seg_reader.specs.Shown.{Shown}
use Rattle.commit_steps.specs.Book.{book_names}
use Rattle.searcher_switch.specs.declared.open.SearchPoint.{SearchPoint}
use Rattle.searcher_switch.specs.declared.open.Open.{Open}
use Rattle.searcher_switch.specs.declared.searchers.Searchers.{Searchers}
use Rattle.searcher_switch.specs.Tickets.{ticket_names}
use Rattle.searcher_switch.specs.Searching.{searcher_names}
use Rattle.copy_state.specs.declared.meta.FileMetaData.{FileMetaData}
use Rattle.copy_state.specs.States.{meta_names, meta_in}
use Rattle.copy_job.specs.Parts.{placed_to, own_names, present_names, written_names, ArePlaceable}
use Rattle.copy_job.specs.Jobs.{Job, IsJob, job_names, present_of, reads_under}
use Rattle.replica_opening.specs.Known.{KnowsHeld, IsLasting}
use Rattle.replica_node.specs.declared.job.PointJob.{PointJob}
use Rattle.replica_node.specs.declared.parts.ReplicaParts.{ReplicaParts}
use Rattle.replica_node.specs.Held.{LearnsSome, LearnsAll}
use Rattle.nrt_base.specs.declared.doc.Doc.{Doc}
use Rattle.seg_reader.specs.Stands.{StandsFor}
use Rattle.searcher_switch.specs.Standing.{StandsForSome}
use Rattle.copy_state.specs.declared.state.CopyState.{CopyState}
use Rattle.replica_node.specs.declared.advancing.NewPoint.{NewPoint}
use Rattle.replica_node.specs.Sources.{CopiesFrom, IsSourced, KeepsSource, HoldsOnly, IsStillCopying}
use Rattle.replica_node.specs.Waiting.{HasNoTemporary, IsWaiting}
use Rattle.replica_node.specs.Replica.{IsWholeReplica, AreStanding, IsJobAbove, HasMetas, KeepsReads, IsMergeCopy, AreMergeCopies, copying_names, names_of_job}
use Rattle.replica_node.specs.declared.merges.MergeCopies.{MergeCopies}
use Rattle.replica_node.specs.Merges.{running_names, copies_names, copied_names, CopyApart, AreCopiesApart}
use Rattle.replica_node.specs.Advancing.{TakesInHand}
use Rattle.replica_node.proofs.Partly.{copied_placed}
use Rattle.replica_node.proofs.Spared.{beside_j, each_spared, sources_spared}
use Rattle.replica_node.proofs.Foreign.{point_foreign}
use Rattle.replica_node.proofs.Merging.{all_map}
use Rattle.replica_node.proofs.Waiting.{job_foreign}
use Rattle.replica_node.proofs.Named.{among_file, file_counted, some_among}
use Rattle.replica_node.proofs.Carried.{HeldReads, JobReads}
use Rattle.replica_node.proofs.Cores.{IsCore}
use Rattle.replica_node.proofs.Finished.{refused, finished, reads, stands, standing_finished}
use Rattle.replica_node.proofs.Keeping.{core_of, whole_of, Knows, HasWanted, Matches, knows_reads, reads_known, metas_reads, reads_metas, as_reads, reads_as, copies_reads, reads_copies, temporary_held}
use Rattle.replica_node.proofs.Metas.{some_meta}

-- what is held after a finish was held, or is wanted
module _ (h0 h2 : Holdings) (j : Job) (infos : Infos) (others tickets point_names : List Name) (files : AreFilesOf infos (meta_names j.want.files)) (names : AreFilesOf infos point_names)
    (before : (q : Name) → count_of h0 q ≡ times others q + (times tickets q + times (job_names j) q)) (after : (q : Name) → count_of h2 q ≤ times point_names q + times tickets q) where
  pub wanted_point : (q : Name) → 0 < times point_names q → 0 < times (meta_names j.want.files) q
  wanted_point q some = file_counted infos (meta_names j.want.files) files q (among_file infos point_names names q (some_among point_names q some))

  pub holds_finished : (q : Name) → 0 < count_of h2 q → (0 < count_of h0 q) ⊎ (0 < times (meta_names j.want.files) q)
  holds_finished q some = by (times point_names q) refl
    where
      by : (n : ℕ) → times point_names q ≡ n → (0 < count_of h0 q) ⊎ (0 < times (meta_names j.want.files) q)
      by zero e = inl (omega (arith, e, some, after q, before q))
      by (suc n) e = inr (wanted_point q (omega (arith, e)))

-- ---- the newer point
module _ (a c : Cells) (h0 h2 : Holdings) (j : Job) (infos : Infos) (others tickets point_names : List Name) (files : AreFilesOf infos (meta_names j.want.files)) (names : AreFilesOf infos point_names)
    (missing : (q : Name) → times j.missing q ≡ 0) (before : (q : Name) → count_of h0 q ≡ times others q + (times tickets q + times (job_names j) q)) (after : (q : Name) → count_of h2 q ≤ times point_names q + times tickets q)
    (stays : (q : Name) → 0 < count_of h0 q → 0 < count_of h2 q → (c q).now ≡ (a q).now) (reads : (q : Name) → Contains (flat_map files_of_segment infos.segs) q → (c q).now ≡ (a (present_of j.parts q)).now)
    (H K J : Name → Content → Type 0) (from_job : (q : Name) (content : Content) → 0 < times (meta_names j.want.files) q → 0 < count_of h2 q → J q content → K q content) (from_held : (q : Name) (content : Content) → times (meta_names j.want.files) q ≡ 0 → 0 < count_of h2 q → H q content → K q content)
    (held : HeldReads H a h0) (job : JobReads J a j) where
  is_wanted : (q : Name) → 0 < times point_names q → 0 < times (meta_names j.want.files) q
  is_wanted q some = file_counted infos (meta_names j.want.files) files q (among_file infos point_names names q (some_among point_names q some))

  pub held_finished : HeldReads K c h2
  held_finished = record { each = λ q lasting some. by q lasting some (times (meta_names j.want.files) q) refl }
    where
      by : (q : Name) → IsLasting q → 0 < count_of h2 q → (n : ℕ) → times (meta_names j.want.files) q ≡ n → K q (c q).now
      by q lasting some (suc n) e =
          let wanted : 0 < times (meta_names j.want.files) q = omega (arith, e) in
          let named : Contains (flat_map files_of_segment infos.segs) q = among_file infos (meta_names j.want.files) files q (some_among (meta_names j.want.files) q wanted) in
          subst (K q) (sym (reads q named)) (from_job q (a (present_of j.parts q)).now wanted some (job.each q wanted (missing q)))
      by q lasting some zero e =
          let unlisted : (n : ℕ) → times point_names q ≡ n → times point_names q ≡ 0 = none q e in
          let had : 0 < count_of h0 q = omega (arith, some, after q, before q, unlisted (times point_names q) refl) in
          subst (K q) (sym (stays q had some)) (from_held q (a q).now e some (held.each q lasting had))
        where
          none : (q : Name) → times (meta_names j.want.files) q ≡ 0 → (n : ℕ) → times point_names q ≡ n → times point_names q ≡ 0
          none q z zero f = f
          none q z (suc n) f = let some : 0 < times (meta_names j.want.files) q = is_wanted q (omega (arith, f)) in absurd (omega (arith, some, z))

-- ---- a replica over the finish of its job
module _ {D : Type 0} (cells : D → Cells) (p : ReplicaParts D) (is : IsWholeReplica cells p) (j : PointJob) (e : p.job ≡ Some j) (complete : IfSome p.job (λ k. k.copy.missing ≡ []))
    (standing : IfSome p.job (λ k. StandsForSome (reads_under k.copy.parts (reads_of (cells p.dir))) k.infos)) (slice_files noted : List (Name × FileMetaData)) (slice_is : slice_files ≡ j.copy.want.files) (noted_some : LearnsSome slice_files p.known noted) where
  core : IsCore cells p
  core = core_of cells p is

  above : IsJobAbove p.searchers.point.version.0 j
  above = subst (λ (o : Option PointJob). IfSome o (IsJobAbove p.searchers.point.version.0)) e is.newer

  waits : IsWaiting p.files j.copy
  waits = subst (λ (o : Option PointJob). IfSome o (λ k. IsWaiting p.files k.copy)) e is.waits

  copied : HasMetas (reads_of (cells p.dir)) j.copy
  copied = subst (λ (o : Option PointJob). IfSome o (λ k. HasMetas (reads_of (cells p.dir)) k.copy)) e is.copied

  none_missing : (q : Name) → times j.copy.missing q ≡ 0
  none_missing q = ap (λ (ns : List Name). times ns q) (subst (λ (o : Option PointJob). IfSome o (λ k. k.copy.missing ≡ [])) e complete)

  once_named : (q : Name) → times (meta_names j.copy.want.files) q ≤ 1
  once_named q = once (meta_names j.copy.want.files) q above.state.files.ascending

  given : j.copy.number ≤ p.jobs
  given = subst (λ (o : Option PointJob). IfSome o (λ k. k.copy.number ≤ p.jobs)) e is.merges.job_given

  job_counts : (q : Name) → times (names_of_job p.job) q ≡ times (job_names j.copy) q
  job_counts q = ap (λ (o : Option PointJob). times (names_of_job o) q) e

  some_noted : LearnsSome j.copy.want.files p.known noted
  some_noted = subst (λ (fs : List (Name × FileMetaData)). LearnsSome fs p.known noted) slice_is noted_some

  -- what is known is right, before a file is renamed
  pub noted_known : KnowsHeld (reads_of (cells p.dir)) p.files noted
  noted_known = noted_held (cells p.dir) p.files j.copy waits once_named copied p.known noted some_noted is.known

  pub noted_whole : IsWholeReplica cells (record p { known = noted })
  noted_whole = record { node = is.node; point = is.point; spelled = is.spelled; segs = is.segs; known = noted_known; lasting = is.lasting; newer = is.newer; waits = is.waits; copied = is.copied; few = is.few; merges = is.merges }

  source_job : (source : Name → Content) → IsSourced source cells p → JobReads (Matches source) (cells p.dir) j.copy
  source_job source h = copies_reads source (cells p.dir) j.copy (subst (λ (o : Option PointJob). IfSome o (λ k. CopiesFrom source (reads_of (cells p.dir)) k.copy)) e h.job)

  module _ (noted_all_of : LearnsAll slice_files noted) where
    all_noted : (q : Name) (meta : FileMetaData) → meta_in j.copy.want.files q ≡ Some meta → meta_in noted q ≡ Some meta
    all_noted = noted_all j.copy.want.files noted once_named (subst (λ (fs : List (Name × FileMetaData)). LearnsAll fs noted) slice_is noted_all_of)

    -- what has the metadata that is wanted has what is noted
    turns : (q : Name) (content : Content) → 0 < times (meta_names j.copy.want.files) q → HasWanted j.copy.want.files q content → Knows noted q content
    turns q content wanted h = let m = some_meta j.copy.want.files q wanted in record { meta = m.0; known_is = all_noted q m.0 m.1; has = h m.0 m.1 }

    module _ (mid : D) (files : Holdings) (now : Job) (same : now ≡ record j.copy { parts = now.parts }) (parts : (n : ℕ) × (now.parts ≡ placed_to n j.copy.parts)) where
      reused_is : now.reused ≡ j.copy.reused
      reused_is = ap (λ (x : Job). x.reused) same

      want_is : now.want ≡ j.copy.want
      want_is = ap (λ (x : Job). x.want) same

      -- ---- it is refused
      module _ (moves : MovesCounts (written_names j.copy.parts) (job_names j.copy) (job_names now) p.files files (cells p.dir) (cells mid)) (able : ArePlaceable files now.parts) (is_job : IsJob now) (still : KeepsReads j.copy now (cells p.dir) (cells mid)) where
        pub refused_core : IsCore cells (record p { dir = mid; files = files; job = Some (record { copy = now; infos = j.infos; stopped = true }); known = noted })
        refused_core = refused cells p core j e complete standing mid files now same parts noted moves able is_job

        abbrev others : List Name
        others = (searcher_names p.searchers ++ book_names p.commits) ++ copies_names p.copies

        before : (q : Name) → count_of p.files q ≡ times others q + times (job_names j.copy) q
        before q = omega (
          arith,
          is.node.counts q,
          job_counts q,
          times-append (searcher_names p.searchers) (copying_names p) q,
          times-append (names_of_job p.job) (copies_names p.copies) q,
          times-append (searcher_names p.searchers ++ book_names p.commits) (copies_names p.copies) q,
          times-append (searcher_names p.searchers) (book_names p.commits) q,
        )

        after : (q : Name) → count_of files q ≡ times others q + times (job_names now) q
        after q = omega (
          arith,
          refused_core.node.counts q,
          times-append (searcher_names p.searchers) (job_names now ++ copies_names p.copies) q,
          times-append (job_names now) (copies_names p.copies) q,
          times-append (searcher_names p.searchers ++ book_names p.commits) (copies_names p.copies) q,
          times-append (searcher_names p.searchers) (book_names p.commits) q,
        )

        refused_stays : KeepsBytes p.files files (cells p.dir) (cells mid)
        refused_stays = record { held = moves.keeps.reads }

        number_now : now.number ≡ j.copy.number
        number_now = ap (λ (x : Job). x.number) same

        refused_temporary : (number : ℕ) → number < 2 ^ 64 → (name : Name) → times (copied_names j.copy) name ≡ 0 → count_of files (temp_name_of name number) ≡ count_of p.files (temp_name_of name number)
        refused_temporary number fewer name other =
            let q : Name = temp_name_of name number in
            let was : times (job_names j.copy) q ≡ 0 = point_foreign cells p is number fewer name j e other in
            let own : times (own_names now.parts) name ≡ 0 = omega (arith, other, copied_placed j.copy now same parts.0 parts.1 name, times-append now.missing (own_names now.parts) name) in
            let has : times (job_names now) q ≡ 0 = job_foreign j.infos now is_job (subst (λ (s : CopyState). AreFilesOf j.infos (meta_names s.files)) (sym want_is) above.state.files) files refused_core.waits number fewer name own in
            omega (arith, was, has, before q, after q)

        refused_newly : (q : Name) → IsLasting q → count_of p.files q ≡ 0 → 0 < count_of files q → 0 < times (copied_names j.copy) q
        refused_newly q lasting none some = elim (holds_refused (cells p.dir) (cells mid) p.files files j.copy now above.copy others parts.0 parts.1 reused_is want_is none_missing before after moves.keeps.reads still q some) [
          | inl had ↦ absurd (omega (arith, had, none))
          | inr own ↦ omega (arith, own, times-append j.copy.missing (own_names j.copy.parts) q)
        ]

        refused_running : (q : Name) → 0 < times (running_names p.copies.running) q → 0 < count_of files q
        refused_running q some = omega (arith, some, after q, times-append (searcher_names p.searchers ++ book_names p.commits) (copies_names p.copies) q, times-append (running_names p.copies.running) (meta_names p.copies.pending.files) q)

        now_apart : (c : Job) → CopyApart j.copy c → CopyApart now c
        now_apart c h = record {
          numbers = λ f. h.numbers (sym number_now ∙ f);
          files = λ q some. h.files q (omega (arith, some, copied_placed j.copy now same parts.0 parts.1 q));
        }

        refused_merges : AreMergeCopies (cells mid) files p.jobs (Some (record { copy = now; infos = j.infos; stopped = true })) p.copies
        refused_merges = record {
          each = each_spared cells p is j e mid files refused_temporary refused_newly refused_running refused_stays;
          apart = is.merges.apart;
          beside_job = all_map (CopyApart j.copy) (CopyApart now) p.copies.running now_apart (beside_j cells p is j e mid files refused_temporary refused_newly refused_running refused_stays);
          job_given = omega (arith, given, number_now);
          pending = is.merges.pending;
          unexpected = is.merges.unexpected;
        }

        pub refused_whole : IsWholeReplica cells (record p { dir = mid; files = files; job = Some (record { copy = now; infos = j.infos; stopped = true }); known = noted })
        refused_whole = whole_of cells (record p { dir = mid; files = files; job = Some (record { copy = now; infos = j.infos; stopped = true }); known = noted }) refused_core is.segs
            (reads_known (cells mid) files noted (held_refused (cells p.dir) (cells mid) p.files files j.copy now above.copy others parts.0 parts.1 reused_is want_is none_missing before after moves.keeps.reads still
            (HasWanted j.copy.want.files) (metas_reads (cells p.dir) j.copy copied) refused_core.waits (Knows noted) (Knows noted) turns (λ q content unwanted k. k) (knows_reads (cells p.dir) p.files noted noted_known)))
            (reads_metas (cells mid) now (subst (λ (s : CopyState). JobReads (HasWanted s.files) (cells mid) now) (sym want_is)
            (job_refused (cells p.dir) (cells mid) p.files files j.copy now above.copy others parts.0 parts.1 reused_is want_is none_missing before after moves.keeps.reads still (HasWanted j.copy.want.files) (metas_reads (cells p.dir) j.copy copied)))) is.few refused_merges

        pub refused_sourced : KeepsSource cells p (record p { dir = mid; files = files; job = Some (record { copy = now; infos = j.infos; stopped = true }); known = noted })
        refused_sourced source h = record {
          held = reads_as source (cells mid) files (held_refused (cells p.dir) (cells mid) p.files files j.copy now above.copy others parts.0 parts.1 reused_is want_is none_missing before after moves.keeps.reads still
              (Matches source) (source_job source h) refused_core.waits (Matches source) (Matches source) (λ q content wanted k. k) (λ q content unwanted k. k) (as_reads source (cells p.dir) p.files h.held));
          job = reads_copies source (cells mid) now (job_refused (cells p.dir) (cells mid) p.files files j.copy now above.copy others parts.0 parts.1 reused_is want_is none_missing before after moves.keeps.reads still (Matches source) (source_job source h));
          merges = sources_spared cells p is j e mid files refused_temporary refused_newly refused_running refused_stays source h.merges;
        }

        pub refused_held : HoldsOnly p (record p { dir = mid; files = files; job = Some (record { copy = now; infos = j.infos; stopped = true }); known = noted })
        refused_held q lasting some = elim (holds_refused (cells p.dir) (cells mid) p.files files j.copy now above.copy others parts.0 parts.1 reused_is want_is none_missing before after moves.keeps.reads still q some) [
          | inl had ↦ inl had
          | inr own ↦ inr (subst (λ (o : Option PointJob). IsSomeAnd o (λ k. 0 < times (meta_names k.copy.want.files) q)) (sym e) (omega (arith, own, above.copy.each q)))
        ]

      -- ---- it is done
      module _ (next : MergeCopies) (dropped : List Name) (split : (q : Name) → times (copies_names p.copies) q ≡ times (copies_names next) q + times dropped q) (running : next.running ≡ p.copies.running)
          (settled : HasNoTemporary (meta_names next.pending.files)) (unexpected : next.pending.expected ≡ []) (point : NewPoint) (adv : TakesInHand j.copy now j.infos p.searchers.point.names dropped point p.files files (cells p.dir) (cells mid)) (slice : List Name) (gone_is : slice ≡ point.gone) (dir : D) (holdings : Holdings) (t : Searchers Shown) (left : Option PointJob)
          (lets_go : LetsGo slice files holdings (cells mid) (cells dir)) (searched_shared : t.point ≡ record { version = j.infos.version; names = point.names; readers = point.readers }) (tickets : t.tickets ≡ p.searchers.tickets) (ended : left ≡ None)
          (known : List (Name × FileMetaData)) (kept : (q : Name) → 0 < count_of holdings q → meta_in known q ≡ meta_in noted q) where
        searched : t.point ≡ record { version = j.infos.version; names = point.names; readers = point.segs }
        searched = searched_shared ∙ ap (λ (ss : List Shown). record { version = j.infos.version; names = point.names; readers = ss }) adv.shared

        pub done_core : IsCore cells (record p { dir = dir; files = holdings; searchers = t; infos = j.infos; segs = point.segs; job = left; copies = next; known = known })
        done_core = finished cells p core j e complete standing mid files now same parts next dropped split point adv slice gone_is dir holdings t left lets_go searched tickets ended point.segs known

        abbrev rest : List Name
        rest = ticket_names p.searchers.tickets ++ (book_names p.commits ++ copies_names p.copies)

        names_are : (q : Name) → times t.point.names q ≡ times point.names q
        names_are q = ap (λ (x : SearchPoint Shown). times x.names q) searched

        tickets_are : (q : Name) → times (ticket_names t.tickets) q ≡ times (ticket_names p.searchers.tickets) q
        tickets_are q = ap (λ (ts : List (Open Shown)). times (ticket_names ts) q) tickets

        left_none : (q : Name) → times (names_of_job left) q ≡ 0
        left_none q = ap (λ (o : Option PointJob). times (names_of_job o) q) ended

        before_done : (q : Name) → count_of p.files q ≡ times p.searchers.point.names q + (times rest q + times (job_names j.copy) q)
        before_done q = omega (
          arith,
          is.node.counts q,
          job_counts q,
          times-append (searcher_names p.searchers) (copying_names p) q,
          times-append (names_of_job p.job) (copies_names p.copies) q,
          times-append p.searchers.point.names (ticket_names p.searchers.tickets) q,
          times-append (ticket_names p.searchers.tickets) (book_names p.commits ++ copies_names p.copies) q,
          times-append (book_names p.commits) (copies_names p.copies) q,
        )

        held_done : (q : Name) → count_of holdings q ≡ times point.names q + (times (ticket_names p.searchers.tickets) q + (times (book_names p.commits) q + times (copies_names next) q))
        held_done q = omega (arith, done_core.node.counts q, left_none q, names_are q, tickets_are q, times-append (searcher_names t) (names_of_job left ++ copies_names next) q, times-append (names_of_job left) (copies_names next) q, times-append t.point.names (ticket_names t.tickets) q)

        after_done : (q : Name) → count_of holdings q ≤ times point.names q + times rest q
        after_done q = omega (arith, held_done q, split q, times-append (ticket_names p.searchers.tickets) (book_names p.commits ++ copies_names p.copies) q, times-append (book_names p.commits) (copies_names p.copies) q)

        bytes_done : (q : Name) → 0 < count_of p.files q → 0 < count_of holdings q → (cells dir q).now ≡ (cells p.dir q).now
        bytes_done q had has = lets_go.keeps.reads q (omega (arith, has, lets_go.counts q)) has ∙ adv.moves.keeps.reads q had (omega (arith, has, lets_go.counts q))

        reads_done : (q : Name) → Contains (flat_map files_of_segment j.infos.segs) q → (cells dir q).now ≡ (cells p.dir (present_of j.copy.parts q)).now
        reads_done = reads cells p core j e complete standing mid files now same parts next dropped split point adv slice gone_is dir holdings t left lets_go searched tickets ended

        -- ---- the merge copies
        pub done_stays : KeepsBytes p.files holdings (cells p.dir) (cells dir)
        done_stays = record { held = bytes_done }

        same_running : (q : Name) → times (running_names next.running) q ≡ times (running_names p.copies.running) q
        same_running q = ap (λ (cs : List Job). times (running_names cs) q) running

        done_temporary : (number : ℕ) → number < 2 ^ 64 → (name : Name) → times (copied_names j.copy) name ≡ 0 → count_of holdings (temp_name_of name number) ≡ count_of p.files (temp_name_of name number)
        done_temporary number fewer name other =
            let q : Name = temp_name_of name number in
            omega (
              arith,
              temporary_held cells p core name number,
              temporary_held cells (record p { dir = dir; files = holdings; searchers = t; infos = j.infos; segs = point.segs; job = left; copies = next; known = known }) done_core name number,
              point_foreign cells p is number fewer name j e other,
              job_counts q,
              left_none q,
              same_running q,
              settled.each name number,
              is.merges.pending.each name number,
              times-append (names_of_job p.job) (copies_names p.copies) q,
              times-append (names_of_job left) (copies_names next) q,
              times-append (running_names p.copies.running) (meta_names p.copies.pending.files) q,
              times-append (running_names next.running) (meta_names next.pending.files) q,
            )

        done_newly : (q : Name) → IsLasting q → count_of p.files q ≡ 0 → 0 < count_of holdings q → 0 < times (copied_names j.copy) q
        done_newly q lasting none some = elim (holds_finished p.files holdings j.copy j.infos p.searchers.point.names rest point.names above.state.files adv.names before_done after_done q some) [
          | inl had ↦ absurd (omega (arith, had, none))
          | inr wanted ↦ omega (arith, wanted, none, none_missing q, above.copy.each q, before_done q, times-append (present_names j.copy.parts) j.copy.reused q, times-append j.copy.missing (own_names j.copy.parts) q)
        ]

        done_running : (q : Name) → 0 < times (running_names p.copies.running) q → 0 < count_of holdings q
        done_running q some = omega (arith, some, held_done q, same_running q, times-append (running_names next.running) (meta_names next.pending.files) q)

        done_merges : AreMergeCopies (cells dir) holdings p.jobs left next
        done_merges = record {
          each = subst (AllByRecursion (IsMergeCopy (cells dir) holdings p.jobs)) (sym running) (each_spared cells p is j e dir holdings done_temporary done_newly done_running done_stays);
          apart = subst AreCopiesApart (sym running) is.merges.apart;
          beside_job = subst (λ (o : Option PointJob). IfSome o (λ k. AllByRecursion (CopyApart k.copy) next.running)) (sym ended) tt;
          job_given = subst (λ (o : Option PointJob). IfSome o (λ k. k.copy.number ≤ p.jobs)) (sym ended) tt;
          pending = settled;
          unexpected = unexpected;
        }

        pub done_whole : IsWholeReplica cells (record p { dir = dir; files = holdings; searchers = t; infos = j.infos; segs = point.segs; job = left; copies = next; known = known })
        done_whole = whole_of cells (record p { dir = dir; files = holdings; searchers = t; infos = j.infos; segs = point.segs; job = left; copies = next; known = known }) done_core (sym (ap (λ (x : SearchPoint Shown). x.readers) searched))
            (reads_known (cells dir) holdings known (held_finished (cells p.dir) (cells dir) p.files holdings j.copy j.infos p.searchers.point.names rest point.names above.state.files adv.names none_missing before_done after_done bytes_done reads_done
            (Knows noted) (Knows known) (HasWanted j.copy.want.files)
            (λ q content wanted has h. let k = turns q content wanted h in record { meta = k.meta; known_is = kept q has ∙ k.known_is; has = k.has })
            (λ q content unwanted has k. record { meta = k.meta; known_is = kept q has ∙ k.known_is; has = k.has })
            (knows_reads (cells p.dir) p.files noted noted_known) (metas_reads (cells p.dir) j.copy copied)))
            (subst (λ (o : Option PointJob). IfSome o (λ k. HasMetas (reads_of (cells dir)) k.copy)) (sym ended) tt) is.few done_merges

        pub done_sourced : KeepsSource cells p (record p { dir = dir; files = holdings; searchers = t; infos = j.infos; segs = point.segs; job = left; copies = next; known = known })
        done_sourced source h = record {
          held = reads_as source (cells dir) holdings (held_finished (cells p.dir) (cells dir) p.files holdings j.copy j.infos p.searchers.point.names rest point.names above.state.files adv.names none_missing before_done after_done bytes_done reads_done
              (Matches source) (Matches source) (Matches source) (λ q content wanted has k. k) (λ q content unwanted has k. k) (as_reads source (cells p.dir) p.files h.held) (source_job source h));
          job = subst (λ (o : Option PointJob). IfSome o (λ k. CopiesFrom source (reads_of (cells dir)) k.copy)) (sym ended) tt;
          merges = subst (AllByRecursion (CopiesFrom source (reads_of (cells dir)))) (sym running) (sources_spared cells p is j e dir holdings done_temporary done_newly done_running done_stays source h.merges);
        }

        pub done_held : HoldsOnly p (record p { dir = dir; files = holdings; searchers = t; infos = j.infos; segs = point.segs; job = left; copies = next; known = known })
        done_held q lasting some = elim (holds_finished p.files holdings j.copy j.infos p.searchers.point.names rest point.names above.state.files adv.names before_done after_done q some) [
          | inl had ↦ inl had
          | inr wanted ↦ inr (subst (λ (o : Option PointJob). IsSomeAnd o (λ k. 0 < times (meta_names k.copy.want.files) q)) (sym e) wanted)
        ]

        pub done_stands : IfSome p.job (λ k. (docs : List Doc) → StandsFor (reads_under k.copy.parts (reads_of (cells p.dir))) k.infos docs → StandsFor (reads_of (cells dir)) j.infos docs)
        done_stands = stands cells p core j e complete standing mid files now same parts next dropped split point adv slice gone_is dir holdings t left lets_go searched tickets ended

        pub done_standing : AreStanding cells p → AreStanding cells (record p { dir = dir; files = holdings; searchers = t; infos = j.infos; segs = point.segs; job = left; copies = next; known = known })
        done_standing = standing_finished cells p core j e complete standing mid files now same parts next dropped split point adv slice gone_is dir holdings t left lets_go searched tickets ended point.segs known

-- ---- where what is wanted is not noted, the job is as it was
pub noted_still : {D : Type 0} (p : ReplicaParts D) (known : List (Name × FileMetaData)) → IfSome p.job (IsStillCopying p (record p { known = known }))
noted_still {D} p known = by p.job refl
  where
    by : (o : Option PointJob) → p.job ≡ o → IfSome o (IsStillCopying p (record p { known = known }))
    by None e = tt
    by (Some j) e = record {
      searchers = refl;
      infos = refl;
      segs = refl;
      copies = refl;
      placed = 0;
      halted = j.stopped;
      job = e;
    }

-- ---- the job that is taken is the one that was looked at
pub want_slice : (job : Option PointJob) (a b : PointJob) (files : List (Name × FileMetaData)) → job ≡ Some a → job ≡ Some b → files ≡ a.copy.want.files → files ≡ b.copy.want.files
want_slice job a b files is_a is_b e =
    let same : ◌≡◌ {A = Option PointJob} (Some a) (Some b) = sym is_a ∙ is_b in
    let one : a ≡ b = cc in
    e ∙ ap (λ (j : PointJob). j.copy.want.files) one
