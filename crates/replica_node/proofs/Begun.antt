-- A job that begins, and takes over what an older one has.
use Rattle.std.proofs.Common.{◌≡◌, ℕ, zero, suc, ◌+◌, ◌<◌, ◌≤◌, ◌^◌, true, false, List, [], ◌++◌, Option, Some, None, refl, sym, ap, subst, ◌∙◌, arith, inl, inr}
use Rattle.std.specs.Prelude.{IfSome, not}
use Rattle.std.specs.List.{All, AllByRecursion}
use Rattle.disk_model.specs.Disk.{Name, Content, Cells, reads_of, is_among}
use Rattle.file_names.specs.Names.{temp_name_of}
use Rattle.file_deleter.specs.Holdings.{Holdings, count_of, times, AreCounted}
use Rattle.file_deleter.specs.Moves.{HoldsFiles, KeepsFiles, MovesCounts}
use Rattle.file_deleter.proofs.Keeping.{keeps_refl, keeps_then}
use Rattle.file_deleter.proofs.NameLemmas.{times-append, once as once_of}
use Rattle.std.proofs.lemmas.Option.{same_Some}
use Rattle.segment_infos.specs.declared.infos.Infos.{Infos}
use Rattle.searcher_switch.proofs.Carry.{node_kept, nothing_written}
use Rattle.searcher_switch.specs.Searching.{searcher_names}
use Rattle.searcher_switch.specs.Tickets.{ticket_names}
use Rattle.searcher_switch.specs.Node.{KeepsBytes}
use Rattle.replica_opening.specs.Known.{KnowsHeld}
use Rattle.searcher_switch.specs.Appearing.{NoneAppears}
use Rattle.nrt_base.specs.declared.numbers.Version.{Version}
use Rattle.copy_state.specs.declared.meta.FileMetaData.{FileMetaData}
use Rattle.copy_state.specs.declared.state.CopyState.{CopyState}
use Rattle.copy_state.specs.States.{meta_names, meta_in}
use Rattle.copy_job.specs.declared.part.JobKind.TheVariants.{Point as PointKind}
use Rattle.copy_job.specs.declared.part.JobPart.{JobPart}
use Rattle.copy_job.specs.Parts.{part_at, present_names, own_names}
use Rattle.copy_job.specs.Jobs.{Job, IsJob, job_names, present_of, is_same_meta, is_taken, taken_parts}
use Rattle.copy_job.proofs.Placings.{present_some}
use Rattle.copy_job.proofs.Points.{own_or_not}
use Rattle.copy_job.proofs.Taking.{part_kept, present_kept, present_at, same_listed, wanted_same, among_wanted, still_among}
use Rattle.replica_node.specs.declared.job.PointJob.{PointJob}
use Rattle.replica_node.specs.declared.parts.ReplicaParts.{ReplicaParts}
use Rattle.replica_node.specs.Jobs.{job_on, job_taking, Agrees}
use Rattle.replica_node.specs.Merges.{running_names, copies_names, copied_names, SharesNone, CopyApart, AreCopiesApart}
use Rattle.replica_node.specs.Replica.{IsWholeReplica, IsPointState, IsJobAbove, IsMergeCopy, AreMergeCopies, AreStanding, HasMetas, replica_names, copying_names, names_of_job}
use Rattle.replica_node.specs.Sources.{CopiesFrom, IsSourced, KeepsSource, HoldsOnly}
use Rattle.replica_node.specs.Waiting.{IsLoose, IsWaiting}
use Rattle.replica_node.proofs.Along.{point_along}
use Rattle.replica_node.proofs.Beginnings.{want_is, plain_reused, more, names_begun, zero_reused, not_missing, reused_temporary, agreed_meta, begun_reads}
use Rattle.replica_node.proofs.Beside.{standing_on}
use Rattle.replica_node.proofs.Carried.{HeldReads, JobReads, HoldsNoOther, held_along}
use Rattle.replica_node.proofs.Cores.{IsCore}
use Rattle.replica_node.proofs.Foreign.{point_foreign}
use Rattle.replica_node.proofs.Keeping.{Knows, HasWanted, Matches, core_of, whole_of, merge_spared, source_spared, knows_reads, reads_known, metas_reads, reads_metas, as_reads, reads_as, copies_reads, reads_copies}
use Rattle.replica_node.proofs.Merging.{all_map, all_both, all_held}
use Rattle.replica_node.proofs.Sparing.{SparesJob, copied_wanted}
use Rattle.replica_node.proofs.Waiting.{own_some}
use Rattle.replica_node.specs.Overlapping.{copies_beside}
use Rattle.replica_node.proofs.Overlaps.{all_beside, copies_apart, beside_fewer, beside_apart, HoldsSame, beside_same}

-- ---- what the job that begins has of an older one
pub record Begins (job : Option PointJob) (copy now : Job) : Type 0 where
  pub number : now.number ≡ copy.number
  pub want : now.want ≡ copy.want
  pub reused : now.reused ≡ copy.reused
  pub missing : (q : Name) → 0 < times now.missing q → 0 < times copy.missing q
  pub own : (q : Name) → 0 < times (own_names now.parts) q → 0 < times copy.missing q
  pub names : (q : Name) → times (present_names now.parts) q ≤ times (names_of_job job) q
  pub part : (place : ℕ) (x : JobPart) → part_at now.parts place ≡ Some x
      → (j : PointJob) × (job ≡ Some j) × (k : ℕ) × (part_at j.copy.parts k ≡ Some x) × (is_same_meta (meta_in j.copy.want.files x.own) (meta_in copy.want.files x.own) ≡ true)

pub begins : (job : Option PointJob) (copy now : Job) → copy.parts ≡ [] → now ≡ job_taking job copy → Begins job copy now
begins None copy now none is = subst (Begins None copy) (sym is) (record {
  number = refl;
  want = refl;
  reused = refl;
  missing = λ q some. some;
  own = λ q some. absurd (let z : times (own_names copy.parts) q ≡ 0 = ap (λ (ps : List JobPart). times (own_names ps) q) none in omega (arith, z, some));
  names = λ q. (let z : times (present_names copy.parts) q ≡ 0 = ap (λ (ps : List JobPart). times (present_names ps) q) none in omega (arith, z));
  part = λ place x at. absurd (nothing place x (ap (λ (ps : List JobPart). part_at ps place) (sym none) ∙ at));
})
  where
    nothing : (place : ℕ) (x : JobPart) → part_at [] place ≡ Some x → ⊥
    nothing place x at = cc
begins (Some old) copy now none is = subst (Begins (Some old) copy) (sym is) (record {
  number = refl;
  want = refl;
  reused = refl;
  missing = λ q some. still_among (λ n. not (is_among (own_names (taken_parts copy old.copy)) n)) copy.missing q some;
  own = λ q some. among_wanted copy.missing old.copy.want.files copy.want.files old.copy.parts q some;
  names = λ q. omega (arith, present_kept (is_taken copy old.copy) old.copy.parts q, times-append (present_names old.copy.parts) old.copy.reused q);
  part = λ place x at. (let h = part_kept (is_taken copy old.copy) old.copy.parts place x at in (old, refl, h.0, h.1, wanted_same copy.missing old.copy.want.files copy.want.files x h.2));
})

-- where there is none, nothing moves
pub none_moves : (j : Job) (old : Option PointJob) (files : Holdings) (cells : Cells) → old ≡ None → MovesCounts [] (job_names j ++ names_of_job old) (job_names j) files files cells cells
none_moves j old files cells none = record {
  balance = λ q. (let z : times (names_of_job old) q ≡ 0 = ap (λ (o : Option PointJob). times (names_of_job o) q) none in omega (arith, z, times-append (job_names j) (names_of_job old) q));
  keeps = keeps_refl [] files cells;
}

-- what the job that begins and the older one hold is counted, once the copies beside them have ended
pub over_counted : {D : Type 0} (cells : D → Cells) (p : ReplicaParts D) (is : IsWholeReplica cells p) (number : ℕ) (state : CopyState) (infos : Infos) (of : IsPointState state infos) (agreed : All (Agrees (reads_of (cells p.dir)) p.files) state.files)
    (copy : Job) (copy_is : copy ≡ job_on number state p.files) (is_copy : IsJob copy) (slice : List Name) (slice_is : slice ≡ copy.reused) (mid : Holdings) (holds : HoldsFiles slice p.files mid (cells p.dir)) (old : Option PointJob) → old ≡ p.job
    → (running : List Job) (left : Holdings) (after : Cells) → MovesCounts [] (running_names p.copies.running) (running_names running) mid left (cells p.dir) after → AreCounted (job_names copy ++ names_of_job old) left
over_counted cells p is number state infos of agreed copy copy_is is_copy slice slice_is mid holds old old_is running left after ended = record {
  each = λ q.
      let had : times (names_of_job old) q ≡ times (names_of_job p.job) q = ap (λ (o : Option PointJob). times (names_of_job o) q) old_is in
      omega (
        arith,
        had,
        is.node.counts q,
        ended.balance q,
        more cells p is PointKind number state infos of.files agreed copy copy_is is_copy slice slice_is mid holds q,
        names_begun cells p is PointKind number state infos of.files agreed copy copy_is is_copy slice slice_is mid holds q,
        times-append (job_names copy) (names_of_job old) q,
        times-append (searcher_names p.searchers) (copying_names p) q,
        times-append (names_of_job p.job) (copies_names p.copies) q,
        times-append (running_names p.copies.running) (meta_names p.copies.pending.files) q,
      );
}

-- what the copies hold is counted, once the files that the job reuses are held
pub copies_counted : {D : Type 0} (cells : D → Cells) (p : ReplicaParts D) (is : IsWholeReplica cells p) (slice : List Name) (mid : Holdings) (holds : HoldsFiles slice p.files mid (cells p.dir)) → AreCounted (running_names p.copies.running) mid
copies_counted cells p is slice mid holds = record {
  each = λ q. omega (
    arith,
    is.node.counts q,
    holds.counts q,
    times-append (searcher_names p.searchers) (copying_names p) q,
    times-append (names_of_job p.job) (copies_names p.copies) q,
    times-append (running_names p.copies.running) (meta_names p.copies.pending.files) q,
  );
}

-- the copies that end and the older job, in one move
pub both_moved : (copy_names old_names now_names was running : List Name) (mid left files : Holdings) (a b c : Cells) → MovesCounts [] was running mid left a b → MovesCounts [] (copy_names ++ old_names) now_names left files b c
    → ((q : Name) → times now_names q ≤ times copy_names q + times old_names q) → MovesCounts [] (copy_names ++ (old_names ++ was)) (now_names ++ running) mid files a c
both_moved copy_names old_names now_names was running mid left files a b c ended taken few = record {
  balance = λ q. omega (arith, ended.balance q, taken.balance q, times-append copy_names old_names q, times-append copy_names (old_names ++ was) q, times-append old_names was q, times-append now_names running q);
  keeps = keeps_then [] [] mid left files a b c ended.keeps taken.keeps (λ q had has. omega (arith, has, taken.balance q, few q, times-append copy_names old_names q));
}

-- what the job that began holds, it or the older one held before
pub begun_few : (job : Option PointJob) (copy now : Job) → Begins job copy now → (q : Name) → times (job_names now) q ≤ times (job_names copy) q + times (names_of_job job) q
begun_few job copy now takes q =
    let reused : times now.reused q ≡ times copy.reused q = ap (λ (ns : List Name). times ns q) takes.reused in
    omega (arith, reused, takes.names q, times-append (present_names now.parts) now.reused q, times-append (present_names copy.parts) copy.reused q)

module _ {D : Type 0} (cells : D → Cells) (p : ReplicaParts D) (is : IsWholeReplica cells p) (number : ℕ) (last : p.jobs + 1 ≡ number) (state : CopyState) (infos : Infos) (of : IsPointState state infos) (above : p.searchers.point.version.0 < state.version.0) (agreed : All (Agrees (reads_of (cells p.dir)) p.files) state.files)
    (copy : Job) (copy_is : copy ≡ job_on number state p.files) (is_copy : IsJob copy) (slice : List Name) (slice_is : slice ≡ copy.reused) (mid : Holdings) (holds : HoldsFiles slice p.files mid (cells p.dir))
    (now : Job) (is_job : IsJob now) (takes : Begins p.job copy now) (running : List Job) (beside : running ≡ copies_beside (meta_names state.files) p.copies.running) (dir : D) (files : Holdings)
    (moves : MovesCounts [] (job_names copy ++ (names_of_job p.job ++ running_names p.copies.running)) (job_names now ++ running_names running) mid files (cells p.dir) (cells dir)) where
  abbrev after : ReplicaParts D
  after = record p { dir = dir; files = files; jobs = number; job = Some (record { copy = now; infos = infos; stopped = false }); copies = record { running = running; pending = p.copies.pending } }

  -- ---- the copies that stay
  stay : (P : Job → Type 0) → AllByRecursion P p.copies.running → AllByRecursion P running
  stay P all = subst (AllByRecursion P) (sym beside) (all_beside P (meta_names state.files) p.copies.running all)

  less : (q : Name) → times (running_names running) q ≤ times (running_names p.copies.running) q
  less q = let e : times (running_names running) q ≡ times (running_names (copies_beside (meta_names state.files) p.copies.running)) q = ap (λ (cs : List Job). times (running_names cs) q) beside in omega (arith, e, beside_fewer (meta_names state.files) p.copies.running q)

  copies_were : (q : Name) → times (copies_names p.copies) q ≡ times (running_names p.copies.running) q + times (meta_names p.copies.pending.files) q
  copies_were q = times-append (running_names p.copies.running) (meta_names p.copies.pending.files) q

  copies_are : (q : Name) → times (running_names running ++ meta_names p.copies.pending.files) q ≡ times (running_names running) q + times (meta_names p.copies.pending.files) q
  copies_are q = times-append (running_names running) (meta_names p.copies.pending.files) q

  -- ---- counts
  balance : (q : Name) → count_of files q + (times (names_of_job p.job) q + times (running_names p.copies.running) q) ≡ count_of p.files q + (times (job_names now) q + times (running_names running) q)
  balance q = omega (
    arith,
    moves.balance q,
    times-append (names_of_job p.job) (running_names p.copies.running) q,
    times-append (job_names now) (running_names running) q,
    more cells p is PointKind number state infos of.files agreed copy copy_is is_copy slice slice_is mid holds q,
    names_begun cells p is PointKind number state infos of.files agreed copy copy_is is_copy slice slice_is mid holds q,
    times-append (job_names copy) (names_of_job p.job ++ running_names p.copies.running) q,
  )

  reused_now : (q : Name) → times now.reused q ≡ times copy.reused q
  reused_now q = ap (λ (ns : List Name). times ns q) takes.reused

  names_now : (q : Name) → times (job_names now) q ≤ times (names_of_job p.job) q + times copy.reused q
  names_now q = omega (arith, takes.names q, reused_now q, times-append (present_names now.parts) now.reused q)

  had_names : (q : Name) → times (replica_names p) q ≡ times (searcher_names p.searchers) q + (times (names_of_job p.job) q + times (copies_names p.copies) q)
  had_names q = omega (arith, times-append (searcher_names p.searchers) (copying_names p) q, times-append (names_of_job p.job) (copies_names p.copies) q)

  -- what the job, the copies and the point held is counted
  had_all : (q : Name) → times (searcher_names p.searchers) q + times (names_of_job p.job) q + times (copies_names p.copies) q ≤ count_of p.files q
  had_all q = omega (arith, is.node.counts q, times-append (searcher_names p.searchers) (copying_names p) q, times-append (names_of_job p.job) (copies_names p.copies) q)

  zero_was : (q : Name) → count_of p.files q ≡ 0 → times copy.reused q ≡ 0
  zero_was q none = zero_reused cells p is PointKind number state infos of.files agreed copy copy_is is_copy q none

  zero_stays : (q : Name) → count_of p.files q ≡ 0 → count_of files q ≡ 0
  zero_stays q none = omega (arith, none, balance q, names_now q, had_all q, zero_was q none, less q, copies_were q)

  -- what is held was held
  pub begun_held : (q : Name) → 0 < count_of files q → 0 < count_of p.files q
  begun_held q some = by (count_of p.files q) refl
    where
      by : (n : ℕ) → count_of p.files q ≡ n → 0 < count_of p.files q
      by zero e = absurd (let z = zero_stays q e in omega (arith, z, some))
      by (suc n) e = omega (arith, e)

  between : (q : Name) → 0 < count_of p.files q → 0 < count_of files q → 0 < count_of mid q
  between q had has = omega (arith, had, more cells p is PointKind number state infos of.files agreed copy copy_is is_copy slice slice_is mid holds q)

  pub keeps : KeepsFiles [] p.files files (cells p.dir) (cells dir)
  keeps = keeps_then [] [] p.files mid files (cells p.dir) (cells p.dir) (cells dir) holds.keeps moves.keeps between

  pub begun_stays : KeepsBytes p.files files (cells p.dir) (cells dir)
  begun_stays = record { held = keeps.reads }

  only : HoldsNoOther p.files files
  only = record { each = λ q lasting none. zero_stays q none }

  -- ---- the older job
  old_of : (j : PointJob) → p.job ≡ Some j → IsWaiting p.files j.copy
  old_of j e = subst (λ (o : Option PointJob). IfSome o (λ k. IsWaiting p.files k.copy)) e is.waits

  old_above : (j : PointJob) → p.job ≡ Some j → IsJobAbove p.searchers.point.version.0 j
  old_above j e = subst (λ (o : Option PointJob). IfSome o (IsJobAbove p.searchers.point.version.0)) e is.newer

  old_names : (j : PointJob) → p.job ≡ Some j → (q : Name) → times (names_of_job p.job) q ≡ times (job_names j.copy) q
  old_names j e q = ap (λ (o : Option PointJob). times (names_of_job o) q) e

  -- ---- its parts are the new one's
  still_loose : (place : ℕ) (x : JobPart) → part_at now.parts place ≡ Some x → IsLoose p.files x → IsLoose files x
  still_loose place x at l =
      let h = takes.part place x at in
      let here : 1 ≤ times (present_names now.parts) x.now = present_some now.parts place x at in
      let none : times copy.reused x.now ≡ 0 = ap (times copy.reused) l.temporary ∙ reused_temporary cells p is PointKind number state infos of.files agreed copy copy_is is_copy slice slice_is mid holds x.own l.job in
      record {
        job = l.job;
        small = l.small;
        temporary = l.temporary;
        once = omega (arith, balance x.now, l.once, here, takes.names x.now, had_all x.now, none, reused_now x.now, times-append (present_names now.parts) now.reused x.now, less x.now, copies_were x.now);
        free = zero_stays x.own l.free;
      }

  begun_waits : IsWaiting files now
  begun_waits = record {
    each = λ place x at. (let h = takes.part place x at in elim ((old_of h.0 h.1).each h.2 x h.3) [ inl own ↦ inl own | inr l ↦ inr (still_loose place x at l) ]);
    missing = λ q some. zero_stays q (not_missing cells p is PointKind number state infos of.files agreed copy copy_is is_copy q (takes.missing q some));
  }

  -- ---- the replica's core
  all : (q : Name) → times (searcher_names p.searchers ++ (job_names now ++ (running_names running ++ meta_names p.copies.pending.files))) q + (times (names_of_job p.job) q + times (running_names p.copies.running) q)
      ≡ times (replica_names p) q + (times (job_names now) q + times (running_names running) q)
  all q = omega (
    arith,
    copies_were q,
    copies_are q,
    times-append (searcher_names p.searchers) (job_names now ++ (running_names running ++ meta_names p.copies.pending.files)) q,
    times-append (job_names now) (running_names running ++ meta_names p.copies.pending.files) q,
    times-append (searcher_names p.searchers) (copying_names p) q,
    times-append (names_of_job p.job) (copies_names p.copies) q,
  )

  want_state : now.want ≡ state
  want_state = takes.want ∙ want_is cells p is PointKind number state infos of.files agreed copy copy_is is_copy

  above_job : IsJobAbove p.searchers.point.version.0 (record { copy = now; infos = infos; stopped = false })
  above_job = record { copy = is_job; state = subst (λ (s : CopyState). IsPointState s infos) (sym want_state) of; above = omega (arith, above, ap (λ (v : Version). v.0) of.version) }

  searched_held : (q : Name) → 0 < times p.searchers.point.names q → (cells dir q).now ≡ (cells p.dir q).now
  searched_held q some =
      let had : 0 < times (searcher_names p.searchers) q = omega (arith, some, times-append p.searchers.point.names (ticket_names p.searchers.tickets) q) in
      keeps.reads q (omega (arith, had, had_all q)) (omega (arith, had, had_all q, balance q, copies_were q))

  begun_core : IsCore cells after
  begun_core = record {
    node = node_kept (cells p.dir) (cells dir) p.files files (replica_names p) (searcher_names p.searchers ++ (job_names now ++ (running_names running ++ meta_names p.copies.pending.files))) p.commits [] is.node (nothing_written p.commits) keeps
        (λ q. omega (arith, balance q, is.node.counts q, all q))
        (record { each = λ q named. omega (arith, all q, names_now q, is.node.plain.each q named, less q, copies_were q, had_names q, plain_reused cells p is PointKind number state infos of.files agreed copy copy_is is_copy q named) });
    point = point_along (cells p.dir) (cells dir) p.infos p.searchers.point is.point searched_held;
    spelled = is.spelled;
    lasting = is.lasting;
    newer = above_job;
    waits = begun_waits;
  }

  -- ---- what its files read
  module _ (H J K : Name → Content → Type 0) (turns : (q : Name) → 0 < times (meta_names copy.want.files) q → 0 < count_of p.files q → H q (cells p.dir q).now → J q (cells p.dir q).now)
      (takes_on : (j : PointJob) → p.job ≡ Some j → (q : Name) (content : Content) → is_same_meta (meta_in j.copy.want.files q) (meta_in copy.want.files q) ≡ true → K q content → J q content)
      (held : HeldReads H (cells p.dir) p.files) (had : (j : PointJob) → p.job ≡ Some j → JobReads K (cells p.dir) j.copy) where
    copy_reads : JobReads J (cells p.dir) copy
    copy_reads = begun_reads cells p is PointKind number state infos of.files agreed copy copy_is is_copy slice slice_is mid holds H J turns held

    -- a part that was taken over
    taken_reads : (place : ℕ) (x : JobPart) → part_at now.parts place ≡ Some x → J x.own (cells dir x.now).now
    taken_reads place x at =
        let h = takes.part place x at in
        let above : IsJobAbove p.searchers.point.version.0 h.0 = old_above h.0 h.1 in
        let once : times (meta_names h.0.copy.want.files) x.own ≤ 1 = once_of (meta_names h.0.copy.want.files) x.own above.state.files.ascending in
        let own : 0 < times (own_names h.0.copy.parts) x.own = own_some h.0.copy.parts h.2 x h.3 in
        let each : times h.0.copy.missing x.own + times (own_names h.0.copy.parts) x.own + times h.0.copy.reused x.own ≡ times (meta_names h.0.copy.want.files) x.own = above.copy.each x.own in
        let under : present_of h.0.copy.parts x.own ≡ x.now = present_at h.0.copy.parts h.2 x h.3 (omega (arith, each, once)) in
        let old_here : 1 ≤ times (present_names h.0.copy.parts) x.now = present_some h.0.copy.parts h.2 x h.3 in
        let here : 1 ≤ times (present_names now.parts) x.now = present_some now.parts place x at in
        let counted : 0 < count_of p.files x.now = omega (arith, old_here, old_names h.0 h.1 x.now, had_all x.now, times-append (present_names h.0.copy.parts) h.0.copy.reused x.now) in
        let counts : 0 < count_of files x.now = omega (arith, here, balance x.now, had_all x.now, copies_were x.now, times-append (present_names now.parts) now.reused x.now) in
        let was : K x.own (cells p.dir x.now).now = subst (λ (n : Name). K x.own (cells p.dir n).now) under ((had h.0 h.1).each x.own (omega (arith, each, own)) (omega (arith, each, own, once))) in
        subst (J x.own) (sym (keeps.reads x.now counted counts)) (takes_on h.0 h.1 x.own (cells p.dir x.now).now h.4 was)

    pub now_reads : JobReads J (cells dir) now
    now_reads = record {
      each = λ q wanted gone. elim (own_or_not now.parts q) [
        | inl own ↦ subst (λ (n : Name). J q (cells dir n).now) (sym own.present) (subst (λ (n : Name). J n (cells dir own.part.now).now) own.own (taken_reads own.place own.part own.at))
        | inr not_own ↦ subst (λ (n : Name). J q (cells dir n).now) (sym not_own.0) (reused_reads q wanted gone not_own.1)
      ];
    }
      where
        reused_reads : (q : Name) → 0 < times (meta_names now.want.files) q → times now.missing q ≡ 0 → times (own_names now.parts) q ≡ 0 → J q (cells dir q).now
        reused_reads q wanted gone none =
            let some : 0 < times now.reused q = omega (arith, wanted, gone, none, is_job.each q) in
            let reused : 0 < times copy.reused q = omega (arith, some, reused_now q) in
            let w : 0 < times (meta_names copy.want.files) q = subst (λ (s : CopyState). 0 < times (meta_names s.files) q) takes.want wanted in
            let here : times copy.missing q ≡ 0 = omega (arith, is_copy.each q, reused, once_of (meta_names copy.want.files) q is_copy.state.files.ascending) in
            let no_parts : times (own_names copy.parts) q ≡ 0 = ap (λ (j : Job). times (own_names j.parts) q) copy_is in
            let plain : present_of copy.parts q ≡ q = ap (λ (j : Job). present_of j.parts q) copy_is in
            let was : J q (cells p.dir q).now = subst (λ (n : Name). J q (cells p.dir n).now) plain (copy_reads.each q w here) in
            let counted : 0 < count_of p.files q = counted_of q reused (count_of p.files q) refl in
            let counts : 0 < count_of files q = omega (arith, some, balance q, had_all q, copies_were q, times-append (present_names now.parts) now.reused q) in
            subst (J q) (sym (keeps.reads q counted counts)) was
          where
            counted_of : (q : Name) → 0 < times copy.reused q → (n : ℕ) → count_of p.files q ≡ n → 0 < count_of p.files q
            counted_of q reused zero e = absurd (let z = zero_was q e in omega (arith, z, reused))
            counted_of q reused (suc n) e = omega (arith, e)

  -- ---- the merge copies
  copy_bytes : (c : Job) → ((q : Name) → times (job_names c) q ≤ times (running_names running) q) → (q : Name) → 0 < times (job_names c) q → (cells dir q).now ≡ (cells p.dir q).now
  copy_bytes c within q some = keeps.reads q (omega (arith, some, within q, less q, copies_were q, had_all q)) (omega (arith, some, within q, copies_were q, had_all q, balance q))

  held_merges : AllByRecursion (λ c. IsMergeCopy (cells p.dir) p.files p.jobs c × ((q : Name) → times (job_names c) q ≤ times (running_names running) q)) running
  held_merges = all_both (IsMergeCopy (cells p.dir) p.files p.jobs) (λ c. (q : Name) → times (job_names c) q ≤ times (running_names running) q) running (stay (IsMergeCopy (cells p.dir) p.files p.jobs) is.merges.each)
      (all_held running (running_names running) (λ q. omega arith))

  -- ---- what is known, what was copied, and what reads as at a source
  begun_known : KnowsHeld (reads_of (cells dir)) files p.known
  begun_known = reads_known (cells dir) files p.known (held_along (Knows p.known) (cells p.dir) (cells dir) p.files files only begun_stays (knows_reads (cells p.dir) p.files p.known is.known))

  begun_metas : HasMetas (reads_of (cells dir)) now
  begun_metas = reads_metas (cells dir) now (subst (λ (s : CopyState). JobReads (HasWanted s.files) (cells dir) now) (sym takes.want) (now_reads (Knows p.known) (HasWanted copy.want.files) (HasAny) turns_known takes_metas (knows_reads (cells p.dir) p.files p.known is.known) old_metas))
    where
      -- what reads has the metadata that an older job wants of it
      HasAny : Name → Content → Type 0
      HasAny q content = (j : PointJob) → p.job ≡ Some j → HasWanted j.copy.want.files q content

      turns_known : (q : Name) → 0 < times (meta_names copy.want.files) q → 0 < count_of p.files q → Knows p.known q (cells p.dir q).now → HasWanted copy.want.files q (cells p.dir q).now
      turns_known q wanted some k meta e =
          let h = agreed_meta cells p is PointKind number state infos of.files agreed copy copy_is is_copy slice slice_is mid holds q meta e some in
          record { bytes = h.bytes; there = h.there; meta_is = h.meta_is }

      takes_metas : (j : PointJob) → p.job ≡ Some j → (q : Name) (content : Content) → is_same_meta (meta_in j.copy.want.files q) (meta_in copy.want.files q) ≡ true → HasAny q content → HasWanted copy.want.files q content
      takes_metas j e q content same k meta listed = k j e meta (same_listed (meta_in j.copy.want.files q) (meta_in copy.want.files q) meta same listed)

      old_metas : (j : PointJob) → p.job ≡ Some j → JobReads HasAny (cells p.dir) j.copy
      old_metas j e = record {
        each = λ q wanted here i f.
            let one : i ≡ j = same_Some i j (sym f ∙ e) in
            let copied : HasMetas (reads_of (cells p.dir)) j.copy = subst (λ (o : Option PointJob). IfSome o (λ k. HasMetas (reads_of (cells p.dir)) k.copy)) e is.copied in
            subst (λ (k : PointJob). HasWanted k.copy.want.files q (cells p.dir (present_of j.copy.parts q)).now) (sym one) ((metas_reads (cells p.dir) j.copy copied).each q wanted here);
      }

  pub begun_sourced : KeepsSource cells p after
  begun_sourced source h = record {
    held = reads_as source (cells dir) files (held_along (Matches source) (cells p.dir) (cells dir) p.files files only begun_stays (as_reads source (cells p.dir) p.files h.held));
    job = reads_copies source (cells dir) now (now_reads (Matches source) (Matches source) (Matches source) (λ q wanted some k. k) (λ j e q content same k. k) (as_reads source (cells p.dir) p.files h.held)
        (λ j e. copies_reads source (cells p.dir) j.copy (subst (λ (o : Option PointJob). IfSome o (λ k. CopiesFrom source (reads_of (cells p.dir)) k.copy)) e h.job)));
    merges = all_map (λ c. (IsMergeCopy (cells p.dir) p.files p.jobs c × ((q : Name) → times (job_names c) q ≤ times (running_names running) q)) × CopiesFrom source (reads_of (cells p.dir)) c) (CopiesFrom source (reads_of (cells dir))) running
        (λ c k. source_spared source (cells p.dir) (cells dir) c k.0.0.copy (copy_bytes c k.0.1) k.1)
        (all_both (λ c. IsMergeCopy (cells p.dir) p.files p.jobs c × ((q : Name) → times (job_names c) q ≤ times (running_names running) q)) (CopiesFrom source (reads_of (cells p.dir))) running held_merges (stay (CopiesFrom source (reads_of (cells p.dir))) h.merges));
  }

  -- the older job holds no temporary file of what a merge copy copies
  old_foreign : (name : Name) (k : ℕ) → k < 2 ^ 64 → (c : Job) → ((j : PointJob) → p.job ≡ Some j → CopyApart j.copy c) → 0 < times (copied_names c) name → (job : Option PointJob) → p.job ≡ job → times (names_of_job job) (temp_name_of name k) ≡ 0
  old_foreign name k fewer c apart copied None e = refl
  old_foreign name k fewer c apart copied (Some j) e = point_foreign cells p is k fewer name j e (none (times (copied_names j.copy) name) refl)
    where
      none : (n : ℕ) → times (copied_names j.copy) name ≡ n → times (copied_names j.copy) name ≡ 0
      none zero z = z
      none (suc n) z = absurd (let other : times (copied_names c) name ≡ 0 = (apart j e).files name (omega (arith, z)) in omega (arith, other, copied))

  alike : AllByRecursion (HoldsSame (meta_names state.files) p.copies.running) running
  alike = subst (AllByRecursion (HoldsSame (meta_names state.files) p.copies.running)) (sym beside) (beside_same (cells p.dir) p.files p.jobs (meta_names state.files) p.copies.running is.merges.each is.merges.apart)

  spares : (c : Job) → ((q : Name) → times (job_names c) q ≤ times (running_names running) q) → ((j : PointJob) → p.job ≡ Some j → CopyApart j.copy c) → HoldsSame (meta_names state.files) p.copies.running c
      → SparesJob c p.files files (cells p.dir) (cells dir)
  spares c within apart same = record {
    temporary = λ name k copied fewer.
        let t : Name = temp_name_of name k in
        let e : times (running_names running) t ≡ times (running_names (copies_beside (meta_names state.files) p.copies.running)) t = ap (λ (cs : List Job). times (running_names cs) t) beside in
        omega (arith, e, same name k copied fewer, balance t, names_now t, old_foreign name k fewer c apart copied p.job refl, reused_temporary cells p is PointKind number state infos of.files agreed copy copy_is is_copy slice slice_is mid holds name k);
    unheld = λ q copied none. zero_stays q none;
    bytes = copy_bytes c within;
  }

  number_is : now.number ≡ number
  number_is = takes.number ∙ ap (λ (j : Job). j.number) copy_is

  -- what the job copies are files of its state that the begun one lacks
  copied_state : (q : Name) → 0 < times (copied_names now) q → 0 < times (meta_names state.files) q
  copied_state q some = subst (λ (s : CopyState). 0 < times (meta_names s.files) q) want_state (copied_wanted now is_job q some)

  begun_apart : AllByRecursion (CopyApart now) running
  begun_apart = all_map (λ c. IsMergeCopy (cells p.dir) p.files p.jobs c × SharesNone (copied_names c) (meta_names state.files)) (CopyApart now) running
      (λ c h. record {
        numbers = λ same. absurd (omega (arith, same, number_is, last, h.0.given));
        files = λ q some. unshared c h.1 q some (times (copied_names c) q) refl;
      })
      (all_both (IsMergeCopy (cells p.dir) p.files p.jobs) (λ c. SharesNone (copied_names c) (meta_names state.files)) running (stay (IsMergeCopy (cells p.dir) p.files p.jobs) is.merges.each)
      (subst (AllByRecursion (λ c. SharesNone (copied_names c) (meta_names state.files))) (sym beside) (beside_apart (meta_names state.files) p.copies.running)))
    where
      unshared : (c : Job) → SharesNone (copied_names c) (meta_names state.files) → (q : Name) → 0 < times (copied_names now) q → (n : ℕ) → times (copied_names c) q ≡ n → times (copied_names c) q ≡ 0
      unshared c h q some zero z = z
      unshared c h q some (suc n) z = absurd (let wanted = copied_state q some in omega (arith, wanted, h q (omega (arith, z))))

  -- each merge copy is apart from the older job, where there is one
  old_apart : (job : Option PointJob) → p.job ≡ job → AllByRecursion (λ c. (j : PointJob) → p.job ≡ Some j → CopyApart j.copy c) p.copies.running
  old_apart None e = all_map (IsMergeCopy (cells p.dir) p.files p.jobs) (λ c. (j : PointJob) → p.job ≡ Some j → CopyApart j.copy c) p.copies.running (λ c m j f. absurd (never j (sym e ∙ f))) is.merges.each
    where
      never : (j : PointJob) → ◌≡◌ {A = Option PointJob} None (Some j) → ⊥
      never j g = cc
  old_apart (Some i) e = all_map (CopyApart i.copy) (λ c. (j : PointJob) → p.job ≡ Some j → CopyApart j.copy c) p.copies.running
      (λ c h j f. subst (λ (k : PointJob). CopyApart k.copy c) (same_Some i j (sym e ∙ f)) h)
      (subst (λ (o : Option PointJob). IfSome o (λ k. AllByRecursion (CopyApart k.copy) p.copies.running)) e is.merges.beside_job)

  abbrev Stays : Job → Type 0
  Stays c = IsMergeCopy (cells p.dir) p.files p.jobs c × ((q : Name) → times (job_names c) q ≤ times (running_names running) q)

  abbrev Apart : Job → Type 0
  Apart c = ((j : PointJob) → p.job ≡ Some j → CopyApart j.copy c) × HoldsSame (meta_names state.files) p.copies.running c

  begun_merges : AreMergeCopies (cells dir) files number (Some (record { copy = now; infos = infos; stopped = false })) (record { running = running; pending = p.copies.pending })
  begun_merges = record {
    each = all_map (λ c. Stays c × Apart c) (IsMergeCopy (cells dir) files number) running
        (λ c h. merge_spared (cells p.dir) (cells dir) p.files files p.jobs number c (omega (arith, last)) (spares c h.0.1 h.1.0 h.1.1) h.0.0)
        (all_both Stays Apart running held_merges
        (all_both (λ c. (j : PointJob) → p.job ≡ Some j → CopyApart j.copy c) (HoldsSame (meta_names state.files) p.copies.running) running
        (stay (λ c. (j : PointJob) → p.job ≡ Some j → CopyApart j.copy c) (old_apart p.job refl)) alike));
    apart = subst AreCopiesApart (sym beside) (copies_apart (meta_names state.files) p.copies.running is.merges.apart);
    beside_job = begun_apart;
    job_given = omega (arith, number_is);
    pending = is.merges.pending;
    unexpected = is.merges.unexpected;
  }

  -- ---- the whole replica
  pub begun_whole : number < 2 ^ 63 → IsWholeReplica cells after
  begun_whole few = whole_of cells after begun_core is.segs begun_known begun_metas few begun_merges

  pub begun_only : HoldsOnly p after
  begun_only q lasting some = inl (begun_held q some)

  pub begun_standing : AreStanding cells p → AreStanding cells after
  begun_standing h = standing_on cells p after (core_of cells p is) begun_core refl refl begun_stays h

  pub none_appears : NoneAppears (cells p.dir) (cells dir)
  none_appears = record { each = λ q none. keeps.none q refl none }
