-- Merge copies that end, and pending files that are given back.
use Rattle.std.proofs.Common.{◌≡◌, ◌+◌, ◌<◌, ◌≤◌, ◌^◌, ℕ, List, [], ◌++◌, Option, Some, None, refl, sym, ap, subst, arith}
use Rattle.std.specs.Prelude.{IfSome}
use Rattle.std.specs.List.{AllByRecursion}
use Rattle.file_names.specs.Names.{temp_name_of}
use Rattle.disk_model.specs.Disk.{Name, Content, Cells, reads_of}
use Rattle.file_deleter.specs.Holdings.{Holdings, times, AreCounted}
use Rattle.file_deleter.specs.Moves.{LetsGo, MovesCounts}
use Rattle.file_deleter.proofs.Keeping.{keeps_then}
use Rattle.file_deleter.proofs.NameLemmas.{times-append}
use Rattle.searcher_switch.specs.Node.{KeepsBytes}
use Rattle.copy_state.specs.States.{meta_names}
use Rattle.copy_job.specs.Jobs.{Job, job_names, IsJob}
use Rattle.replica_node.specs.declared.job.PointJob.{PointJob}
use Rattle.replica_node.specs.declared.merges.MergeCopies.{MergeCopies}
use Rattle.replica_node.specs.declared.parts.ReplicaParts.{ReplicaParts}
use Rattle.replica_node.specs.Merges.{copy_at, copies_without, running_names, copies_names, copied_names, no_copies, CopyApart}
use Rattle.replica_node.specs.Sources.{CopiesFrom, KeepsSource, HoldsOnly}
use Rattle.replica_node.specs.Replica.{IsWholeReplica, IsJobAbove, IsMergeCopy, AreMergeCopies, AreStanding, names_of_job, copying_names}
use Rattle.replica_node.proofs.Beside.{standing_on}
use Rattle.replica_node.proofs.Carried.{HoldsNoOther, held_along, job_along}
use Rattle.replica_node.proofs.Cores.{IsCore}
use Rattle.replica_node.proofs.Foreign.{apart_back, merge_foreign, beside_foreign}
use Rattle.replica_node.proofs.Keeping.{Knows, Matches, HasWanted, core_of, whole_of, knows_reads, reads_known, as_reads, reads_as, metas_reads, reads_metas, some_map, source_spared, holds_beside}
use Rattle.replica_node.proofs.Merging.{all_map, all_both, all_at, all_held, all_without, all_dropped, apart_without, names-without}
use Rattle.replica_node.proofs.Sparing.{SparesJob, waits_spared}
use Rattle.replica_node.proofs.GivenBack.{gone_counted, node_rest, point_rest, rest_other, rest_bytes, copy_bytes, copy_spared, copy_stays}

-- a claim of the job there is
pub some_with : {P Q : PointJob → Type 0} (job : Option PointJob) → ((j : PointJob) → job ≡ Some j → P j → Q j) → IfSome job P → IfSome job Q
some_with None turns h = tt
some_with (Some j) turns h = turns j refl h

module _ {D : Type 0} (cells : D → Cells) (p : ReplicaParts D) (is : IsWholeReplica cells p) (next : MergeCopies) (gone : List Name) (split : (q : Name) → times (copies_names p.copies) q ≡ times gone q + times (copies_names next) q) where
  core : IsCore cells p
  core = core_of cells p is

  abbrev pub left_names : List Name
  left_names = names_of_job p.job ++ copies_names next

  pub left_split : (q : Name) → times (copying_names p) q ≡ times gone q + times (names_of_job p.job ++ copies_names next) q
  left_split q = omega (arith, split q, times-append (names_of_job p.job) (copies_names p.copies) q, times-append (names_of_job p.job) (copies_names next) q)

  pub cancelled_counted : AreCounted gone p.files
  cancelled_counted = gone_counted cells p core gone (names_of_job p.job ++ copies_names next) left_split

  module _ (foreign : (j : PointJob) → p.job ≡ Some j → (name : Name) (k : ℕ) → 0 < times (copied_names j.copy) name → k < 2 ^ 64 → times gone (temp_name_of name k) ≡ 0) (dir : D) (files : Holdings) (lets_go : LetsGo gone p.files files (cells p.dir) (cells dir)) where
    other : HoldsNoOther p.files files
    other = rest_other cells p core gone (names_of_job p.job ++ copies_names next) left_split dir files lets_go

    stays : KeepsBytes p.files files (cells p.dir) (cells dir)
    stays = rest_bytes cells p core gone (names_of_job p.job ++ copies_names next) left_split dir files lets_go

    job_left : (j : PointJob) → p.job ≡ Some j → (q : Name) → times (job_names j.copy) q ≤ times (names_of_job p.job ++ copies_names next) q
    job_left j e q =
        let had : times (names_of_job p.job) q ≡ times (job_names j.copy) q = ap (λ (o : Option PointJob). times (names_of_job o) q) e in
        omega (arith, had, times-append (names_of_job p.job) (copies_names next) q)

    job_spared : (j : PointJob) → p.job ≡ Some j → SparesJob j.copy p.files files (cells p.dir) (cells dir)
    job_spared j e = copy_spared cells p core gone (names_of_job p.job ++ copies_names next) left_split dir files lets_go j.copy (job_left j e) (foreign j e)

    job_is : (j : PointJob) → p.job ≡ Some j → IsJob j.copy
    job_is j e = (subst (λ (o : Option PointJob). IfSome o (IsJobAbove p.searchers.point.version.0)) e is.newer).copy

    pub cancelled_core : IsCore cells (record p { dir = dir; files = files; copies = next })
    cancelled_core = record {
      node = node_rest cells p core gone (names_of_job p.job ++ copies_names next) left_split dir files lets_go;
      point = point_rest cells p core gone (names_of_job p.job ++ copies_names next) left_split dir files lets_go;
      spelled = is.spelled;
      lasting = is.lasting;
      newer = is.newer;
      waits = some_with p.job (λ j e. waits_spared j.copy p.files files (cells p.dir) (cells dir) (job_spared j e)) is.waits;
    }

    pub cancelled_whole : AreMergeCopies (cells dir) files p.jobs p.job next → IsWholeReplica cells (record p { dir = dir; files = files; copies = next })
    cancelled_whole merges = whole_of cells (record p { dir = dir; files = files; copies = next }) cancelled_core is.segs
        (reads_known (cells dir) files p.known (held_along (Knows p.known) (cells p.dir) (cells dir) p.files files other stays (knows_reads (cells p.dir) p.files p.known is.known)))
        (some_with p.job (λ j e h. reads_metas (cells dir) j.copy (job_along (HasWanted j.copy.want.files) (cells p.dir) (cells dir) j.copy (job_is j e) (job_spared j e).bytes (metas_reads (cells p.dir) j.copy h))) is.copied)
        is.few merges

    pub cancelled_sourced : ((source : Name → Content) → AllByRecursion (CopiesFrom source (reads_of (cells p.dir))) p.copies.running → AllByRecursion (CopiesFrom source (reads_of (cells dir))) next.running) → KeepsSource cells p (record p { dir = dir; files = files; copies = next })
    cancelled_sourced merges source h = record {
      held = reads_as source (cells dir) files (held_along (Matches source) (cells p.dir) (cells dir) p.files files other stays (as_reads source (cells p.dir) p.files h.held));
      job = some_with p.job (λ j e k. source_spared source (cells p.dir) (cells dir) j.copy (job_is j e) (job_spared j e).bytes k) h.job;
      merges = merges source h.merges;
    }

    pub cancelled_held : HoldsOnly p (record p { dir = dir; files = files; copies = next })
    cancelled_held = holds_beside p (record p { dir = dir; files = files; copies = next }) other

-- ---- one copy ends
module _ {D : Type 0} (cells : D → Cells) (p : ReplicaParts D) (is : IsWholeReplica cells p) (number : ℕ) (c : Job) (e : copy_at number p.copies.running ≡ Some c) where
  abbrev pub without_copy : MergeCopies
  without_copy = record { running = copies_without number p.copies.running; pending = p.copies.pending }

  pub copy_split : (q : Name) → times (copies_names p.copies) q ≡ times (job_names c) q + times (copies_names (record { running = copies_without number p.copies.running; pending = p.copies.pending })) q
  copy_split q = omega (arith, names-without number p.copies.running c q e, times-append (running_names p.copies.running) (meta_names p.copies.pending.files) q, times-append (running_names (copies_without number p.copies.running)) (meta_names p.copies.pending.files) q)

  is_copy : IsMergeCopy (cells p.dir) p.files p.jobs c
  is_copy = all_at (IsMergeCopy (cells p.dir) p.files p.jobs) number p.copies.running c e is.merges.each

  pub copy_foreign : (j : PointJob) → p.job ≡ Some j → (name : Name) (k : ℕ) → 0 < times (copied_names j.copy) name → k < 2 ^ 64 → times (job_names c) (temp_name_of name k) ≡ 0
  copy_foreign j f name k copied fewer =
      let apart : AllByRecursion (CopyApart j.copy) p.copies.running = subst (λ (o : Option PointJob). IfSome o (λ k. AllByRecursion (CopyApart k.copy) p.copies.running)) f is.merges.beside_job in
      let mine : CopyApart j.copy c = all_at (CopyApart j.copy) number p.copies.running c e apart in
      merge_foreign (cells p.dir) p.files p.jobs c is_copy k fewer name (mine.files name copied)

  module _ (dir : D) (files : Holdings) (lets_go : LetsGo (job_names c) p.files files (cells p.dir) (cells dir)) where
    left : List Name
    left = names_of_job p.job ++ copies_names (record { running = copies_without number p.copies.running; pending = p.copies.pending })

    abbrev Stays : Job → Type 0
    Stays d = (IsMergeCopy (cells p.dir) p.files p.jobs d × CopyApart c d) × ((q : Name) → times (job_names d) q ≤ times (names_of_job p.job ++ copies_names (record { running = copies_without number p.copies.running; pending = p.copies.pending })) q)

    others_stay : AllByRecursion Stays (copies_without number p.copies.running)
    others_stay = all_both (λ d. IsMergeCopy (cells p.dir) p.files p.jobs d × CopyApart c d) (λ d. (q : Name) → times (job_names d) q ≤ times (names_of_job p.job ++ copies_names (record { running = copies_without number p.copies.running; pending = p.copies.pending })) q) (copies_without number p.copies.running)
        (all_without (IsMergeCopy (cells p.dir) p.files p.jobs) number p.copies.running c e is.merges.apart is.merges.each)
        (all_held (copies_without number p.copies.running) (names_of_job p.job ++ copies_names (record { running = copies_without number p.copies.running; pending = p.copies.pending })) (λ q.
        omega (arith, times-append (names_of_job p.job) (copies_names (record { running = copies_without number p.copies.running; pending = p.copies.pending })) q, times-append (running_names (copies_without number p.copies.running)) (meta_names p.copies.pending.files) q)))

    other_foreign : (d : Job) → CopyApart c d → (name : Name) (k : ℕ) → 0 < times (copied_names d) name → k < 2 ^ 64 → times (job_names c) (temp_name_of name k) ≡ 0
    other_foreign d apart name k copied fewer = merge_foreign (cells p.dir) p.files p.jobs c is_copy k fewer name (apart_back c d apart name copied)

    without_merges : AreMergeCopies (cells dir) files p.jobs p.job (record { running = copies_without number p.copies.running; pending = p.copies.pending })
    without_merges = record {
      each = all_map Stays (IsMergeCopy (cells dir) files p.jobs) (copies_without number p.copies.running)
          (λ d h. copy_stays cells p (core_of cells p is) (job_names c) (names_of_job p.job ++ copies_names (record { running = copies_without number p.copies.running; pending = p.copies.pending }))
          (left_split cells p is (record { running = copies_without number p.copies.running; pending = p.copies.pending }) (job_names c) copy_split) dir files lets_go d h.1 (other_foreign d h.0.1) p.jobs h.0.0) others_stay;
      apart = apart_without number p.copies.running is.merges.apart;
      beside_job = some_map p.job (λ j. all_dropped (CopyApart j.copy) number p.copies.running) is.merges.beside_job;
      job_given = is.merges.job_given;
      pending = is.merges.pending;
      unexpected = is.merges.unexpected;
    }

    pub without_core : IsCore cells (record p { dir = dir; files = files; copies = record { running = copies_without number p.copies.running; pending = p.copies.pending } })
    without_core = cancelled_core cells p is (record { running = copies_without number p.copies.running; pending = p.copies.pending }) (job_names c) copy_split copy_foreign dir files lets_go

    pub without_whole : IsWholeReplica cells (record p { dir = dir; files = files; copies = record { running = copies_without number p.copies.running; pending = p.copies.pending } })
    without_whole = cancelled_whole cells p is (record { running = copies_without number p.copies.running; pending = p.copies.pending }) (job_names c) copy_split copy_foreign dir files lets_go without_merges

    pub without_sourced : KeepsSource cells p (record p { dir = dir; files = files; copies = record { running = copies_without number p.copies.running; pending = p.copies.pending } })
    without_sourced = cancelled_sourced cells p is (record { running = copies_without number p.copies.running; pending = p.copies.pending }) (job_names c) copy_split copy_foreign dir files lets_go (λ source h.
        all_map (λ d. Stays d × CopiesFrom source (reads_of (cells p.dir)) d) (CopiesFrom source (reads_of (cells dir))) (copies_without number p.copies.running)
        (λ d k. source_spared source (cells p.dir) (cells dir) d k.0.0.0.copy (copy_bytes cells p (core_of cells p is) (job_names c) (names_of_job p.job ++ copies_names (record { running = copies_without number p.copies.running; pending = p.copies.pending }))
        (left_split cells p is (record { running = copies_without number p.copies.running; pending = p.copies.pending }) (job_names c) copy_split) dir files lets_go d k.0.1 (other_foreign d k.0.0.1)) k.1)
        (all_both Stays (CopiesFrom source (reads_of (cells p.dir))) (copies_without number p.copies.running) others_stay (all_dropped (CopiesFrom source (reads_of (cells p.dir))) number p.copies.running h)))

    pub without_held : HoldsOnly p (record p { dir = dir; files = files; copies = record { running = copies_without number p.copies.running; pending = p.copies.pending } })
    without_held = cancelled_held cells p is (record { running = copies_without number p.copies.running; pending = p.copies.pending }) (job_names c) copy_split copy_foreign dir files lets_go

-- ---- all copies end, and every pending file is given back
module _ {D : Type 0} (cells : D → Cells) (p : ReplicaParts D) (is : IsWholeReplica cells p) where
  pub all_split : (q : Name) → times (copies_names p.copies) q ≡ times (copies_names p.copies) q + times (copies_names no_copies) q
  all_split q = let none : times (copies_names no_copies) q ≡ 0 = refl in omega (arith, none)

  pub all_foreign : (j : PointJob) → p.job ≡ Some j → (name : Name) (k : ℕ) → 0 < times (copied_names j.copy) name → k < 2 ^ 64 → times (copies_names p.copies) (temp_name_of name k) ≡ 0
  all_foreign j e name k copied fewer = beside_foreign cells p is j e k fewer name copied

  pub none_merges : (dir : D) (files : Holdings) → AreMergeCopies (cells dir) files p.jobs p.job no_copies
  none_merges dir files = record {
    each = tt;
    apart = tt;
    beside_job = some_map p.job (λ j h. tt) is.merges.beside_job;
    job_given = is.merges.job_given;
    pending = record { each = λ name job. refl };
    unexpected = refl;
  }

  module _ (dir : D) (files : Holdings) (lets_go : LetsGo (copies_names p.copies) p.files files (cells p.dir) (cells dir)) where
    pub none_core : IsCore cells (record p { dir = dir; files = files; copies = no_copies })
    none_core = cancelled_core cells p is no_copies (copies_names p.copies) all_split all_foreign dir files lets_go

    pub none_whole : IsWholeReplica cells (record p { dir = dir; files = files; copies = no_copies })
    none_whole = cancelled_whole cells p is no_copies (copies_names p.copies) all_split all_foreign dir files lets_go (none_merges dir files)

    pub none_sourced : KeepsSource cells p (record p { dir = dir; files = files; copies = no_copies })
    none_sourced = cancelled_sourced cells p is no_copies (copies_names p.copies) all_split all_foreign dir files lets_go (λ source h. tt)

    pub none_held : HoldsOnly p (record p { dir = dir; files = files; copies = no_copies })
    none_held = cancelled_held cells p is no_copies (copies_names p.copies) all_split all_foreign dir files lets_go

-- ---- as the calls leave the copies
module _ {D : Type 0} (cells : D → Cells) (p : ReplicaParts D) (is : IsWholeReplica cells p) (number : ℕ) (c : Job) (e : copy_at number p.copies.running ≡ Some c) (dir : D) (files : Holdings) (lets_go : LetsGo (job_names c) p.files files (cells p.dir) (cells dir))
    (left : List Job) (left_is : left ≡ copies_without number p.copies.running) where
  pub left_whole : IsWholeReplica cells (record p { dir = dir; files = files; copies = record { running = left; pending = p.copies.pending } })
  left_whole = subst (λ (r : List Job). IsWholeReplica cells (record p { dir = dir; files = files; copies = record { running = r; pending = p.copies.pending } })) (sym left_is) (without_whole cells p is number c e dir files lets_go)

  pub left_sourced : KeepsSource cells p (record p { dir = dir; files = files; copies = record { running = left; pending = p.copies.pending } })
  left_sourced = subst (λ (r : List Job). KeepsSource cells p (record p { dir = dir; files = files; copies = record { running = r; pending = p.copies.pending } })) (sym left_is) (without_sourced cells p is number c e dir files lets_go)

  pub left_standing : AreStanding cells p → AreStanding cells (record p { dir = dir; files = files; copies = record { running = left; pending = p.copies.pending } })
  left_standing = standing_on cells p (record p { dir = dir; files = files; copies = record { running = left; pending = p.copies.pending } }) (core_of cells p is)
      (core_of cells (record p { dir = dir; files = files; copies = record { running = left; pending = p.copies.pending } }) left_whole) refl refl (record { held = lets_go.keeps.reads })

-- what the copies held and what was pending is given back
pub all_gone : (running pending slice : List Name) (h0 h1 h2 : Holdings) (a b c : Cells) → MovesCounts [] running [] h0 h1 a b → slice ≡ pending → LetsGo slice h1 h2 b c → LetsGo (running ++ pending) h0 h2 a c
all_gone running pending slice h0 h1 h2 a b c moves same lets_go = record {
  counts = λ q.
      let e : times slice q ≡ times pending q = ap (λ (ns : List Name). times ns q) same in
      let none : times [] q ≡ 0 = refl in
      omega (arith, e, none, moves.balance q, lets_go.counts q, times-append running pending q);
  keeps = keeps_then [] [] h0 h1 h2 a b c moves.keeps lets_go.keeps (λ q had has. omega (arith, has, lets_go.counts q));
}

module _ {D : Type 0} (cells : D → Cells) (p : ReplicaParts D) (is : IsWholeReplica cells p) where
  pub running_counted : AreCounted (running_names p.copies.running) p.files
  running_counted = record { each = λ q. let all = (cancelled_counted cells p is no_copies (copies_names p.copies) (all_split cells p is)).each q in omega (arith, all, times-append (running_names p.copies.running) (meta_names p.copies.pending.files) q) }

  -- what is pending is still counted once the copies have ended
  pub pending_counted : (files : Holdings) (dir : D) (slice : List Name) → slice ≡ meta_names p.copies.pending.files → MovesCounts [] (running_names p.copies.running) [] p.files files (cells p.dir) (cells dir) → AreCounted slice files
  pending_counted files dir slice same moves = record {
    each = λ q.
        let all = (cancelled_counted cells p is no_copies (copies_names p.copies) (all_split cells p is)).each q in
        let e : times slice q ≡ times (meta_names p.copies.pending.files) q = ap (λ (ns : List Name). times ns q) same in
        let none : times [] q ≡ 0 = refl in
        omega (arith, all, e, none, moves.balance q, times-append (running_names p.copies.running) (meta_names p.copies.pending.files) q);
  }

  module _ (dir : D) (files : Holdings) (lets_go : LetsGo (copies_names p.copies) p.files files (cells p.dir) (cells dir)) (next : MergeCopies) (next_is : next ≡ no_copies) where
    pub gone_whole : IsWholeReplica cells (record p { dir = dir; files = files; copies = next })
    gone_whole = subst (λ (k : MergeCopies). IsWholeReplica cells (record p { dir = dir; files = files; copies = k })) (sym next_is) (none_whole cells p is dir files lets_go)

    pub gone_sourced : KeepsSource cells p (record p { dir = dir; files = files; copies = next })
    gone_sourced = subst (λ (k : MergeCopies). KeepsSource cells p (record p { dir = dir; files = files; copies = k })) (sym next_is) (none_sourced cells p is dir files lets_go)

    pub gone_standing : AreStanding cells p → AreStanding cells (record p { dir = dir; files = files; copies = next })
    gone_standing = standing_on cells p (record p { dir = dir; files = files; copies = next }) (core_of cells p is) (core_of cells (record p { dir = dir; files = files; copies = next }) gone_whole) refl refl (record { held = lets_go.keeps.reads })
